-- What a refill changes, from what its parts promise.
use Rattle.std.proofs.Common.{◌≡◌, ℕ, ◌+◌, ◌-◌, ◌≤◌, min, Bool, List, ◌++◌, Option, length, sym, refl, ◌∙◌, ap, subst, arith, length-append}
use Rattle.aho_devices.specs.Buffer.{Buffered, Gains}
use Rattle.aho_stream.specs.After.{EndsWith}
use Rattle.aho_stream.specs.Refills.{Refills}
use Rattle.aho_stream.specs.declared.progress.StreamProgress.{StreamProgress}
use Rattle.aho_stream.proofs.GivenBytes.{EndsWith-append}

-- room was made in the buffer, and then it gained what was read
pub refilled : (s : StreamProgress) (roomy filled : Buffered) (read patience : ℕ) (ended refused : Bool) (before after : Option (List ℕ))
    → ((given : List ℕ) → EndsWith given s.buffer.bytes → EndsWith given roomy.bytes)
    → length roomy.bytes ≡ min s.buffer.least (length s.buffer.bytes)
    → roomy.least ≡ s.buffer.least → roomy.size ≡ s.buffer.size
    → Gains roomy filled before after
    → read ≡ s.read + (length filled.bytes - length roomy.bytes)
    → s.read ≤ s.limit → length filled.bytes ≤ length roomy.bytes + (s.limit - s.read)
    → Refills s (record s { buffer = filled; read = read; patience = patience; ended = ended; refused = refused }) before after
refilled s roomy filled read patience ended refused before after last kept least size gained count below limited =
    let long : length filled.bytes ≡ length roomy.bytes + length gained.bytes = ap length gained.held ∙ length-append roomy.bytes gained.bytes in
    record {
      bytes = gained.bytes;
      given = gained.given;
      others = refl;
      count = omega (arith, long, count);
      limited = omega (arith, count);
      least = gained.least ∙ least;
      size = gained.size ∙ size;
      last = λ given e. subst (EndsWith (given ++ gained.bytes)) (sym gained.held) (EndsWith-append given roomy.bytes gained.bytes (last given e));
      kept = omega (arith, long, kept);
    }
