-- A room that is as long as what was not told yet and as the longest replacement holds what is written for a chunk.
use Rattle.std.proofs.Common.{◌≡◌, ◌-◌, ◌≤◌, ℕ, List, [], map, max, length, ap, sym, inl, inr, arith}
use Rattle.std.specs.Prelude.{slice_index_or}
use Rattle.std.specs.Borrow.{Bor}
use Rattle.std.proofs.lemmas.Bool.{cases_lt}
use Rattle.std.proofs.lemmas.List.{get_or_past}
use Rattle.aho_core.specs.Laws.{longest}
use Rattle.aho_core.specs.Patterns.{Patterns}
use Rattle.aho_core.specs.Replacement.{pieces_of}
use Rattle.aho_automaton.specs.declared.automaton.Automaton.{Ghosts}
use Rattle.aho_laws.proofs.OverlappingParts.{longest-least}
use Rattle.aho_laws.proofs.SpanTexts.{length_part}
use Rattle.aho_stream.proofs.Pushings.{holds_told}
use Rattle.aho_stream.specs.After.{IsAfter}
use Rattle.aho_stream.specs.Chunks.{TellsChunk}
use Rattle.aho_stream.specs.declared.progress.StreamPiece.{StreamPiece}
use Rattle.aho_stream.specs.declared.progress.StreamPiece.TheVariants.{NonMatch, Match}
use Rattle.aho_stream.specs.declared.progress.StreamProgress.{StreamProgress}
use Rattle.chromesquid_c.specs.Streaming.{HasRoomFor, put_for}

-- the piece of a pattern is at most as long as the longest
piece-most : (pieces : List (List ℕ)) (k : ℕ) → length (slice_index_or pieces k []) ≤ longest (map length pieces)
piece-most pieces k =
    elim (cases_lt k (length pieces)) [
      | inl within ↦ longest-least pieces k within
      | inr past ↦ omega (arith, ap length (get_or_past pieces k [] past))
    ]

-- what is written for a chunk fits
pub chunk-fits : (piece : StreamPiece) (progress : StreamProgress) (pieces : List (Bor (List ℕ))) (room given : List ℕ) → HasRoomFor progress pieces room → length given ≡ progress.read
    → length (put_for piece progress given pieces) ≤ length room
chunk-fits NonMatch progress pieces room given enough count =
    omega (arith, length_part given progress.told progress.reported (omega (arith, count, enough.holds.given)), enough.chunk)
chunk-fits (Match m) progress pieces room given enough count = omega (arith, piece-most (pieces_of pieces) m.pattern, enough.each)

-- a chunk is no longer than what was not told before it
pub chunk-most : (p : Patterns) (s s' : StreamProgress) (given : List ℕ) (piece : StreamPiece) → TellsChunk p s s' given piece → s'.reported - s'.told ≤ length given - s.reported
chunk-most p s s' given NonMatch tells = omega (arith, tells.told, tells.read)
chunk-most p s s' given (Match m) tells = omega (arith, tells.told, tells.starts, tells.reported, tells.read)

-- so a room that is as long as that and as the longest replacement is long enough
pub enough-room : {S : Type 0} (A : Ghosts S) (automaton : S) (p : Patterns) (s s' : StreamProgress) (given : List ℕ) (piece : StreamPiece) (pieces : List (Bor (List ℕ))) (room : List ℕ)
    → IsAfter A automaton p 0 s given → IsAfter A automaton p 0 s' given → TellsChunk p s s' given piece
    → max (s.read - s.reported) (longest (map length (pieces_of pieces))) ≤ length room → HasRoomFor s' pieces room
enough-room A automaton p s s' given piece pieces room before after tells most = record {
  holds = holds_told A automaton p 0 s' given after;
  given = given;
  count = sym after.count;
  last = after.last;
  chunk = omega (arith, chunk-most p s s' given piece tells, before.count, most);
  each = omega (arith, most);
}
