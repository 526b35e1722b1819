-- How pushes and the end keep what is known of how far a search of a stream has come, and what is found in what was pushed.
use Rattle.std.proofs.Common.{◌≡◌, ap, length, ℕ, ◌+◌, ◌≤◌, Bool, true, false, List, [], ◌++◌, refl, sym, subst, arith, length-append}
use Rattle.std.specs.Prelude.{IfSome, None, Option, Some}
use Rattle.aho_core.specs.Patterns.{Patterns}
use Rattle.aho_core.specs.declared.search.MatchKind.TheVariants.{Standard}
use Rattle.aho_automaton.specs.declared.automaton.Automaton.{Ghosts}
use Rattle.aho_stream.specs.After.{IsAfter, MayFollow}
use Rattle.aho_stream.specs.Chunks.{TellsChunk}
use Rattle.aho_stream.specs.Pushing.{Adds, HoldsTold, TellsNoneYet, TellsOfGiven}
use Rattle.aho_stream.specs.declared.progress.StreamPiece.{StreamPiece}
use Rattle.aho_stream.specs.declared.progress.StreamProgress.{StreamProgress}
use Rattle.aho_stream.proofs.Afters.{after_refilled, after_told, in_hand_same}

-- nothing may follow whatever may
may_follow : (ended : Bool) (more : List ℕ) → more ≡ [] → MayFollow ended more
may_follow true more nothing = nothing
may_follow false more nothing = tt

module _ {S : Type 0} (A : Ghosts S) (automaton : S) (p : Patterns) where
  -- bytes were put behind those that are kept, where all was searched through
  pub after_added : (s s' : StreamProgress) (given bytes : List ℕ) → Adds (record s { told = s.reported }) s' bytes → IsAfter A automaton p 0 s given
      → (p.kind ≡ Standard → s.in_hand ≡ None) → s.walked ≡ s.read → s.read ≤ s.reported + s.buffer.least → s.ended ≡ false → s.refused ≡ false
      → IsAfter A automaton p 0 s' (given ++ bytes)
  after_added s s' given bytes adds a free walked near going unrefused =
      let t : StreamProgress = record s { told = s.reported } in
      let u : StreamProgress = record t { buffer = s'.buffer; read = s'.read; patience = s'.patience } in
      subst (λ (x : StreamProgress). IsAfter A automaton p 0 x (given ++ bytes)) (sym adds.others)
      (after_refilled A automaton p 0 t u given None None
      (record {
        bytes = bytes;
        given = tt;
        others = refl;
        count = adds.count;
        limited = adds.limited;
        least = adds.least;
        size = adds.size;
        last = adds.last;
        kept = adds.kept;
      })
      (after_told A automaton p 0 s given a) free walked refl near going (λ e. cc))

  -- the stream has ended
  pub after_ended : (s : StreamProgress) (given : List ℕ) → IsAfter A automaton p 0 s given → s.refused ≡ false → IsAfter A automaton p 0 (record s { ended = true }) given
  after_ended s given a unrefused = record {
    no_empty = a.no_empty;
    sized = a.sized;
    start_is = a.start_is;
    start_shallow = a.start_shallow;
    start_held = a.start_held;
    count = a.count;
    limited = a.limited;
    bounded = a.bounded;
    least = a.least;
    size = a.size;
    enough = a.enough;
    last = a.last;
    kept = a.kept;
    told_reported = a.told_reported;
    from_reported = a.from_reported;
    from_origin = a.from_origin;
    origin_walked = a.origin_walked;
    reported_walked = a.reported_walked;
    walked_read = a.walked_read;
    position = a.position;
    once = a.once;
    each = a.each;
    paid = a.paid;
    apart = a.apart;
    is_state = a.is_state;
    held_is = a.held_is;
    best_is = a.best_is;
    in_hand_is = in_hand_same A automaton p s (record s { ended = true }) refl refl s.in_hand a.in_hand_is;
    clear = λ more m nothing answer. a.clear more m (may_follow s.ended more nothing) answer;
    stopped = λ e. cc;
  }

-- what a call tells, where it tells something or nothing yet
pub tells_of_given : (p : Patterns) (s s' : StreamProgress) (given : List ℕ) (piece : Option StreamPiece) → (piece ≡ None → TellsNoneYet p s s' given) → IfSome piece (TellsChunk p s s' given)
    → TellsOfGiven p s s' given piece
tells_of_given p s s' given None none some = none refl
tells_of_given p s s' given (Some piece) none some = some

-- a search under way holds its last chunk
pub holds_told : {S : Type 0} (A : Ghosts S) (automaton : S) (p : Patterns) (lookups : ℕ) (s : StreamProgress) (given : List ℕ) → IsAfter A automaton p lookups s given → HoldsTold s
holds_told A automaton p lookups s given a = record {
  ordered = a.told_reported;
  given = omega (arith, a.reported_walked, a.walked_read);
  held = a.kept;
  whole = omega (arith, a.count, ap length a.last.1, length-append a.last.0 s.buffer.bytes);
}
