-- The finds of a haystack stand one behind the other.
use Rattle.std.proofs.Common.{◌≡◌, ℕ, ◌≤◌, List, [], ◌∷◌, Option, subst, arith}
use Rattle.aho_core.specs.Iteration.{AreFinds}
use Rattle.aho_core.specs.Occurrence.{Occurrence}
use Rattle.aho_core.specs.Patterns.{Patterns}
use Rattle.aho_core.specs.Search.{Search}
use Rattle.aho_automaton.proofs.NextFinds.{find-within}
use Rattle.aho_backward.specs.Replacing.{StandInTurn}

pub finds_apart : (p : Patterns) (search : Search) (last : Option ℕ) (ms : List Occurrence) → search.start ≤ search.end → AreFinds p search last ms → StandInTurn search.start search.end ms
finds_apart p search last [] ordered finds = ordered
finds_apart p search last (m ∷ ms) ordered finds =
    let within = find-within p search last m finds.0 in
    (within.0, within.1, finds_apart p (record search { start = m.end }) _ ms within.2 finds.1)

apart_upto : (at end : ℕ) (ms : List Occurrence) → StandInTurn at end ms → at ≤ end
apart_upto at end [] apart = apart
apart_upto at end (m ∷ ms) apart = let later = apart_upto m.end end ms apart.2 in omega (arith, apart, later)

-- where the next of them lies, and what is left
pub apart_next : (at end : ℕ) (ms rest : List Occurrence) (m : Occurrence) → ms ≡ m ∷ rest → StandInTurn at end ms
    → (at ≤ m.start) × (m.start ≤ m.end) × (m.end ≤ end) × StandInTurn m.end end rest
apart_next at end ms rest m same apart =
    let here : StandInTurn at end (m ∷ rest) = subst (StandInTurn at end) same apart in
    (here.0, here.1, apart_upto m.end end rest here.2, here.2)
