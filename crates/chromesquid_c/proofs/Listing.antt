-- How many finds a haystack has at most.
use Rattle.std.proofs.Common.{◌≤◌, ℕ, List, [], ◌∷◌, Option, Some, length, arith}
use Rattle.aho_core.specs.Iteration.{AreFinds}
use Rattle.aho_core.specs.Occurrence.{Occurrence}
use Rattle.aho_core.specs.Patterns.{Patterns}
use Rattle.aho_core.specs.Search.{Search}
use Rattle.aho_automaton.specs.Finding.{places_left}
use Rattle.chromesquid.proofs.Iterated.{fewer_after}

-- each ends at a place of its own
pub few-finds : (p : Patterns) (search : Search) (last : Option ℕ) (ms : List Occurrence) → AreFinds p search last ms → length ms ≤ places_left search last
few-finds p search last [] finds = omega arith
few-finds p search last (m ∷ ms) finds =
    let fewer = fewer_after p search last (Some m) finds.0 in
    let rest = few-finds p (record search { start = m.end }) (Some m.end) ms finds.1 in
    omega (arith, fewer, rest)
