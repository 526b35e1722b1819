-- What an iteration finds next, and the list of what it finds.
use Rattle.std.proofs.Common.{◌≡◌, ℕ, ◌≤◌, List, [], ◌∷◌, ◌++◌, length, Option, Some, None}
use Rattle.aho_core.specs.Iteration.{AreFinds, IsNextFind}
use Rattle.aho_core.specs.Occurrence.{Occurrence}
use Rattle.aho_core.specs.Patterns.{Patterns}
use Rattle.aho_core.specs.Search.{Search}
use Rattle.aho_automaton.specs.Finding.{AreFirstFinds}
use Rattle.aho_laws.proofs.Iterations.{find-occurs, finds-exist, finds-unique, Occurs-ordered}

module _ (p : Patterns) (search : Search) (last : Option ℕ) where
  -- it stands in what is searched
  pub find-within : (m : Occurrence) → IsNextFind p search last (Some m) → (search.start ≤ m.start) × (m.start ≤ m.end) × (m.end ≤ search.end)
  find-within m found =
      let occurs = find-occurs p search last m found in
      (occurs.after_start, Occurs-ordered p search.haystack search.start search.end m occurs, occurs.before_end)

  -- it begins the list
  pub finds-next : (m : Occurrence) (ms : List Occurrence) → search.end ≤ length search.haystack → AreFinds p search last ms → IsNextFind p search last (Some m)
      → (rest : List Occurrence) × (ms ≡ m ∷ rest) × AreFinds p (record search { start = m.end }) (Some m.end) rest
  finds-next m ms within finds found =
      let rest = finds-exist p (record search { start = m.end }) (Some m.end) within in
      (rest.0, finds-unique p ms (m ∷ rest.0) search last finds (found, rest.1), rest.1)

  -- where nothing is found next, the list is at its end
  pub finds-none : (ms : List Occurrence) → AreFinds p search last ms → IsNextFind p search last None → ms ≡ []
  finds-none ms finds found = finds-unique p ms [] search last finds found

-- the first finds begin a list of finds
pub finds-begun : (p : Patterns) (ms : List Occurrence) (search : Search) (last : Option ℕ) → search.end ≤ length search.haystack → AreFirstFinds p search last ms
    → (more : List Occurrence) × AreFinds p search last (ms ++ more)
finds-begun p [] search last within first = finds-exist p search last within
finds-begun p (m ∷ ms) search last within first =
    let rest = finds-begun p ms (record search { start = m.end }) (Some m.end) within first.1 in
    (rest.0, (first.0, rest.1))
