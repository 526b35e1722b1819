-- How long what occurs is.
use Rattle.std.proofs.Common.{◌≡◌, ℕ, suc, zero, ◌+◌, ◌<◌, ◌≤◌, List, [], ◌∷◌, length, map, ap, subst, arith}
use Rattle.std.specs.Prelude.{slice_index_or}
use Rattle.aho_core.specs.declared.search.Anchored.{Anchored}
use Rattle.aho_core.specs.Laws.{longest, shortest}
use Rattle.aho_core.specs.Occurrence.{Occurrence}
use Rattle.aho_core.specs.Occurs.{Occurs}
use Rattle.aho_core.specs.Patterns.{Patterns}

-- the shortest word is no longer than any, and the longest no shorter
pub shortest_bounds : (words : List (List ℕ)) (k : ℕ) → k < length words → shortest (map length words) ≤ length (slice_index_or words k [])
shortest_bounds [] k within = absurd (omega (arith, within))
shortest_bounds (w ∷ ws) zero within = omega arith
shortest_bounds (w ∷ ws) (suc k) within = omega (arith, shortest_bounds ws k (omega arith))

pub longest_bounds : (words : List (List ℕ)) (k : ℕ) → k < length words → length (slice_index_or words k []) ≤ longest (map length words)
longest_bounds [] k within = absurd (omega (arith, within))
longest_bounds (w ∷ ws) zero within = omega arith
longest_bounds (w ∷ ws) (suc k) within = omega (arith, longest_bounds ws k (omega arith))

module _ (p : Patterns) (lengths : List ℕ) (are : lengths ≡ map length p.words) {anchored : Anchored} {haystack : List ℕ} {start end : ℕ} (m : Occurrence) (o : Occurs p anchored haystack start end m) where
  -- where no pattern is empty, what occurs has a byte
  pub occurs_some : 1 ≤ shortest lengths → m.start + 1 ≤ m.end
  occurs_some no_empty = omega (arith, o.sized, shortest_bounds p.words m.pattern o.numbered, subst (λ (ns : List ℕ). 1 ≤ shortest ns) are no_empty)

  -- and no more than the longest pattern
  pub occurs_short : m.end ≤ m.start + longest lengths
  occurs_short = omega (arith, o.sized, longest_bounds p.words m.pattern o.numbered, ap longest are)
