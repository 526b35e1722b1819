-- The shortest of some lengths.
use Rattle.std.proofs.Common.{◌≡◌, ℕ, ◌≤◌, List, [], ◌∷◌, arith}
use Rattle.std.specs.Prelude.{min}
use Rattle.aho_core.specs.Laws.{shortest}

shortest-bound : (ns : List ℕ) → shortest ns ≤ 18446744073709551615
shortest-bound [] = omega arith
shortest-bound (n ∷ ns) = omega (arith, shortest-bound ns)

-- the greatest number is no shorter
pub min-shortest : (ns : List ℕ) → min 18446744073709551615 (shortest ns) ≡ shortest ns
min-shortest ns = omega (arith, shortest-bound ns)
