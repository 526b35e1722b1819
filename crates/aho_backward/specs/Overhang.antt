-- By how many bytes a pattern goes on behind another one that occurs in it.
use Rattle.std.specs.Prelude.{◌≡◌, ◌⊎◌, ◌↔◌, ℕ, ◌+◌, ◌<◌, ◌≤◌, Bool, IsTrue, length}
use Rattle.aho_core.specs.declared.search.Anchored.TheVariants.{No}
use Rattle.aho_core.specs.Occurrence.{Occurrence}
use Rattle.aho_core.specs.Occurs.{Occurs}
use Rattle.aho_core.specs.Patterns.{Patterns, pattern_at}
use Rattle.aho_backward.specs.Turned.{size_of}

-- some pattern occurs in the pattern of this number, and so many bytes of that stand behind it; none where it is that one itself
pub record HasBehind (p : Patterns) (number count : ℕ) : Type 0 where
  pub inner : Occurrence
  pub occurs : Occurs p No (pattern_at p number) 0 (size_of p number) inner
  pub behind : inner.end + count ≡ size_of p number

-- the most of them, of all patterns: 0 where no pattern ends inside of another one
pub record IsOverhang (p : Patterns) (most : ℕ) : Type 0 where
  pub reached : (most ≡ 0) ⊎ ((number : ℕ) × (number < length p.words) × HasBehind p number most)
  pub greatest : (number count : ℕ) → number < length p.words → HasBehind p number count → count ≤ most

-- an answer says whether it is above a bound
abbrev pub IsAbove : ℕ → Patterns → Bool → Type 0
IsAbove bound p answer = (most : ℕ) → IsOverhang p most → (IsTrue answer ↔ (bound < most))
