-- Worked examples of covers, computed.
use Rattle.std.specs.Prelude.{◌≡◌, ℕ, List, [], ◌∷◌, length, codes, refl}
use Rattle.std.proofs.Common.{subst}
use Rattle.aho_core.specs.declared.search.MatchKind.TheVariants.{Standard}
use Rattle.aho_core.specs.Cover.{AreRuns, IsCover}
use Rattle.aho_core.specs.Occurrence.{Occurrence}
use Rattle.aho_core.specs.Patterns.{Patterns}
use Rattle.aho_core.specs.Replacement.{replaced}
use Rattle.aho_laws.specs.CoverLaws.{runs_upto}
use Rattle.aho_laws.proofs.TextRuns.{runs-made}
use Rattle.aho_laws.proofs.WorkedExamples.{any_case, at, exact}

-- the text with one piece for each pattern
cover-computed : (p : Patterns) (haystack : List ℕ) (pieces : List (List ℕ)) (runs : List Occurrence) (output : List ℕ) → runs_upto p haystack (length haystack) ≡ runs → output ≡ replaced haystack runs pieces → IsCover p haystack pieces output
cover-computed p haystack pieces runs output e f = (runs, subst (AreRuns p haystack) e (runs-made p haystack), f)

abbrev stars : List (List ℕ)
stars = codes "*" ∷ codes "**" ∷ codes "***" ∷ []

-- two that overlap are one run; the piece is that of the one that begins it
overlapping_ones : IsCover (exact Standard (codes "ab" ∷ codes "bcd" ∷ [])) (codes "abcd") stars (codes "*")
overlapping_ones = cover-computed _ (codes "abcd") stars (at 0 0 4 ∷ []) _ refl refl

-- one that ends later begins before another
begun_before : IsCover (exact Standard (codes "b" ∷ codes "abc" ∷ [])) (codes "xabc") stars (codes "x**")
begun_before = cover-computed _ (codes "xabc") stars (at 1 1 4 ∷ []) _ refl refl

-- two that touch are one run
touching_ones : IsCover (exact Standard (codes "cd" ∷ codes "ab" ∷ [])) (codes "xabcdx") stars (codes "x**x")
touching_ones = cover-computed _ (codes "xabcdx") stars (at 1 1 5 ∷ []) _ refl refl

-- with a byte between them they are two
apart_ones : IsCover (exact Standard (codes "cd" ∷ codes "ab" ∷ [])) (codes "abxcd") stars (codes "**x*")
apart_ones = cover-computed _ (codes "abxcd") stars (at 1 0 2 ∷ at 0 3 5 ∷ []) _ refl refl

-- and one that ends later may join them
joined_later : IsCover (exact Standard (codes "cd" ∷ codes "ab" ∷ codes "abxcde" ∷ [])) (codes "yabxcdez") stars (codes "y***z")
joined_later = cover-computed _ (codes "yabxcdez") stars (at 2 1 7 ∷ []) _ refl refl

-- the longest that begins where the run does, though another ends later
longest_named : IsCover (exact Standard (codes "a" ∷ codes "ab" ∷ codes "bc" ∷ [])) (codes "abc") stars (codes "**")
longest_named = cover-computed _ (codes "abc") stars (at 1 0 3 ∷ []) _ refl refl

-- of equal ones the first, by the case rule
first_named : IsCover (any_case Standard (codes "xY" ∷ codes "Xy" ∷ [])) (codes "aXYb") stars (codes "a*b")
first_named = cover-computed _ (codes "aXYb") stars (at 0 1 3 ∷ []) _ refl refl

-- an empty pattern covers nothing
empty_one : IsCover (exact Standard ([] ∷ codes "b" ∷ [])) (codes "abba") stars (codes "a**a")
empty_one = cover-computed _ (codes "abba") stars (at 1 1 3 ∷ []) _ refl refl
