-- A call that was refused in between leaves a state that fits where it fitted.
use Rattle.std.proofs.Common.{◌≡◌, ℕ, List, refl, sym, subst}
use Rattle.aho_core.specs.declared.search.Anchored.{Anchored}
use Rattle.aho_core.specs.declared.search.MatchKind.{MatchKind}
use Rattle.aho_core.specs.declared.search.MatchKind.TheVariants.{Standard, LeftmostFirst, LeftmostLongest}
use Rattle.aho_core.specs.Patterns.{Patterns}
use Rattle.aho_core.specs.Progress.{FitsBy, FitsSearch, Progress, fresh, without_match}
use Rattle.aho_core.specs.Search.{Search}
use Rattle.library_tests.proofs.overlaps.around_a_refused_call.Goals as goal

module _ (valid : ℕ → Type 0) (held : Anchored → List ℕ → ℕ → Type 0) (p : Patterns) (search : Search) where
  -- a fresh state fits before the first match
  fresh_fits : (kind : MatchKind) → FitsBy kind valid held p search fresh 0
  fresh_fits Standard = refl
  fresh_fits LeftmostFirst = refl
  fresh_fits LeftmostLongest = refl

  -- a state without its match fits what it fits with it
  fits_without : (kind : MatchKind) (progress : Progress) (n : ℕ) → FitsBy kind valid held p search progress n → FitsBy kind valid held p search (without_match progress) n
  fits_without Standard progress n fits = fits
  fits_without LeftmostFirst progress n fits = fits
  fits_without LeftmostLongest progress n fits = fits

  first_fits : (state : Progress) → state ≡ fresh → FitsSearch valid held p search state 0
  first_fits state is = subst (λ (x : Progress). FitsSearch valid held p search x 0) (sym is) (fresh_fits p.kind)

  later_fits : (before state : Progress) (n : ℕ) → state ≡ without_match before → FitsSearch valid held p search before n → FitsSearch valid held p search state n
  later_fits before state n is fits = subst (λ (x : Progress). FitsSearch valid held p search x n) (sym is) (fits_without p.kind before n fits)

pub try_find_overlapping-requires-2 : goal.try_find_overlapping-requires-2
try_find_overlapping-requires-2 g c =
    let first = first_fits _ _ c.requires.of.0 _ _ c.start-state.ensures.fresh in
    record {
      fits = (c.requires.of.0, _, c.requires.of.1, later_fits _ _ c.requires.of.0 _ _ _ _ c.refused_call.ensures.kept (c.in_ok-try_find_overlapping.ensures.fits c.requires.of.0 0 c.requires.of.1 first));
    }
