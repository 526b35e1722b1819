-- An iterator that may be called may be called again, also after none.
use Rattle.std.proofs.Common.{ℕ, ◌+◌, List, sym, subst, min, length}
use Rattle.std.specs.Prelude.{Option, Result}
use Rattle.aho_core.specs.declared.error.MatchErrorKind.{MatchErrorKind}
use Rattle.aho_core.specs.declared.search.Anchored.{Anchored}
use Rattle.aho_core.specs.declared.search.MatchKind.{MatchKind}
use Rattle.aho_core.specs.Occurrence.{Occurrence}
use Rattle.aho_core.specs.Overlapping.{overlapping}
use Rattle.aho_core.specs.Patterns.{Patterns}
use Rattle.aho_core.specs.Progress.{Progress}
use Rattle.aho_core.specs.Search.{Search}
use Rattle.aho_automaton.specs.Overlaps.{CanGive, GivesOverlapping}
use Rattle.library_tests.proofs.overlaps.three_calls.Goals as goal

module _ {A : Type 0} (is_of : A → Patterns → Type 0) (kind : A → MatchKind) (start : A → Anchored → Result ℕ MatchErrorKind) (valid : A → ℕ → Type 0) (held : A → Patterns → Anchored → List ℕ → ℕ → Type 0) where
  may_go_on : (a a' : A) (s s' : Search) (progress progress' : Progress) (given : Option Occurrence) → CanGive is_of kind start valid held a s progress
      → GivesOverlapping is_of valid held a s progress given a' s' progress' → CanGive is_of kind start valid held a' s' progress'
  may_go_on a a' s s' progress progress' given can steps =
      subst (λ (x : A). CanGive is_of kind start valid held x s' progress') (sym steps.same_automaton)
      (subst (λ (y : Search). CanGive is_of kind start valid held a y progress') (sym steps.same_search)
      (record {
        standard = can.standard;
        first = can.first;
        fits = (can.fits.0, min (can.fits.1 + 1) (length (overlapping can.fits.0 s)), can.fits.2, steps.fits can.fits.0 can.fits.1 can.fits.2 can.fits.3);
      }))

pub next-first-requires : goal.next-first-requires
next-first-requires g c = c.in_ok-matches.ensures.ready _ c.requires.of.1

pub next-second-requires : goal.next-second-requires
next-second-requires g c = may_go_on _ _ _ _ _ _ _ _ _ _ _ _ (c.in_ok-matches.ensures.ready _ c.requires.of.1) c.next-first.ensures.steps

pub next-third-requires : goal.next-third-requires
next-third-requires g c = may_go_on _ _ _ _ _ _ _ _ _ _ _ _ (may_go_on _ _ _ _ _ _ _ _ _ _ _ _ (c.in_ok-matches.ensures.ready _ c.requires.of.1) c.next-first.ensures.steps) c.next-second.ensures.steps
