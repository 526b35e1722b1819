-- A leftmost automaton finds none, whatever the state, so each state fits it.
use Rattle.std.proofs.Common.{◌≡◌, ℕ, List, refl, subst}
use Rattle.aho_core.specs.declared.search.Anchored.{Anchored}
use Rattle.aho_core.specs.declared.search.MatchKind.{MatchKind}
use Rattle.aho_core.specs.declared.search.MatchKind.TheVariants.{LeftmostFirst}
use Rattle.aho_core.specs.Patterns.{Patterns}
use Rattle.aho_core.specs.Progress.{FitsBy, FitsSearch, Progress}
use Rattle.aho_core.specs.Search.{Search}
use Rattle.library_tests.proofs.overlaps.refused_call.Goals as goal

leftmost_fits : (valid : ℕ → Type 0) (held : Anchored → List ℕ → ℕ → Type 0) (p : Patterns) (search : Search) (progress : Progress) → LeftmostFirst ≡ p.kind → FitsSearch valid held p search progress 0
leftmost_fits valid held p search progress kind = subst (λ (k : MatchKind). FitsBy k valid held p search progress 0) kind refl

pub try_find_overlapping-requires : goal.try_find_overlapping-requires
try_find_overlapping-requires g c =
    let laws = g.met.A.Automaton.laws c.args.leftmost.now c.requires.of.0 c.requires.of.1 in
    record {
      fits = (c.requires.of.0, 0, c.requires.of.1, leftmost_fits _ _ c.requires.of.0 _ _ (cc (c.match_kind.ensures.kind, c.in-LeftmostFirst.is, laws.kind_is)));
    }

pub returns : goal.returns
returns g c = record {
  kept = rw (c.try_find_overlapping.ensures.unsupported (λ same. cc (c.match_kind.ensures.kind, c.in-LeftmostFirst.is, same))) at c.try_find_overlapping.ensures.cleared;
}
