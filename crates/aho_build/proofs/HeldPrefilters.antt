-- What an automaton holds is a prefilter of its patterns.
use Rattle.std.proofs.Common.{◌≡◌, Bool, true, false, refl, sym, subst, IfSome}
use Rattle.std.specs.Prelude.{Option, Some, None, if◌then◌else◌}
use Rattle.aho_core.specs.Patterns.{Patterns}
use Rattle.aho_build.specs.Prefilters.{held_by}
use Rattle.aho_build.specs.declared.settings.Settings.{Settings}
use Rattle.aho_prefilter.specs.Prefilter.{IsPrefilterOf, held_for}
use Rattle.aho_prefilter.specs.declared.prefilter.Searcher.{Searcher}
use Rattle.aho_prefilter.proofs.Held.{held_for-of}

-- one for the patterns
held_for-held : (p : Patterns) (held : Option Searcher) → held_for p ≡ held → IfSome held (λ searcher. IsPrefilterOf searcher p)
held_for-held p None is = tt
held_for-held p (Some searcher) is = held_for-of p searcher is

-- whatever the settings are
pub held_by-of : (settings : Settings) (p : Patterns) (held : Option Searcher) → held ≡ held_by settings p → IfSome held (λ searcher. IsPrefilterOf searcher p)
held_by-of settings p held is = subst (λ (o : Option Searcher). IfSome o (λ searcher. IsPrefilterOf searcher p)) (sym is) (by_setting settings.prefilter)
  where
    by_setting : (wanted : Bool) → IfSome (if wanted then held_for p else None) (λ searcher. IsPrefilterOf searcher p)
    by_setting true = held_for-held p (held_for p) refl
    by_setting false = tt
