-- What is made of the states that are laid out.
use Rattle.std.proofs.Common.{◌≡◌, Bool, refl, sym, ap, subst, ◌∙◌}
use Rattle.std.specs.Borrow.{Bor}
use Rattle.std.specs.Prelude.{Option, Some, None, is_some, Result, Ok, Err, IfOk, IfErr, IfSome, ℕ}
use Rattle.std.specs.Option.{option_map}
use Rattle.aho_core.specs.Patterns.{Patterns}
use Rattle.aho_core.specs.declared.error.BuildError.{BuildError}
use Rattle.aho_core.specs.declared.error.BuildError.TheVariants.{OutOfMemory}
use Rattle.aho_prefilter.specs.Prefilter.{IsPrefilterOf}
use Rattle.aho_prefilter.specs.declared.prefilter.Searcher.{Searcher}
use Rattle.aho_corasick.specs.contracts.noncontiguous.NFAAutomaton.TheImpl.{ghosts as of_nfa}
use Rattle.aho_corasick.specs.declared.noncontiguous.NFA.{NFA}
use Rattle.aho_hybrid.proofs.Sizes.{memory-wanted}
use Rattle.aho_hybrid.specs.Filled.{IsRowsRefusal}
use Rattle.aho_hybrid.specs.Layout.{Layout}
use Rattle.aho_hybrid.specs.Made.{AreMarkedIn, IsLaidOutOf, IsMadeOf, IsMarkedExactly, TakesAfter}
use Rattle.aho_hybrid.specs.contracts.hybrid.HybridAutomaton.TheImpl.{ghosts as of_hybrid}
use Rattle.aho_hybrid.specs.declared.hybrid.Hybrid.{Hybrid}

-- whether there is one is known of what is borrowed
pub some-borrowed : (held : Option (Bor Searcher)) → is_some (option_map (λ (one : Bor Searcher). one.now) held) ≡ is_some held
some-borrowed None = refl
some-borrowed (Some one) = refl

-- what holds of the numbers of the rows holds of the automaton
marked-exactly : (p : Patterns) (skips : Bool) (made : Hybrid) → skips ≡ is_some made.prefilter → AreMarkedIn skips p made.rows → IsMarkedExactly of_hybrid made p
marked-exactly p skips made same marked =
    let here = subst (λ (b : Bool). AreMarkedIn b p made.rows) same marked in
    record { special = λ word sid held. here.special word sid held; marked = λ word sid held. here.marked word sid held }

module _ (nfa : NFA) (budget : ℕ) (rows : Layout) (laid_out : IsLaidOutOf of_nfa nfa budget rows) where
  pub made-of : (skips : Bool) (prefilter : Option Searcher) → skips ≡ is_some prefilter → ((p : Patterns) → of_nfa.is_of nfa p → AreMarkedIn skips p rows)
      → (result : Result Hybrid BuildError) → IfOk result (TakesAfter of_nfa of_hybrid nfa prefilter) → IfOk result (λ made. made.rows ≡ rows)
      → IfOk result (IsMadeOf of_nfa of_hybrid nfa budget prefilter)
  made-of skips prefilter skip marked (Ok made) takes same = record {
    takes = takes;
    laid_out = subst (IsLaidOutOf of_nfa nfa budget) (sym same) laid_out;
    marks = λ p is. marked-exactly p skips made (skip ∙ ap (λ (o : Option Searcher). is_some o) (sym takes.held)) (subst (AreMarkedIn skips p) (sym same) (marked p is));
  }
  made-of skips prefilter skip marked (Err error) takes same = tt

  -- what was refused then was refused for want of memory
  pub refused-then : (result : Result Hybrid BuildError) → IfErr result (λ error. error ≡ OutOfMemory) → IfErr result (IsRowsRefusal nfa budget)
  refused-then (Ok made) is = tt
  refused-then (Err error) is = (laid_out.row_depth, laid_out.greatest, is ∙ sym (memory-wanted nfa laid_out.row_depth laid_out.fits))

-- with the prefilter of the `NFA` it is of all that the `NFA` is of
pub of-held : (nfa : NFA) (prefilter : Option Searcher) → prefilter ≡ nfa.prefilter → (result : Result Hybrid BuildError)
    → IfOk result (λ made. (p : Patterns) → of_nfa.is_of nfa p → IfSome prefilter (λ searcher. IsPrefilterOf searcher p) → of_hybrid.is_of made p)
    → IfOk result (λ made. (p : Patterns) → of_nfa.is_of nfa p → of_hybrid.is_of made p)
of-held nfa prefilter same (Ok made) of = λ p is. of p is (subst (λ (o : Option Searcher). IfSome o (λ searcher. IsPrefilterOf searcher p)) (sym same) is.1)
of-held nfa prefilter same (Err error) of = tt

pub takes-held : (nfa : NFA) (prefilter : Option Searcher) → prefilter ≡ nfa.prefilter → (result : Result Hybrid BuildError)
    → IfOk result (TakesAfter of_nfa of_hybrid nfa prefilter) → IfOk result (TakesAfter of_nfa of_hybrid nfa nfa.prefilter)
takes-held nfa prefilter same result takes = subst (λ (o : Option Searcher). IfOk result (TakesAfter of_nfa of_hybrid nfa o)) same takes
