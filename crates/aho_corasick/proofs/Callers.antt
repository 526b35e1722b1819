-- For callers: what an automaton is of, from the patterns that were passed.
use Rattle.std.proofs.Common.{◌≡◌, ◌∙◌, sym, subst, List, ℕ, Iter, Option}
use Rattle.std.specs.declared.iter.Copied.{Copied}
use Rattle.std.specs.Iterator.Adapters.{copied_source}
use Rattle.std.specs.Prelude.{Result, IfOk}
use Rattle.std.specs.Slice.Iter.{iter_rest}
use Rattle.std.proofs.iter.Yields.{copies, fronts}
use Rattle.std.proofs.lemmas.Iterator.{YieldsList, items_from_drains, YieldsList-from_slice}
use Rattle.std.proofs.lemmas.Iterator.Consumers.{YieldsList-from_copied}
use Rattle.std.proofs.lemmas.List.{map-id}
use Rattle.std.proofs.lemmas.Result.{IfOk-weaker}
use denote.Ref.{Bor}
use Rattle.aho_core.specs.declared.error.BuildError.{BuildError}
use Rattle.aho_build.specs.Items.{patterns_of, OfAccepted}
use Rattle.aho_build.specs.declared.settings.Settings.{Settings}
use Rattle.aho_corasick.specs.declared.noncontiguous.NFA.{NFA}
use Rattle.aho_corasick.specs.contracts.noncontiguous.NFAAutomaton.TheImpl.{ghosts}

module _ {S : Type 0} {gives : S → Option (Bor (List ℕ)) → S → Type 0} (state : S) (settings : Settings) (nfa : NFA) where
  -- and of the byte strings that the iterator is known to give
  pub of_items : (given : List (Bor (List ℕ))) → YieldsList gives (λ item. item) state given → OfAccepted gives state settings (ghosts.is_of nfa)
      → ghosts.is_of nfa (patterns_of settings given)
  of_items given yields built =
      let drained = built.1.0 in
      subst (λ (items : List (Bor (List ℕ))). ghosts.is_of nfa (patterns_of settings items))
      (sym (map-id built.0) ∙ items_from_drains built.0 (drained.1.0, drained.1.1, λ _. (drained.0, drained.1.2)) yields) built.2

-- the automaton of `patterns.iter().copied()` by settings that are known to be these is of the patterns of the slice
pub of_slice : (state : Copied (Iter (Bor (List ℕ)))) {set : Settings} (settings : Settings) (r : Result NFA BuildError) (patterns : List (Bor (List ℕ))) → iter_rest (copied_source state) ≡ patterns
    → set ≡ settings → IfOk r (λ nfa. OfAccepted (copies fronts) state set (ghosts.is_of nfa)) → IfOk r (λ nfa. ghosts.is_of nfa (patterns_of settings patterns))
of_slice state {set} settings r patterns is set_is =
    IfOk-weaker r _ _
    (λ nfa built.
    subst (λ (s : Settings). ghosts.is_of nfa (patterns_of s patterns)) set_is
    (of_items state set nfa patterns (YieldsList-from_copied (YieldsList-from_slice patterns is)) built))
