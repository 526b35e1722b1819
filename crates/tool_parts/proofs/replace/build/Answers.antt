-- The patterns that were passed are those of the slice.
use Rattle.std.proofs.Common.{◌≡◌, ◌∙◌, sym, subst, ap, List, ℕ}
use Rattle.std.proofs.lemmas.Iterator.{items_from_drains, YieldsList-from_slice}
use Rattle.std.proofs.lemmas.Iterator.Consumers.{YieldsList-from_copied}
use Rattle.std.proofs.lemmas.List.{map-id}
use Rattle.std.specs.Prelude.{None}
use Rattle.aho_core.specs.Patterns.{Patterns}
use Rattle.aho_core.specs.Replacement.{pieces_of}
use Rattle.aho_build.specs.Refusals.{cause}
use Rattle.aho_build.specs.Settings.{default_settings}
use Rattle.aho_corasick.specs.contracts.noncontiguous.NFAAutomaton.TheImpl.{ghosts}
use Rattle.tool_parts.specs.Asked.{patterns_to_replace}
use Rattle.tool_parts.proofs.replace.build.Goals as goal

pub returns : goal.returns
returns c =
    let built = c.in_ok-new.ensures.built in
    let drained = built.1.0 in
    let patterns : pieces_of built.0 ≡ pieces_of c.args.patterns.now =
    ap pieces_of (sym (map-id built.0) ∙ items_from_drains built.0 (drained.1.0, drained.1.1, λ _. (drained.0, drained.1.2)) (YieldsList-from_copied (YieldsList-from_slice c.args.patterns.now (cc)))) in
    let made : List (List ℕ) → Patterns = λ ws. patterns_to_replace (record { patterns = ws; pieces = ws }) in
    record {
      of = λ asked same. subst (λ ws. ghosts.is_of c.in_ok-new.field-0 (made ws)) (patterns ∙ sym same) built.2;
      leaves = tt;
      accepted = λ asked same. subst (λ ws. cause default_settings (made ws) ≡ None) (patterns ∙ sym same) built.1.1;
    }
