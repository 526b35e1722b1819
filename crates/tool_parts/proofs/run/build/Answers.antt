-- The patterns that were passed are the arguments' bytes, so the automaton is that of the patterns asked for.
use Rattle.std.proofs.Common.{rules, ◌≡◌, subst, List, ℕ, map, string_bytes, Bor}
use Rattle.std.proofs.lemmas.Iterator.{items_from_drains, YieldsList-from_slice, YieldsList-from_map_by}
use Rattle.std.specs.Prelude.{None}
use Rattle.aho_core.specs.Patterns.{Patterns}
use Rattle.aho_build.specs.Refusals.{cause}
use Rattle.aho_build.specs.declared.settings.Settings.{Settings}
use Rattle.aho_corasick.specs.contracts.noncontiguous.NFAAutomaton.TheImpl.{ghosts}
use Rattle.tool_parts.specs.Asked.{asked_for, asked_patterns, settings_for}
use Rattle.tool_parts.proofs.run.build.Goals as goal

pub returns : goal.returns
returns c =
    let nfa = c.in_ok-build.field-0 in
    let built = c.in_ok-build.ensures.built in
    let drained = built.1.0 in
    let asked = asked_patterns (asked_for c.args.request.now) in
    let patterns : map (λ (item : Bor (List ℕ)). item.now) built.0 ≡ asked.words =
    items_from_drains built.0 (drained.1.0, drained.1.1, λ _. (drained.0, drained.1.2))
    (YieldsList-from_map_by _ (λ (r : Bor (List ℕ)). r.now) string_bytes (YieldsList-from_slice c.args.request.now.patterns.now (cc)) (cc) (λ x r q k. search rules)) in
    let made : Settings → List (List ℕ) → Patterns = λ s ws. record { words = ws; kind = s.kind; ignore_case = s.ignore_case } in
    record {
      of = subst (λ (ws : List (List ℕ)). ghosts.is_of nfa (made (settings_for c.args.request.now.task) ws)) patterns
          (subst (λ (s : Settings). ghosts.is_of nfa (made s (map (λ (item : Bor (List ℕ)). item.now) built.0))) c.builder.ensures.settings built.2);
      leaves = tt;
      status = tt;
      accepted = subst (λ (ws : List (List ℕ)). cause (settings_for c.args.request.now.task) (made (settings_for c.args.request.now.task) ws) ≡ None) patterns
          (subst (λ (s : Settings). cause s (made s (map (λ (item : Bor (List ℕ)). item.now) built.0)) ≡ None) c.builder.ensures.settings built.1.1);
    }
