-- The clone has equal states, equal lengths and an equal prefilter.
use Rattle.std.proofs.Common.{◌≡◌, ℕ, List, Option, rules, refl, sym, ap, subst, ◌∙◌}
use Rattle.std.specs.List.{each_same}
use Rattle.std.specs.Prelude.{IfSome, is_some}
use Rattle.aho_core.specs.Patterns.{Patterns}
use Rattle.aho_core.specs.declared.search.Anchored.{Anchored}
use Rattle.aho_prefilter.specs.Prefilter.{IsPrefilterOf}
use Rattle.aho_prefilter.specs.declared.prefilter.Searcher.{Searcher}
use Rattle.aho_levels.specs.Layout.{IsStateNumber, StateTables, depth_at, is_marked_in, is_special_at, list_of_state, lookups_at, levels_memory, next_at}
use Rattle.aho_levels.specs.Meaning.{IsHeldByNames, IsLevelsOf}
use Rattle.aho_levels.proofs.levels.Levels.try_clone.Goals as goal

pub returns : goal.returns
returns c =
    let own = c.args.self.now in
    let states : c.in_ok-try_clone.field-0 ≡ own.states = c.in_ok-try_clone.ensures.same in
    let lens : c.in_ok-clone.field-0.items ≡ own.pattern_lens.items = each_same own.pattern_lens.items c.in_ok-clone.field-0.items c.in_ok-clone.ensures.cases.0 in
    let held : c.in_ok-copy_of.field-0 ≡ own.prefilter = c.in_ok-copy_of.ensures.same in
    let looks : StateTables → Patterns → Anchored → List ℕ → ℕ → ℕ = λ t p anchored. lookups_at t p anchored in
    let next : StateTables → Anchored → ℕ → ℕ → ℕ = λ t anchored. next_at t anchored in
    record {
      same = record {
        same_patterns = λ p. (
          λ is. (
            subst (λ (t : StateTables). IsLevelsOf t p own.match_kind c.in_ok-clone.field-0.items) (sym states) (subst (λ (ls : List ℕ). IsLevelsOf own.states p own.match_kind ls) (sym lens) is.0),
            subst (λ (searcher : Option Searcher). IfSome searcher (λ s. IsPrefilterOf s p)) (sym held) is.1,
          ),
          λ is. (
            subst (λ (t : StateTables). IsLevelsOf t p own.match_kind own.pattern_lens.items) states (subst (λ (ls : List ℕ). IsLevelsOf c.in_ok-try_clone.field-0 p own.match_kind ls) lens is.0),
            subst (λ (searcher : Option Searcher). IfSome searcher (λ s. IsPrefilterOf s p)) held is.1,
          ),
        );
        same_held = λ p anchored word sid. (subst (λ (t : StateTables). IsHeldByNames t p anchored word sid) (sym states), subst (λ (t : StateTables). IsHeldByNames t p anchored word sid) states);
        same_valid = λ sid. (subst (λ (t : StateTables). IsStateNumber t sid) (sym states), subst (λ (t : StateTables). IsStateNumber t sid) states);
        same_kind = search rules;
        same_lengths = lens;
        same_list = ap list_of_state states;
        same_dead = search rules;
        same_special =
            ap (λ (t : StateTables). is_special_at (is_some c.in_ok-copy_of.field-0) t) states
            ∙ ap (λ (searcher : Option Searcher). is_special_at (is_some searcher) own.states) held;
        same_marked = ap is_marked_in states;
        same_starts = search rules;
        same_depth = ap depth_at states;
        same_reach = ap depth_at states;
        same_next = ap next states;
        same_lookups = ap looks states;
        same_start = search rules;
        same_memory =
            ap (λ (t : StateTables). levels_memory t c.in_ok-clone.field-0.items c.in_ok-copy_of.field-0) states
            ∙ ap (λ (ls : List ℕ). levels_memory own.states ls c.in_ok-copy_of.field-0) lens
            ∙ ap (levels_memory own.states own.pattern_lens.items) held;
        same_prefilter = held;
        same_skips_streams = refl;
      };
    }
