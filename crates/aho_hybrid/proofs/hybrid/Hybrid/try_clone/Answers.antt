-- The clone has equal rows, equal lengths and an equal prefilter.
use Rattle.std.proofs.Common.{◌≡◌, ℕ, List, Option, Bool, rules, nat_eq, refl, sym, ap, subst, ◌∙◌}
use Rattle.std.specs.List.{each_same}
use Rattle.std.specs.Prelude.{IfSome}
use Rattle.aho_core.specs.Patterns.{Patterns}
use Rattle.aho_core.specs.declared.search.Anchored.{Anchored}
use Rattle.aho_prefilter.specs.Prefilter.{IsPrefilterOf}
use Rattle.aho_prefilter.specs.declared.prefilter.Searcher.{Searcher}
use Rattle.aho_hybrid.specs.Layout.{IsHeldIn, IsStateIn, Layout, depth_below_rows, depth_of_state, is_marked_number, is_special_number, list_in, lookups_in, memory_in, next_state_in, start_for}
use Rattle.aho_hybrid.specs.Reading.{IsLayoutOf}
use Rattle.aho_hybrid.proofs.hybrid.Hybrid.try_clone.Goals as goal

pub returns : goal.returns
returns c =
    let own = c.args.self.now in
    let rows : c.in_ok-try_clone.field-0 ≡ own.rows = c.in_ok-try_clone.ensures.same in
    let lens : c.in_ok-clone.field-0.items ≡ own.pattern_lens.items = each_same own.pattern_lens.items c.in_ok-clone.field-0.items c.in_ok-clone.ensures.cases.0 in
    let held : c.in_ok-copy_of.field-0 ≡ own.prefilter = c.in_ok-copy_of.ensures.same in
    let looks : Layout → Patterns → Anchored → List ℕ → ℕ → ℕ = λ t p anchored. lookups_in t p in
    let starts : Layout → ℕ → Bool = λ t sid. nat_eq sid t.start in
    let next : Layout → Anchored → ℕ → ℕ → ℕ = λ t anchored. next_state_in t in
    record {
      same = record {
        same_patterns = λ p. (
          λ is. (
            subst (λ (t : Layout). IsLayoutOf t p own.match_kind c.in_ok-clone.field-0.items) (sym rows) (subst (λ (ls : List ℕ). IsLayoutOf own.rows p own.match_kind ls) (sym lens) is.0),
            subst (λ (searcher : Option Searcher). IfSome searcher (λ s. IsPrefilterOf s p)) (sym held) is.1,
          ),
          λ is. (
            subst (λ (t : Layout). IsLayoutOf t p own.match_kind own.pattern_lens.items) rows (subst (λ (ls : List ℕ). IsLayoutOf c.in_ok-try_clone.field-0 p own.match_kind ls) lens is.0),
            subst (λ (searcher : Option Searcher). IfSome searcher (λ s. IsPrefilterOf s p)) held is.1,
          ),
        );
        same_held = λ p anchored word sid. (subst (λ (t : Layout). IsHeldIn t p anchored word sid) (sym rows), subst (λ (t : Layout). IsHeldIn t p anchored word sid) rows);
        same_valid = λ sid. (subst (λ (t : Layout). IsStateIn t sid) (sym rows), subst (λ (t : Layout). IsStateIn t sid) rows);
        same_kind = search rules;
        same_lengths = lens;
        same_list = ap list_in rows;
        same_dead = search rules;
        same_special = ap is_special_number rows;
        same_marked = ap is_marked_number rows;
        same_starts = ap starts rows;
        same_depth = ap depth_below_rows rows;
        same_reach = ap depth_of_state rows;
        same_next = ap next rows;
        same_lookups = ap looks rows;
        same_start = ap start_for rows;
        same_memory =
            ap (λ (t : Layout). memory_in t c.in_ok-clone.field-0.items c.in_ok-copy_of.field-0) rows
            ∙ ap (λ (ls : List ℕ). memory_in own.rows ls c.in_ok-copy_of.field-0) lens
            ∙ ap (memory_in own.rows own.pattern_lens.items) held;
        same_prefilter = held;
        same_skips_streams = refl;
      };
      same_rows = rows;
    }
