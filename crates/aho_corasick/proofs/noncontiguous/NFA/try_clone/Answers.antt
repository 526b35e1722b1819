-- The clone has an equal table, equal lengths and an equal prefilter.
use Rattle.std.proofs.Common.{◌≡◌, ℕ, List, Option, ◌+◌, rules, refl, sym, ap, subst, ◌∙◌}
use Rattle.std.specs.List.{each_same}
use Rattle.std.specs.Prelude.{IfSome}
use Rattle.aho_prefilter.specs.Prefilter.{IsPrefilterOf, prefilter_bytes}
use Rattle.aho_prefilter.specs.declared.prefilter.Searcher.{Searcher}
use Rattle.aho_table.specs.Table.{Tables}
use Rattle.aho_build.specs.Automaton.{IsOf, memory_of}
use Rattle.aho_build.specs.Dense.{HasBorders}
use Rattle.aho_corasick.proofs.noncontiguous.NFA.try_clone.Goals as goal

pub returns : goal.returns
returns c =
    let table : c.in_ok-try_clone.field-0 ≡ c.args.self.now.table = c.in_ok-try_clone.ensures.same in
    let lens : c.in_ok-clone.field-0.items ≡ c.args.self.now.pattern_lens.items = each_same c.args.self.now.pattern_lens.items c.in_ok-clone.field-0.items c.in_ok-clone.ensures.cases.0 in
    let held : c.in_ok-clone_of.field-0 ≡ c.args.self.now.prefilter = c.in_ok-clone_of.ensures.same in
    record {
      same = record {
        same_patterns = λ p. (
          λ is. (
            subst (λ (t : Tables). IsOf p c.args.self.now.match_kind c.in_ok-clone.field-0.items c.args.self.now.special t.states) (sym table)
                (subst (λ (ls : List ℕ). IsOf p c.args.self.now.match_kind ls c.args.self.now.special c.args.self.now.table.states) (sym lens) is.0),
            subst (λ (searcher : Option Searcher). IfSome searcher (λ s. IsPrefilterOf s p)) (sym held) is.1,
            subst (λ (t : Tables). HasBorders p t.classes) (sym table) is.2,
          ),
          λ is. (
            subst (λ (ls : List ℕ). IsOf p c.args.self.now.match_kind ls c.args.self.now.special c.args.self.now.table.states) lens
                (subst (λ (t : Tables). IsOf p c.args.self.now.match_kind c.in_ok-clone.field-0.items c.args.self.now.special t.states) table is.0),
            subst (λ (searcher : Option Searcher). IfSome searcher (λ s. IsPrefilterOf s p)) held is.1,
            subst (λ (t : Tables). HasBorders p t.classes) table is.2,
          ),
        );
        same_held = search rules;
        same_valid = search rules;
        same_kind = search rules;
        same_lengths = lens;
        same_list = search rules;
        same_dead = search rules;
        same_special = search rules;
        same_marked = search rules;
        same_starts = search rules;
        same_depth = search rules;
        same_reach = search rules;
        same_next = search rules;
        same_lookups = search rules;
        same_start = search rules;
        same_memory =
            ap (λ (t : Tables). memory_of t c.in_ok-clone.field-0.items + prefilter_bytes c.in_ok-clone_of.field-0) table
            ∙ ap (λ (ls : List ℕ). memory_of c.args.self.now.table ls + prefilter_bytes c.in_ok-clone_of.field-0) lens
            ∙ ap (λ (searcher : Option Searcher). memory_of c.args.self.now.table c.args.self.now.pattern_lens.items + prefilter_bytes searcher) held;
        same_prefilter = held;
        same_skips_streams = refl;
      };
      read_out = record {
        same_states = ap (λ (t : Tables). t.states) table;
        same_special = refl;
        same_classes = ap (λ (t : Tables). t.classes) table;
        same_rows = ap (λ (t : Tables). t.rows) table;
      };
    }
