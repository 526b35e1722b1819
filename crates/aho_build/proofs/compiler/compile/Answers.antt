use Rattle.std.proofs.Common.{ℕ, ◌≡◌, ◌+◌, ◌≤◌, ◌∙◌, Bool, List, length, refl, sym, ap, subst, rules, arith}
use Rattle.aho_build.specs.Settings.{in_force}
use Rattle.aho_build.specs.Sizes.{matches_size}
use Rattle.aho_build.specs.Refusals.{own_size, start_size}
use Rattle.aho_build.specs.Dense.{AreDense, HasBorders}
use Rattle.aho_build.specs.Starts.{IsLedBelow, looped}
use Rattle.aho_build.specs.Trie.{names_before}
use Rattle.aho_build.specs.Items.{patterns_of, IsFailure}
use Rattle.aho_build.specs.FirstStates.{root_id}
use Rattle.aho_table.specs.Table.{State, Tables, matches_in, matches_count, transitions_count}
use Rattle.aho_build.proofs.AlikeBytes.{leads_alike}
use Rattle.aho_build.proofs.NodeBorders.{edges-node}
use Rattle.aho_build.proofs.DenseSizes.{dense_count-of, dense_size-of, row_start-of}
use Rattle.aho_build.proofs.MatchTotals.{IsRefusalOf-larger, root_list-own}
use Rattle.aho_build.proofs.BuildRefusals.{IsRefusal-stopped, IsRefusal-start, IsRefusal-row, IsRefusal-copied}
use Rattle.aho_build.proofs.RefusedGrowths.{AreRowsWithin-of, cause-within}
use Rattle.aho_build.proofs.Phases.{ListsExactly-linked, root_full-led, IsReady-led, fail_matches-led, matches_count-led, matches_count-linked, IsSized-linked}
use Rattle.aho_build.proofs.StoppedBuilds.{IfErr-given}
use Rattle.aho_build.proofs.MovedRows.{AreDense-linked, AreDense-shuffled}
use Rattle.aho_build.proofs.Built.{IsAutomaton-built}
use Rattle.aho_build.proofs.RenumberedAutomata.{IsAutomaton-shuffled, ListsExactly-shuffled, IsSized-shuffled}
use Rattle.std.specs.Option.{is_some}
use Rattle.aho_prefilter.specs.Prefilter.{has_empty}
use Rattle.aho_build.specs.Shuffled.{IsInOrder}
use Rattle.aho_build.proofs.EmptyPatterns.{IsInOrder-empty}
use Rattle.aho_build.proofs.compiler.compile.Goals as goal

pub returns-in_err-trie-clause-refused : goal.returns-in_err-trie-clause-refused
returns-in_err-trie-clause-refused g c =
    let gives = g.I.Iterator.next_gives in
    let settings = c.args.settings.now in
    let stopped = c.in_err-trie.ensures.stopped in
    let error = c.in_err-trie.field-0.0 in
    IfErr-given (IsFailure gives c.args.patterns settings) c.from_residual.result error c.from_residual.ensures.1
    (IsRefusal-stopped gives c.args.patterns settings stopped.0 error stopped.1.0 stopped.1.1)

pub returns-in_err-set_anchored_start_state-clause-refused : goal.returns-in_err-set_anchored_start_state-clause-refused
returns-in_err-set_anchored_start_state-clause-refused g c =
    let gives = g.I.Iterator.next_gives in
    let settings = c.args.settings.now in
    let error = c.in_err-set_anchored_start_state.field-0.0 in
    let built = c.in_ok-trie.ensures.built in
    let p = patterns_of settings built.0 in
    let table = c.in_ok-trie.trie.table in
    let holds = built.2.holds in
    let room : own_size p ≤ (in_force settings).id + 1 = omega (arith, c.in_ok-trie.ensures.within.matches, holds.counted.matches) in
    IfErr-given (IsFailure gives c.args.patterns settings) c.from_residual-in_err-set_anchored_start_state.result error c.from_residual-in_err-set_anchored_start_state.ensures.1
    (IsRefusal-start gives c.args.patterns settings built.0 error table.limit c.in_ok-trie.ensures.limit built.1 built.2.accepted room
    (IsRefusalOf-larger table.limit (own_size p + start_size p) table.limit (matches_count table.states + length (matches_in table.states root_id)) error refl
    (omega (arith, holds.counted.matches, root_list-own p table.states holds)) (c.in_err-set_anchored_start_state.ensures.refused holds.listed.anchored_full)))

pub returns-in_err-add_unanchored_start_state_loop-clause-refused : goal.returns-in_err-add_unanchored_start_state_loop-clause-refused
returns-in_err-add_unanchored_start_state_loop-clause-refused g c =
    let built = c.in_ok-trie.ensures.built in
    let full = root_full-led (patterns_of c.args.settings.now built.0) c.in_ok-trie.trie.table.states c.set_anchored_start_state.new.table.states built.2.holds c.in_ok-set_anchored_start_state.ensures.led in
    let clash = c.in_err-add_unanchored_start_state_loop.ensures.full full in
    cc

pub densify-requires : goal.densify-requires
densify-requires g c =
    let built = c.in_ok-trie.ensures.built in
    let p = patterns_of c.args.settings.now built.0 in
    let classes = c.byte_classes-classes.result in
    let has : HasBorders p classes = subst (HasBorders p) (sym c.byte_classes-classes.ensures.borders) built.2.borders in
    let ready = IsReady-led p c.in_ok-trie.trie.table.states c.set_anchored_start_state.new.table.states built.2.holds c.in_ok-set_anchored_start_state.ensures.led
    c.add_unanchored_start_state_loop.new.table c.in_ok-add_unanchored_start_state_loop.ensures.looped in
    record {
      alike = leads_alike p (names_before p (length p.words)) c.add_unanchored_start_state_loop.new.table.states classes ready
          (λ word byte below node. edges-node p word byte classes has node);
    }

pub returns-in_err-densify-clause-refused : goal.returns-in_err-densify-clause-refused
returns-in_err-densify-clause-refused g c =
    let gives = g.I.Iterator.next_gives in
    let settings = c.args.settings.now in
    let error = c.in_err-densify.field-0.0 in
    let built = c.in_ok-trie.ensures.built in
    let p = patterns_of settings built.0 in
    let holds = built.2.holds in
    let old = c.in_ok-trie.trie.table.states in
    let mid = c.set_anchored_start_state.new.table.states in
    let led = c.in_ok-set_anchored_start_state.ensures.led in
    let table = c.add_unanchored_start_state_loop.new.table in
    let classes = c.byte_classes-classes.result in
    let has : HasBorders p classes = subst (HasBorders p) (sym c.byte_classes-classes.ensures.borders) built.2.borders in
    let ready = IsReady-led p old mid holds led table c.in_ok-add_unanchored_start_state_loop.ensures.looped in
    let mid_limit = c.in_ok-set_anchored_start_state.ensures.limit ∙ c.in_ok-trie.ensures.limit in
    let few : own_size p + start_size p ≤ (in_force settings).id + 1 = omega (arith, matches_count-led p old mid holds led, c.facts.ensures.within.matches, mid_limit) in
    IfErr-given (IsFailure gives c.args.patterns settings) c.from_residual-in_err-densify.result error c.from_residual-in_err-densify.ensures.1
    (IsRefusal-row gives c.args.patterns settings built.0 error table.limit (c.in_ok-add_unanchored_start_state_loop.ensures.limit ∙ mid_limit) built.1 built.2.accepted few
    classes _ (dense_count-of p table.states ready settings.dense_depth) (row_start-of p table.states ready classes c.byte_classes-classes.ensures.sized has)
    c.in_err-densify.ensures.refused)

pub fill_failure_transitions-requires : goal.fill_failure_transitions-requires
fill_failure_transitions-requires g c =
    let built = c.in_ok-trie.ensures.built in
    let p = patterns_of c.args.settings.now built.0 in
    let mid = c.set_anchored_start_state.new.table.states in
    let closed = subst (λ (ss : List State). IsLedBelow root_id 256 (looped c.args.settings.now.kind mid) mid ss) (sym (ap (λ (t : Tables). t.states) c.in_ok-densify.ensures.dense))
    c.in_ok-add_unanchored_start_state_loop.ensures.looped in
    record {
      ready = (
        p,
        (
          names_before p (length p.words),
          refl,
          IsReady-led p c.in_ok-trie.trie.table.states mid built.2.holds c.in_ok-set_anchored_start_state.ensures.led c.densify.new.table closed,
        ),
      );
    }

pub returns-in_err-fill_failure_transitions-clause-refused : goal.returns-in_err-fill_failure_transitions-clause-refused
returns-in_err-fill_failure_transitions-clause-refused g c =
    let gives = g.I.Iterator.next_gives in
    let settings = c.args.settings.now in
    let error = c.in_err-fill_failure_transitions.field-0.0 in
    let built = c.in_ok-trie.ensures.built in
    let p = patterns_of settings built.0 in
    let holds = built.2.holds in
    let old = c.in_ok-trie.trie.table.states in
    let mid = c.set_anchored_start_state.new.table.states in
    let table = c.add_unanchored_start_state_loop.new.table in
    let ready = c.densify.new.table in
    let led = c.in_ok-set_anchored_start_state.ensures.led in
    let looped_is = c.in_ok-add_unanchored_start_state_loop.ensures.looped in
    let closed = subst (λ (ss : List State). IsLedBelow root_id 256 (looped settings.kind mid) mid ss) (sym (ap (λ (t : Tables). t.states) c.in_ok-densify.ensures.dense)) looped_is in
    let mid_limit = c.in_ok-set_anchored_start_state.ensures.limit ∙ c.in_ok-trie.ensures.limit in
    let table_limit : table.limit ≡ (in_force settings).id = c.in_ok-add_unanchored_start_state_loop.ensures.limit ∙ mid_limit in
    let limit = ap (λ (t : Tables). t.limit) c.in_ok-densify.ensures.dense ∙ table_limit in
    let few : own_size p + start_size p ≤ (in_force settings).id + 1 = omega (arith, matches_count-led p old mid holds led, c.facts.ensures.within.matches, mid_limit) in
    let before = IsReady-led p old mid holds led table looped_is in
    let classes = c.byte_classes-classes.result in
    let has : HasBorders p classes = subst (HasBorders p) (sym c.byte_classes-classes.ensures.borders) built.2.borders in
    let counted = dense_count-of p table.states before settings.dense_depth in
    let start = row_start-of p table.states before classes c.byte_classes-classes.ensures.sized has in
    let rows = AreRowsWithin-of settings p table.limit classes _ table_limit counted start c.in_ok-densify.ensures.within in
    IfErr-given (IsFailure gives c.args.patterns settings) c.from_residual-in_err-fill_failure_transitions.result error c.from_residual-in_err-fill_failure_transitions.ensures.1
    (IsRefusal-copied gives c.args.patterns settings built.0 error ready.limit limit built.1 built.2.accepted few rows
    (c.in_err-fill_failure_transitions.ensures.refused p refl (IsReady-led p old mid holds led ready closed)
    (fail_matches-led p old mid holds led ready closed)))

pub returns-clause-built : goal.returns-clause-built
returns-clause-built g c =
    let settings = c.args.settings.now in
    let built = c.in_ok-trie.ensures.built in
    let p = patterns_of settings built.0 in
    let names = names_before p (length p.words) in
    let holds = built.2.holds in
    let old = c.in_ok-trie.trie.table.states in
    let mid = c.set_anchored_start_state.new.table.states in
    let table = c.add_unanchored_start_state_loop.new.table in
    let ready = c.densify.new.table in
    let new = c.fill_failure_transitions.new.table in
    let led = c.in_ok-set_anchored_start_state.ensures.led in
    let looped_is = c.in_ok-add_unanchored_start_state_loop.ensures.looped in
    let same_states = ap (λ (t : Tables). t.states) c.in_ok-densify.ensures.dense in
    let closed = subst (λ (ss : List State). IsLedBelow root_id 256 (looped settings.kind mid) mid ss) (sym same_states) looped_is in
    let copies = c.in_ok-fill_failure_transitions.ensures.copies in
    let mid_limit = c.in_ok-set_anchored_start_state.ensures.limit ∙ c.in_ok-trie.ensures.limit in
    let table_limit : table.limit ≡ (in_force settings).id = c.in_ok-add_unanchored_start_state_loop.ensures.limit ∙ mid_limit in
    let limit = copies.limit ∙ ap (λ (t : Tables). t.limit) c.in_ok-densify.ensures.dense ∙ table_limit in
    let before = IsReady-led p old mid holds led table looped_is in
    let classes = c.byte_classes-classes.result in
    let has : HasBorders p classes = subst (HasBorders p) (sym c.byte_classes-classes.ensures.borders) built.2.borders in
    let counted = dense_count-of p table.states before settings.dense_depth in
    let start = row_start-of p table.states before classes c.byte_classes-classes.ensures.sized has in
    let rows = AreRowsWithin-of settings p table.limit classes _ table_limit counted start c.in_ok-densify.ensures.within in
    let own : own_size p + start_size p ≤ (in_force settings).id + 1 = omega (arith, matches_count-led p old mid holds led, c.facts.ensures.within.matches, mid_limit) in
    let linked = c.in_ok-fill_failure_transitions.ensures.built p names refl (IsReady-led p old mid holds led ready closed) in
    let size = matches_count-linked p old mid holds led ready closed new copies linked in
    let special = c.in-Ok-shuffle.special in
    let shuffled = c.in-Ok-shuffle.ensures.shuffled in
    let kept = ap (λ (t : Tables). t.dense_len) c.in-Ok-shuffle.ensures.kept in
    let automaton = IsAutomaton-shuffled c.is_some.result new c.shuffle.new.table special p names shuffled (IsAutomaton-built special p names new.states linked) in
    let few : matches_size p ≤ (in_force settings).id + 1 = omega (arith, size, c.facts-2.ensures.within.matches, limit) in
    let skips : c.is_some.result ≡ is_some c.in-Ok.prefilter = search rules in
    let dense : AreDense settings.dense_depth new.states new.rows =
    subst (AreDense settings.dense_depth new.states) (sym (ap (λ (r : List Bool × ℕ × List Bool). r.2) copies.rows))
    (AreDense-linked settings.dense_depth p names ready.states new.states (IsReady-led p old mid holds led ready closed) linked ready.rows
    (subst (λ (ss : List State). AreDense settings.dense_depth ss ready.rows) (sym same_states) c.in_ok-densify.ensures.rows)) in (
      built.0,
      (built.1, cause-within settings p built.2.accepted own rows few),
      record {
        automaton = record {
          kind_is = refl;
          lengths_are = built.2.lengths;
          names = automaton.0;
          automaton = automaton.1;
          listed = ListsExactly-shuffled c.is_some.result new c.shuffle.new.table special shuffled
              (ListsExactly-linked p old mid holds led ready closed new copies linked special (c.in_ok-set_anchored_start_state.ensures.full holds.listed.anchored_full));
          sized = IsSized-shuffled c.is_some.result new c.shuffle.new.table special p shuffled (IsSized-linked p old mid holds led ready closed new copies linked
              (c.in_ok-set_anchored_start_state.ensures.transitions holds.listed.anchored_full)
              (ap transitions_count same_states ∙ c.in_ok-add_unanchored_start_state_loop.ensures.transitions (root_full-led p old mid holds led)));
        };
        rows = AreDense-shuffled settings.dense_depth c.is_some.result new c.shuffle.new.table special shuffled dense;
        dense_len = kept ∙ ap (λ (r : List Bool × ℕ × List Bool). r.1) copies.rows ∙ ap (λ (t : Tables). t.dense_len) c.in_ok-densify.ensures.dense ∙ dense_size-of p table.states before classes c.byte_classes-classes.ensures.sized has settings.dense_depth;
        prefilter = (let made = c.in-Ok.ensures.held settings p built.2.collects in cc);
        borders = subst (HasBorders p) (sym (ap (λ (t : Tables). t.classes) c.in-Ok-shuffle.ensures.kept ∙ ap (λ (r : List Bool × ℕ × List Bool). r.0) copies.rows ∙ ap (λ (t : Tables). t.classes) c.in_ok-densify.ensures.dense)) has;
        order = subst (λ (skips : Bool). IsInOrder (has_empty p) skips special (matches_in c.shuffle.new.table.states)) skips
            (IsInOrder-empty c.is_some.result special p automaton.0 c.shuffle.new.table.states automaton.1 shuffled.order);
      },
    )
