use Rattle.std.proofs.Common.{◌≡◌, ◌∙◌, ℕ, List, arith, ap, refl, subst, sym}
use Rattle.aho_corasick.specs.ReadOut.{states_of}
use Rattle.aho_table.specs.Table.{state_at}
use Rattle.aho_hybrid.specs.Filled.{AreAlike, AreMarked, Parts, number_or_zero, number_in, parts_of}
use Rattle.aho_hybrid.proofs.Near.{alike-linked, row-tells, row-there}
use Rattle.aho_hybrid.proofs.fill.nearest_row.Goals as goal

pub loop-init : goal.loop-init
loop-init c = record { within = c.requires.state.0; alike = λ byte small clear. (c.requires.state, refl) }

pub returns-then-has_row : goal.returns-then-has_row
returns-then-has_row c =
    let nfa = c.args.nfa.now in
    let states = states_of nfa in
    let sound = c.states_len-len.ensures.sound in
    let plan : Parts = parts_of nfa c.args.plan.now.firsts c.args.plan.now.numbers.items c.args.plan.now.lists.items c.args.plan.now.places.items c.args.plan.now.depths.items c.args.plan.now.row_depth c.args.plan.now.skips in
    let link = c.fail-link.result in
    let marked : AreMarked (state_at states c.loop.at).transitions c.loop.taken c.mark.new.taken =
    subst (λ (l : List (ℕ × ℕ)). AreMarked l c.loop.taken c.mark.new.taken) c.transitions.ensures.listed c.mark.ensures.marked in
    let alike : AreAlike states c.mark.new.taken c.args.sid link =
    subst (AreAlike states c.mark.new.taken c.args.sid) (sym c.fail-link.ensures.fail) (alike-linked states sound c.loop.taken c.mark.new.taken c.args.sid c.loop.at c.loop.invariant.alike marked) in
    let has = c.has_row.ensures.row c.if-has_row.true in
    let is : c.number_or_zero.result ≡ number_in plan link = c.number_or_zero.ensures.number ∙ ap (λ (l : List ℕ). number_or_zero l link) c.deref.ensures.value in
    let rows = c.requires.rows in
    record {
      near = record {
        told = λ class within clear.
            row-tells plan c.args.plan.now.stride c.requires.plan sound c.args.index c.args.entries.now rows.0 rows.1 c.requires.within link has c.args.sid c.number_or_zero.result class c.mark.new.taken alike is within clear;
        there = row-there plan c.args.plan.now.stride c.requires.plan sound c.args.index c.args.entries.now rows.0 rows.1 c.requires.within link has c.number_or_zero.result is;
      };
    }

pub loop-preserved : goal.loop-preserved
loop-preserved c =
    let states = states_of c.args.nfa.now in
    let marked : AreMarked (state_at states c.loop.at).transitions c.loop.taken c.mark.new.taken =
    subst (λ (l : List (ℕ × ℕ)). AreMarked l c.loop.taken c.mark.new.taken) c.transitions.ensures.listed c.mark.ensures.marked in
    record {
      within = omega (arith, c.if-as_usize-len.false, c.as_usize.ensures.value, c.states_len-len.ensures.len);
      alike = subst (AreAlike states c.mark.new.taken c.args.sid) (sym c.fail-link.ensures.fail)
          (alike-linked states c.states_len-len.ensures.sound c.loop.taken c.mark.new.taken c.args.sid c.loop.at c.loop.invariant.alike marked);
    }
