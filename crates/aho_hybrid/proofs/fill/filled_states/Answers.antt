use Rattle.std.proofs.Common.{◌≡◌, ℕ, List, [], inl, arith, length, subst, sym, ap}
use Rattle.aho_corasick.specs.ReadOut.{states_of}
use Rattle.aho_hybrid.specs.Filled.{AreRecords, AreRows, AreLaidOut, Parts, parts_of}
use Rattle.aho_hybrid.proofs.Filling.{records-none, rows-none}
use Rattle.aho_hybrid.proofs.Sizes.{moves-first}
use Rattle.aho_hybrid.proofs.fill.filled_states.Goals as goal

pub loop-index-init : goal.loop-index-init
loop-index-init c =
    let plan : Parts = parts_of c.args.nfa.now c.args.plan.now.firsts c.args.plan.now.numbers.items c.args.plan.now.lists.items c.args.plan.now.places.items c.args.plan.now.depths.items c.args.plan.now.row_depth c.args.plan.now.skips in
    let rows : AreRows plan 0 c.in_ok-vec_of.field-0.items 1 = subst (λ (l : List ℕ). AreRows plan 0 l 1) (sym c.in_ok-vec_of.ensures.empty) (rows-none plan 1 (omega arith)) in
    let records : AreRecords plan 0 c.in_ok-vec_of-2.field-0.items c.in_ok-vec_of-3.field-0.items 0 =
    subst (λ (l : List ℕ). AreRecords plan 0 l c.in_ok-vec_of-3.field-0.items 0) (sym c.in_ok-vec_of-2.ensures.empty)
    (subst (λ (l : List ℕ). AreRecords plan 0 [] l 0) (sym c.in_ok-vec_of-3.ensures.empty) (records-none plan)) in
    record { rows = rows; records = records; special = omega (arith, c.first_low.ensures.some); lows = record { first = omega (arith, c.first_low.ensures.first); low = inl (omega (arith, c.first_low.ensures.first)); list_low = inl (omega arith); deep_low = inl (omega arith) }; moves_sized = omega (arith, ap (λ (l : List ℕ). length l) c.in_ok-vec_of-3.ensures.empty, moves-first plan.special plan.states plan.row_depth) }

pub returns-clause-filled : goal.returns-clause-filled
returns-clause-filled c =
    let nfa = c.args.nfa.now in
    let all : c.loop-index.index ≡ length (states_of nfa) = omega (arith, c.loop-index-test.false, c.loop-index.auto.index-end, c.states_len-index-end.ensures.len) in
    subst (λ (n : ℕ). AreLaidOut (parts_of nfa c.args.plan.now.firsts c.args.plan.now.numbers.items c.args.plan.now.lists.items c.args.plan.now.places.items c.args.plan.now.depths.items c.args.plan.now.row_depth c.args.plan.now.skips) n c.loop-index.filled) all c.loop-index.invariant
