use Rattle.std.proofs.Common.{◌≡◌, ℕ, length, sym, subst, arith}
use Rattle.aho_corasick.specs.ReadOut.{states_of}
use Rattle.aho_hybrid.specs.Filled.{AreDepths}
use Rattle.aho_hybrid.proofs.Depths.{depths-none}
use Rattle.aho_hybrid.proofs.fill.depths_of.Goals as goal

pub loop-index-init : goal.loop-index-init
loop-index-init c =
    let states = states_of c.args.nfa.now in
    subst (AreDepths c.args.row_depth states 0) (sym c.in_ok-depths.ensures.empty) (depths-none c.args.row_depth states)

pub returns-clause-depths : goal.returns-clause-depths
returns-clause-depths c =
    let states = states_of c.args.nfa.now in
    let all : c.loop-index.index ≡ length states = omega (arith, c.loop-index-test.false, c.loop-index.auto.index-end, c.states_len-index-end.ensures.len) in
    subst (λ (n : ℕ). AreDepths c.args.row_depth states n c.loop-index.depths.items) all c.loop-index.invariant
