use Rattle.std.proofs.Common.{◌≡◌, ◌≤◌, ℕ, ap, length, arith}
use Rattle.std.specs.Prelude.{max}
use Rattle.aho_corasick.specs.ReadOut.{states_of}
use Rattle.aho_table.specs.Table.{depth_in}
use Rattle.aho_hybrid.proofs.Counting.{none-deep}
use Rattle.aho_hybrid.proofs.Filling.{below-or-last}
use Rattle.aho_hybrid.proofs.budget.deepest.Goals as goal

pub returns : goal.returns
returns c =
    let states = states_of c.args.nfa.now in
    let all : c.loop-index.index ≡ length states = omega (arith, c.loop-index-test.false, c.loop-index.auto.index-end, c.states_len-index-end.ensures.len) in
    record { deepest = none-deep c.loop-index.most states (λ i below. c.loop-index.invariant i (omega (arith, below, all))) }

pub loop-index-preserved : goal.loop-index-preserved
loop-index-preserved c =
    let states = states_of c.args.nfa.now in
    let higher : c.max-most.result ≡ max c.loop-index.most c.depth.result = c.max-most.ensures in
    below-or-last (λ (i : ℕ). depth_in states i ≤ c.max-most.result) c.loop-index.index (λ i below. omega (arith, c.loop-index.invariant i below, higher))
    (omega (arith, higher, c.depth.ensures.depth, ap (depth_in states) c.new_unchecked.ensures.value))
