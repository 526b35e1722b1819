use Rattle.std.proofs.Common.{◌≡◌, ℕ, arith, subst}
use Rattle.aho_corasick.specs.ReadOut.{classes_of}
use Rattle.aho_table.specs.Alphabet.{class_count}
use Rattle.aho_hybrid.specs.Filled.{HasEntries, Parts, parts_of}
use Rattle.aho_hybrid.proofs.Filling.{entry-added}
use Rattle.aho_hybrid.proofs.fill.push_entries.Goals as goal

pub loop-class-preserved : goal.loop-class-preserved
loop-class-preserved c =
    let plan : Parts = parts_of c.args.nfa.now c.args.plan.now.firsts c.args.plan.now.numbers.items c.args.plan.now.lists.items c.args.plan.now.places.items c.args.plan.now.depths.items c.args.plan.now.row_depth c.args.plan.now.skips in
    entry-added plan c.args.sid c.loop-class.class c.entry_for-entry.result c.args.entries.now.items c.loop-class.entries.items c.push.new.list.items c.loop-class.invariant c.in_ok-push.ensures.pushed
    c.entry_for-entry.ensures.entry c.entry_for-entry.ensures.step

pub returns-clause-entries : goal.returns-clause-entries
returns-clause-entries c =
    let plan : Parts = parts_of c.args.nfa.now c.args.plan.now.firsts c.args.plan.now.numbers.items c.args.plan.now.lists.items c.args.plan.now.places.items c.args.plan.now.depths.items c.args.plan.now.row_depth c.args.plan.now.skips in
    let all : c.loop-class.class ≡ class_count (classes_of c.args.nfa.now) = omega (arith, c.loop-class-test.false, c.loop-class.auto.class-end, c.requires.plan.stride_is) in
    subst (λ (n : ℕ). HasEntries plan c.args.sid n c.args.entries.now.items c.loop-class.entries.items) all c.loop-class.invariant
