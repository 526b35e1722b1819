use Rattle.std.proofs.Common.{rules}
use Rattle.std.proofs.iter.SoFar.{exit_by}
use Rattle.secret_rules.proofs.Picked.{Picks-more}
use Rattle.secret_rules.proofs.occurrences.push_counted.Goals as goal

pub loop-m-preserved : goal.loop-m-preserved
loop-m-preserved g c = record {
  can_next = search rules;
  is_finite = search rules;
  picks = Picks-more c.args.words c.args.line.now c.loop-m.yielded c.loop-m.found.items c.push_one.new.found.items c.in-Some.m c.loop-m.invariant.picks c.in_ok-push_one.ensures.picks;
}

pub returns : goal.returns
returns g c =
    let calls = rw c.into_iter-m-iterator.ensures.into_iter_gives at c.loop-m.yielded_by in
    let ran = exit_by g.I.Iterator.next_gives (c.loop-m.yielded, calls) c.next.new.self c.in-None.ensures.steps in
    record { picks = (ran.0, ran.1, ran.2, rw ran.3.0 c.loop-m.invariant.picks) }
