use Rattle.std.proofs.Common.{rules, arith, length-append}
use Rattle.std.proofs.iter.SoFar.{exit_by}
use Rattle.std.proofs.lemmas.List.{length-map, map-append}
use Rattle.chromesquid_c.specs.Matches.{match_of}
use Rattle.chromesquid_c.proofs.Written.{written-nothing, written-put}
use Rattle.chromesquid_c.proofs.list.list_all.Goals as goal

pub loop-found-init : goal.loop-found-init
loop-found-init g c = search (rules, written-nothing)

pub loop-found-preserved : goal.loop-found-preserved
loop-found-preserved g c = record {
  can_next = search rules;
  is_finite = search rules;
  counted = rw length-append (omega arith);
  written =
      rw map-append
      (written-put c.args.room.now _ c.put.new.room (match_of c.in-Some.found) c.loop-found.seen
      (rw length-map c.loop-found.invariant.counted) (omega arith)
      (rw c.loop-found.invariant.written at c.put.ensures.put) (rw c.loop-found.invariant.written at c.put.ensures.full));
}

pub returns : goal.returns
returns g c =
    let calls = rw c.into_iter-found-iterator.ensures.into_iter_gives at c.loop-found.yielded_by in
    let ran = exit_by g.I.Iterator.next_gives (c.loop-found.yielded, calls) c.next.new.self c.in-None.ensures.steps in
    record { lists = (ran.0, ran.1, ran.2, (rw ran.3.0 c.loop-found.invariant.counted, rw ran.3.0 c.loop-found.invariant.written)) }
