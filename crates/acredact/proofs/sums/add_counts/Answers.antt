-- One count more.
use Rattle.acredact.proofs.Common.{arith, drop}
use Rattle.std.proofs.lemmas.List.{length-drop}
use Rattle.acredact.proofs.Totals.{grown_nothing, grown_then, sum_next, sum_none}
use Rattle.acredact.proofs.sums.add_counts.Goals as goal

pub returns : goal.returns
returns c =
    let place = c.loop-place.place in
    record {
      grown = c.loop-place.invariant c.loop-place.sums
          (grown_nothing _ c.loop-place.sums (λ number. sum_none number place (drop place c.args.rules.now) (drop place c.args.counts.now) (simp length-drop (omega arith))));
    }

pub loop-place-preserved : goal.loop-place-preserved
loop-place-preserved c = λ sums later.
    c.loop-place.invariant sums
    (grown_then _ _ _ c.loop-place.sums c.add_count.new.sums sums
    (λ number. sum_next number c.loop-place.place c.args.rules.now c.args.counts.now c.index-rules-place.result (omega arith) (omega arith))
    (rw c.index-rules-place.is at c.add_count.ensures.grown) later)
