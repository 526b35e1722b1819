-- Whatever comes, it is written behind the others.
use Rattle.acgrep.proofs.Common.{on_ok_weaker}
use Rattle.std.proofs.Common.{rules}
use Rattle.std.proofs.iter.SoFar.{exit_by}
use Rattle.acgrep.proofs.Coloring.{put_end, put_step}
use Rattle.acgrep.proofs.matches.put_each.Goals as goal

pub loop-found-init : goal.loop-found-init
loop-found-init g c = record {
  can_next = search rules;
  is_finite = search rules;
  put = λ rest end is. is;
}

pub loop-found-preserved : goal.loop-found-preserved
loop-found-preserved g c =
    let held = g.W.Write.contents in
    record {
      can_next = search rules;
      is_finite = search rules;
      put = put_step c.args.shape c.args.style.now c.args.place c.args.line.now c.loop-found.yielded c.in-Some.found c.loop-found.at c.in_ok-at.at
          (held c.args.output.now) (held c.loop-found.output) (held c.put_found.new.output) c.in_ok-at.ensures.behind c.in_ok-at.ensures.written c.loop-found.invariant.put;
    }

pub returns : goal.returns
returns g c =
    let held = g.W.Write.contents in
    let calls = rw c.into_iter-found-iterator.ensures.into_iter_gives at c.loop-found.yielded_by in
    let ran = exit_by g.I.Iterator.next_gives (c.loop-found.yielded, calls) c.next.new.self c.in-None.ensures.steps in
    record {
      written = on_ok_weaker c.put_rest.result (λ last. (
        ran.0,
        ran.1,
        ran.2,
        rw ran.3.0 (put_end c.args.shape c.args.style.now c.args.place c.args.line.now c.loop-found.yielded c.loop-found.at (held c.args.output.now) (held c.loop-found.output) (held c.put_rest.new.output) last c.loop-found.invariant.put),
      )) c.put_rest.ensures.written;
    }
