-- One match more, and what follows the last.
use Rattle.acgrep.proofs.Common.{common_steps, on_ok_weaker, take_all}
use Rattle.std.proofs.Common.{◌++◌, ◌+◌, ◌∷◌, ◌≡◌, ◌≤◌, [], arith, length, take}
use Rattle.acgrep.proofs.Coloring.{put_end, put_step}
use Rattle.acgrep.proofs.matches.put_listed.Goals as goal

pub loop-found-init : goal.loop-found-init
loop-found-init g c = λ rest end is. is

pub loop-found-preserved : goal.loop-found-preserved
loop-found-preserved g c =
    let ms = c.args.matches.now in
    let i = c.loop-found.found-index in
    let more : take (i + 1) ms ≡ take i ms ++ (c.found-item.result ∷ []) = grind (arith, common_steps, c.loop-found-test.true, c.found-item.is) in
    rw more (put_step c.args.shape c.args.style.now c.args.place c.args.line.now (take i ms) c.found-item.result c.loop-found.at c.in_ok-at.at _ _ _ c.in_ok-at.ensures.behind c.in_ok-at.ensures.written
    c.loop-found.invariant)

pub returns : goal.returns
returns g c =
    let held = g.W.Write.contents in
    let ms = c.args.matches.now in
    let behind : length ms ≤ c.loop-found.found-index = grind (arith, common_steps, c.loop-found-test.false) in
    record {
      written = on_ok_weaker c.put_rest.result (λ last. put_end c.args.shape c.args.style.now c.args.place c.args.line.now ms c.loop-found.at (held c.args.output.now) (held c.loop-found.output) (held c.put_rest.new.output) last
          (rw (take_all _ ms behind) at c.loop-found.invariant)) c.put_rest.ensures.written;
    }
