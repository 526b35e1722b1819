-- Whatever comes, it is written behind the others.
use Rattle.std.proofs.Common.{◌++◌, ◌∷◌, Some, [], subst}
use Rattle.acgrep.specs.Alone.{IsNextAlone}
use Rattle.acgrep.proofs.AloneTried.{alone_behind, alone_end, alone_step}
use Rattle.acgrep.proofs.Coloring.{put_end, put_step}
use Rattle.acgrep.proofs.matches.put_alone.Goals as goal

pub loop-found-preserved : goal.loop-found-preserved
loop-found-preserved g c =
    let held = g.W.Write.contents in
    let line = c.args.line.now in
    let from = c.loop-found.from in
    let found = c.in-Some.found in
    let behind = c.behind_alone-from.ensures.behind in
    let (some, of) = c.requires.of in
    record {
      within = alone_behind some line from c.behind_alone-from.result found behind (subst (IsNextAlone some line from) c.in-Some.is (c.in_ok-found.ensures.next some of));
      written = λ p is.
          let (ms, so_far, written) = c.loop-found.invariant.written p is in
          let next : IsNextAlone p line from (Some found) = subst (IsNextAlone p line from) c.in-Some.is (c.in_ok-found.ensures.next p is) in (
            ms ++ (found ∷ []),
            alone_step p line from c.behind_alone-from.result ms found behind next so_far,
            put_step c.args.shape c.args.query.now.job.style c.args.place line ms found c.loop-found.at c.in_ok-at.at (held c.args.output.now) (held c.loop-found.output) (held c.put_found.new.output)
                c.in_ok-at.ensures.behind c.in_ok-at.ensures.written written,
          );
    }

pub returns : goal.returns
returns g c =
    let held = g.W.Write.contents in
    record {
      written = λ p is.
          let line = c.args.line.now in
          let from = c.loop-found.from in
          let (ms, so_far, written) = c.loop-found.invariant.written p is in
          record {
            matches = ms;
            found = alone_end p line from ms (subst (IsNextAlone p line from) c.in_default.is (c.in_ok-found.ensures.next p is)) so_far;
            written = put_end c.args.shape c.args.query.now.job.style c.args.place line ms c.loop-found.at (held c.args.output.now) (held c.loop-found.output) (held c.put_rest.new.output) c.in_ok-put_rest.ensures.written written;
          };
    }
