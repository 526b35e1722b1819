use Rattle.chromesquid.proofs.ByRows.{after_rows, rows_are_of, rows_stay}
use Rattle.chromesquid.proofs.searcher.AhoCorasick.stream_next_chunk.Goals as goal

pub returns-in-Some-clause-after : goal.returns-in-Some-clause-after
returns-in-Some-clause-after c = rows_stay c.in-Some.rows.now c.args.self.now c.in-Some.ensures.held 0 c.args.progress.now 0 c.next_chunk.new.self c.next_chunk.ensures.after

pub returns-in-Some-clause-tells : goal.returns-in-Some-clause-tells
returns-in-Some-clause-tells c = λ p given built a.
    let held = c.in-Some.ensures.held in
    c.next_chunk.ensures.tells p given (rows_are_of c.in-Some.rows.now c.args.self.now held p built) (after_rows c.in-Some.rows.now c.args.self.now held p 0 c.args.progress.now given a)
