-- The whole lines are searched, and dropped from the buffer.
use Rattle.acgrep.proofs.Beginnings.{on_err}
use Rattle.acgrep.proofs.Streams.{whole_searched}
use Rattle.acgrep.proofs.StreamsBegun.{whole_begins}
use Rattle.acgrep.proofs.stream.search_whole.Goals as goal

pub returns-clause-searched : goal.returns-clause-searched
returns-clause-searched g c = λ p is plain.
    whole_searched p _ _ _ _ _ _ _ c.whole_lines-whole.result (rw c.bytes.ensures.bytes at c.whole_lines-whole.ensures.within) (rw c.bytes.ensures.bytes at c.whole_lines-whole.ensures.ends)
    c.drop_front.ensures.rest (rw c.bytes-2.ensures.bytes at c.in_ok-search_text.ensures.written p is plain)

pub returns-in_err-search_text-clause-begun : goal.returns-in_err-search_text-clause-begun
returns-in_err-search_text-clause-begun g c = λ p is plain.
    on_err c.from_residual.result
    (whole_begins p _ _ _ _ _ _ c.whole_lines-whole.result (rw c.bytes.ensures.bytes at c.whole_lines-whole.ensures.within) (rw c.bytes.ensures.bytes at c.whole_lines-whole.ensures.ends)
    (rw c.bytes-2.ensures.bytes at c.in_err-search_text.ensures.begun p is plain))
