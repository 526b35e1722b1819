-- A read more, up to the end, a line with a zero byte, or lines behind which nothing more is told.
use Rattle.acgrep.proofs.Common.{Consumes-nil, true≢false}
use Rattle.std.proofs.Common.{◌∙◌, ◌≡◌, Bool, [], append-nil, false, inl, inr, refl, sym, true}
use Rattle.acgrep.proofs.Beginnings.{on_err}
use Rattle.acgrep.proofs.Fronts.{end_text, filled_by, front_binary, front_last, front_start, front_stop, front_text}
use Rattle.acgrep.proofs.Streams.{reads_both}
use Rattle.acgrep.proofs.StreamsBegun.{behind_filled, behind_lines, behind_none, behind_reads, behind_searched, behind_whole}
use Rattle.acgrep.proofs.stream.search_behind.Goals as goal

pub loop-init : goal.loop-init
loop-init g c = record {
  searched = λ p is plain. front_start p _ _ _ _ _ _ _ _ _ c.requires.text (c.in_ok-search_whole.ensures.searched p is plain);
  reads = ([], Consumes-nil (g.R.Read.remaining c.args.input.now));
}

pub returns-in_err-search_whole-clause-begun : goal.returns-in_err-search_whole-clause-begun
returns-in_err-search_whole-clause-begun g c = λ p is plain.
    on_err c.from_residual.result (c.in_err-search_whole.ensures.begun p is plain c.args.alone c.requires.text (g.R.Read.remaining c.args.input.now))

pub returns-then-is_done-clause-front : goal.returns-then-is_done-clause-front
returns-then-is_done-clause-front g c = λ p is plain.
    front_stop p _ _ _ _ _ _ _ _ _ _ (c.is_done.ensures.settled.0 c.if-is_done.true) (c.loop.invariant.searched p is plain).0

-- more is told of the lines behind those that were searched
goes : {P : Type 0} {done : Bool} → (P → done ≡ true) → done ≡ false → P → ⊥
goes tells not holds = true≢false (sym (tells holds) ∙ not)

pub returns-in_err-count-clause-begun : goal.returns-in_err-count-clause-begun
returns-in_err-count-clause-begun g c = λ p is plain.
    let (so_far, text) = c.loop.invariant.searched p is plain in
    on_err c.from_residual-in_err-count.result
    (behind_reads p _ _ _ _ _ _ _ _ _ _ _ _ so_far (goes c.is_done.ensures.settled.1 c.if-is_done.false)
    (behind_none p _ _ _ _ _ _ _ c.read_more.ensures.kept))

pub returns-in_err-count-clause-reads : goal.returns-in_err-count-clause-reads
returns-in_err-count-clause-reads g c = reads_both _ _ _ c.loop.invariant.reads c.read_more.ensures.reads

-- nothing came
pub returns-then-count-eq0-clause-front : goal.returns-then-count-eq0-clause-front
returns-then-count-eq0-clause-front g c = λ p is plain.
    let (so_far, text) = c.loop.invariant.searched p is plain in
    front_last p _ _ _ _ _ _ _ _ _ _ _ _ _ _ _ _ (goes c.is_done.ensures.settled.1 c.if-is_done.false) c.read_more.ensures.kept c.in_ok-count.ensures.filled text so_far
    c.if-count-eq0.true (rw c.bytes.ensures.bytes at c.in_ok-search_text.ensures.written p is plain)

pub returns-then-count-eq0-clause-reads : goal.returns-then-count-eq0-clause-reads
returns-then-count-eq0-clause-reads g c = reads_both _ _ _ c.loop.invariant.reads c.read_more.ensures.reads

pub returns-in_err-search_text-clause-begun : goal.returns-in_err-search_text-clause-begun
returns-in_err-search_text-clause-begun g c = λ p is plain.
    let (so_far, text) = c.loop.invariant.searched p is plain in
    let fills = c.in_ok-count.ensures.filled in
    on_err c.from_residual-in_err-search_text.result
    (behind_reads p _ _ _ _ _ _ _ _ _ _ _ _ so_far (goes c.is_done.ensures.settled.1 c.if-is_done.false)
    (behind_filled p _ _ _ _ _ _ _ _ _ _ _ _ c.read_more.ensures.kept fills
    (behind_lines p _ _ _ _ _ _ _ _ _ [] (sym (append-nil _)) (inl (refl, fills.ended c.if-count-eq0.true)) (end_text _ _ _ _ _ _ fills text c.if-count-eq0.true)
    (rw c.bytes.ensures.bytes at c.in_err-search_text.ensures.begun p is plain))))

pub returns-in_err-search_text-clause-reads : goal.returns-in_err-search_text-clause-reads
returns-in_err-search_text-clause-reads g c = reads_both _ _ _ c.loop.invariant.reads c.read_more.ensures.reads

-- a line with a zero byte did
pub returns-in-Some-clause-front : goal.returns-in-Some-clause-front
returns-in-Some-clause-front g c = λ p is plain.
    let (so_far, text) = c.loop.invariant.searched p is plain in
    front_binary p _ _ _ _ _ _ _ _ _ _ _ _ _ _ _ _ (goes c.is_done.ensures.settled.1 c.if-is_done.false) c.read_more.ensures.kept c.in_ok-count.ensures.filled text so_far
    c.in-Some.ensures.asked _ c.in-Some.start (rw c.bytes-in-loop.ensures.bytes at c.in-Some.ensures.within) (rw c.bytes-in-loop.ensures.bytes at c.in-Some.ensures.ends)
    (λ asked. rw c.bytes-in-loop.ensures.bytes at c.in-Some.ensures.zero asked) c.drop_front.ensures.rest
    (rw c.bytes-in-Some.ensures.bytes at c.in_ok-search_text-in-Some.ensures.written p is plain)

pub returns-in-Some-clause-reads : goal.returns-in-Some-clause-reads
returns-in-Some-clause-reads g c = reads_both _ _ _ c.loop.invariant.reads c.read_more.ensures.reads

pub returns-in_err-search_text-in-Some-clause-begun : goal.returns-in_err-search_text-in-Some-clause-begun
returns-in_err-search_text-in-Some-clause-begun g c = λ p is plain.
    let (so_far, text) = c.loop.invariant.searched p is plain in
    let fills = c.in_ok-count.ensures.filled in
    on_err c.from_residual-in_err-search_text-in-Some.result
    (behind_reads p _ _ _ _ _ _ _ _ _ _ _ _ so_far (goes c.is_done.ensures.settled.1 c.if-is_done.false)
    (behind_filled p _ _ _ _ _ _ _ _ _ _ _ _ c.read_more.ensures.kept fills
    (behind_whole p _ _ _ _ _ _ _ _ c.in-Some.start (rw c.bytes-in-loop.ensures.bytes at c.in-Some.ensures.within) (rw c.bytes-in-loop.ensures.bytes at c.in-Some.ensures.ends)
    (λ asked. (filled_by _ _ _ _ _ _ fills text (λ is. rw c.bytes-in-loop.ensures.bytes at c.in-Some.ensures.zero is) asked).0)
    (rw c.bytes-in-Some.ensures.bytes at c.in_err-search_text-in-Some.ensures.begun p is plain))))

pub returns-in_err-search_text-in-Some-clause-reads : goal.returns-in_err-search_text-in-Some-clause-reads
returns-in_err-search_text-in-Some-clause-reads g c = reads_both _ _ _ c.loop.invariant.reads c.read_more.ensures.reads

-- or none
pub loop-preserved : goal.loop-preserved
loop-preserved g c = record {
  searched = λ p is plain.
      let (so_far, text) = c.loop.invariant.searched p is plain in
      front_text p _ _ _ _ _ _ _ _ _ _ _ _ _ _ _ _ (goes c.is_done.ensures.settled.1 c.if-is_done.false) c.read_more.ensures.kept c.in_ok-count.ensures.filled text so_far
      _ (λ asked. rw c.bytes-in-loop.ensures.bytes at c.in-None.ensures.zero asked) (c.in_ok-search_whole-in-None.ensures.searched p is plain);
  reads = reads_both _ _ _ c.loop.invariant.reads c.read_more.ensures.reads;
}

pub returns-in_err-search_whole-in-None-clause-begun : goal.returns-in_err-search_whole-in-None-clause-begun
returns-in_err-search_whole-in-None-clause-begun g c = λ p is plain.
    let (so_far, text) = c.loop.invariant.searched p is plain in
    let fills = c.in_ok-count.ensures.filled in
    on_err c.from_residual-in_err-search_whole-in-None.result
    (behind_reads p _ _ _ _ _ _ _ _ _ _ _ _ so_far (goes c.is_done.ensures.settled.1 c.if-is_done.false)
    (behind_filled p _ _ _ _ _ _ _ _ _ _ _ _ c.read_more.ensures.kept fills
    (c.in_err-search_whole-in-None.ensures.begun p is plain c.args.alone
    (filled_by _ _ _ _ _ _ fills text (λ asked. rw c.bytes-in-loop.ensures.bytes at c.in-None.ensures.zero asked)) (g.R.Read.remaining c.read_more.new.input))))

pub returns-in_err-search_whole-in-None-clause-reads : goal.returns-in_err-search_whole-in-None-clause-reads
returns-in_err-search_whole-in-None-clause-reads g c = reads_both _ _ _ c.loop.invariant.reads c.read_more.ensures.reads

pub returns-clause-begun : goal.returns-clause-begun
returns-clause-begun g c = λ p is plain.
    let (so_far, text) = c.loop.invariant.searched p is plain in
    behind_searched p _ _ _ _ _ _ _ _ _ _ so_far.some (inr so_far.whole)
