-- What was put together is written, or a beginning of it.
use Rattle.acgrep.proofs.Common.{Keeps-refl}
use Rattle.std.proofs.Common.{◌≡◌}
use Rattle.tool_parts.proofs.Beginnings.{beginning-whole}
use Rattle.acgrep.specs.Files.{total_if}
use Rattle.acgrep.proofs.Beginnings.{page_bytes}
use Rattle.acgrep.proofs.FilesBegun.{total_begins, total_none}
use Rattle.acgrep.proofs.files.put_total.Goals as goal

pub returns-in_err-put_asked-clause-begun : goal.returns-in_err-put_asked-clause-begun
returns-in_err-put_asked-clause-begun g c = total_none _ _ _ _ (Keeps-refl _)

pub returns-in_err-write_whole-clause-begun : goal.returns-in_err-write_whole-clause-begun
returns-in_err-write_whole-clause-begun g c =
    let page : c.as_slice.result.now ≡ total_if c.args.job.now.shown c.args.job.now.style c.args.selected =
    page_bytes _ _ _ _ c.new-page.ensures.items c.as_slice.ensures.value c.in_ok-put_asked.ensures.written in
    total_begins _ _ _ _ (rw page at c.in_err-write_whole.ensures.beginning)

pub returns : goal.returns
returns g c =
    let page : c.as_slice.result.now ≡ total_if c.args.job.now.shown c.args.job.now.style c.args.selected =
    page_bytes _ _ _ _ c.new-page.ensures.items c.as_slice.ensures.value c.in_ok-put_asked.ensures.written in
    let written = rw page at c.in_ok-write_whole.ensures.whole in
    record { written = written; begun = total_begins _ _ _ _ (beginning-whole _ _ _ written) }
