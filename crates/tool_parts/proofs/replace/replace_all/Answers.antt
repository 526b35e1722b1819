-- What the library promises of the devices holds of the reader and the writer.
use Rattle.std.proofs.Common.{◌≢◌, ◌∙◌, sym, ap, refl, subst}
use Rattle.std.specs.Io.KnownBytes.{Consumes}
use Rattle.aho_build.proofs.StoppedBuilds.{IfErr-given}
use Rattle.tool_parts.proofs.Ends.{at_end}
use Rattle.tool_parts.proofs.Replacings.{begins_asked, leaves_stream, most_asked, replaces_asked}
use Rattle.tool_parts.specs.Asked.{patterns_to_replace}
use Rattle.tool_parts.proofs.replace.replace_all.Goals as goal

pub returns-in_err-try_stream_replace_all-clause-leaves : goal.returns-in_err-try_stream_replace_all-clause-leaves
returns-in_err-try_stream_replace_all-clause-leaves g c asked same of =
    let promised = c.in_err-try_stream_replace_all.ensures in
    let p = patterns_to_replace asked in
    let left = ap (λ device. g.R.Read.remaining device.reader) c.restart.ensures.device in
    let ends = λ (some : c.try_stream_replace_all.new.source.empty_reads ≢ 0). at_end _ (λ bytes is. c.try_stream_replace_all.new.source.ended bytes some is) in
    IfErr-given _ _ _ c.from_residual.ensures.1
    (leaves_stream c.in_err-try_stream_replace_all.field-0.0
    (λ made. (ap (λ s. s.device) (promised.untouched made).0 ∙ c.restart.ensures.device, ap (λ s. s.device) (promised.untouched made).1))
    (begins_asked asked (rw (sym same) at promised.begun p of) refl left c.restart.ensures.empty_reads ends)
    (λ fill. most_asked asked (rw (sym same) at (promised.near p of fill)) refl left c.restart.ensures.empty_reads ends)
    (λ limit. let gave = promised.limit limit in
    (gave.0, subst (λ bytes. Consumes bytes (g.R.Read.remaining c.try_stream_replace_all.new.source.device.reader) gave.0) left gave.1.bytes, gave.2)))

pub returns-clause-replaces : goal.returns-clause-replaces
returns-clause-replaces g c asked same of =
    let left = ap (λ device. g.R.Read.remaining device.reader) c.restart.ensures.device in
    replaces_asked asked (rw (sym same) at c.in_ok-try_stream_replace_all.ensures.replaced (patterns_to_replace asked) of) refl left c.restart.ensures.empty_reads
    (λ some. at_end _ (λ bytes is. c.try_stream_replace_all.new.source.ended bytes some is))
