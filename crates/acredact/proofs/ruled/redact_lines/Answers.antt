-- The files are redacted by what was loaded.
use Rattle.acredact.proofs.Common.{IfErr-weaker, IsRuledTold, all_given, ap, call_of, inr, length, length-map, on_ok_weaker, pieces_of, replicate, rules, sym, ℕ, ◌∙◌}
use Rattle.acredact.specs.Ruled.{ruled_load}
use Rattle.acredact.proofs.Calls.{tells_weaker}
use Rattle.acredact.proofs.RuledCalls.{files_done, files_failed, texts_many}
use Rattle.acredact.proofs.ruled.redact_lines.Goals as goal

pub returns-in-Ok-clause-outcome : goal.returns-in-Ok-clause-outcome
returns-in-Ok-clause-outcome g c =
    let call = call_of g.F.Folder c.args.folder.now (all_given c.args.given.now) in
    let load = ruled_load c.args.secrets.now c.args.rules.now c.args.key in
    let run = c.redact_flushed in
    let texts = c.as_slice-texts.result.now in
    let sized = sym (length-map texts (λ piece. piece.now)) ∙ ap length (ap pieces_of c.as_slice-texts.ensures.value ∙ c.in_ok-texts.ensures.texts) ∙ texts_many call.given load in
    files_done g.W.Write g.E.Sink call load c.args.streams.now run.new.streams c.as_mut_slice-tally.result.now run.new.counts run.new.volume c.in-Ok.all c.tell_counted.result c.tell_count.new.errors c.tell_counted.new.errors
    (rw c.requires.names at (c.in-Ok.ensures _ c.in_ok-lined.ensures.lined))
    (c.as_mut_slice-tally.ensures.value ∙ c.in_ok-counts.ensures.items_if_clones_equal (λ y same. same) ∙ ap (λ (n : ℕ). replicate n 0) sized) (rw (c.most_of.ensures.most, c.last_of.ensures.last) at c.tell_count.ensures.told)
    c.tell_counted.ensures.all (IfErr-weaker c.tell_counted.result _ _ (λ failure is. tt) c.tell_counted.ensures.fails) (rw c.as_slice.ensures.same at c.tell_counted.ensures.told)
    (tells_weaker g.E.Sink _ (IsRuledTold call) _ _ (λ line is. inr (inr (inr (inr (is.0, load.secrets, c.as_slice.result.now, run.new.counts, run.new.volume, is.1))))) c.tell_counted.ensures.lines)

pub returns-clause-outcome : goal.returns-clause-outcome
returns-clause-outcome g c =
    files_failed g.W.Write g.E.Sink (call_of g.F.Folder c.args.folder.now (all_given c.args.given.now)) (ruled_load c.args.secrets.now c.args.rules.now c.args.key) c.args.streams.now c.redact_flushed.new.streams c.as_mut_slice-tally.result.now
    c.redact_flushed.new.counts c.redact_flushed.new.volume c.in-Err.error c.failure_in.result (rw c.requires.names at (c.in-Err.ensures _ c.in_ok-lined.ensures.lined))

pub returns-in-Ok-clause-flushed : goal.returns-in-Ok-clause-flushed
returns-in-Ok-clause-flushed g c = on_ok_weaker c.tell_counted.result (λ told. (c.in-Ok.ensures _ c.in_ok-lined.ensures.lined).flushed) c.tell_counted.ensures.told
