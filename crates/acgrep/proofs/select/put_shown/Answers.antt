-- What is asked for is written: a coloured line, the matches or objects, or nothing.
use Rattle.acgrep.proofs.Common.{Appends-nil, on_ok_weaker}
use Rattle.std.proofs.Common.{◌∙◌, [], refl, sym}
use Rattle.acgrep.specs.Matches.{WritesColored}
use Rattle.acgrep.specs.Printed.{colored_line_by}
use Rattle.acgrep.specs.declared.matches.Shape.TheVariants.{AsFields, OnLines}
use Rattle.acgrep.proofs.Tellings.{matches_shown, nothing_shown}
use Rattle.acgrep.proofs.select.put_shown.Goals.{in_default-via-in-Matches+else-not-job, in_default-via-in-Objects+else-not-job-2, in_default-via-in_default}
use Rattle.acgrep.proofs.select.put_shown.Goals as goal

pub returns-in-Lines : goal.returns-in-Lines
returns-in-Lines g c = record {
  shown = λ p is. on_ok_weaker c.put_colored_line.result
      (λ (shown : WritesColored _ _ p _ _ _ _). (
        colored_line_by c.args.query.now.job.style c.args.place c.args.line.now shown.matches,
        rw (c.in-Lines.is, sym c.colors.ensures.colored ∙ c.if-colors.true) (shown.matches, shown.found, refl),
        shown.written,
      ))
      (c.put_colored_line.ensures.written p is);
}

pub returns-in-Matches : goal.returns-in-Matches
returns-in-Matches g c = record {
  shown = λ p is. on_ok_weaker c.put_matches.result (matches_shown p c.args.query.now.job c.args.place _ _ c.args.line.now OnLines (λ ms found. rw (c.in-Matches.is, c.if-not-job.true) (ms, found, refl)))
      (c.put_matches.ensures.written p is);
}

pub returns-in-Objects : goal.returns-in-Objects
returns-in-Objects g c = record {
  shown = λ p is. on_ok_weaker c.put_matches-in-Objects.result (matches_shown p c.args.query.now.job c.args.place _ _ c.args.line.now AsFields (λ ms found. rw (c.in-Objects.is, c.if-not-job-2.true) (ms, found, refl)))
      (c.put_matches-in-Objects.ensures.written p is);
}

pub returns-in_default : goal.returns-in_default
returns-in_default g c =
    let same = Appends-nil (g.W.Write.contents c.args.output.now) in
    record {
      shown = λ p is. elim c.in_default.branch [
        | in_default-via-in-Matches+else-not-job w ↦ ([], rw (w.in-Matches.is, w.if-not-job.false) refl, same)
        | in_default-via-in-Objects+else-not-job-2 w ↦ ([], rw (w.in-Objects.is, w.if-not-job-2.false) refl, same)
        | in_default-via-in_default w ↦ ([], nothing_shown p _ _ _ _ _ _ w.in_default.not-Lines w.in_default.not-Matches w.in_default.not-Objects, same)
      ];
    }
