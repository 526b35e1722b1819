-- What each kind of call says, and its status.
use Rattle.acredact.proofs.Common.{CheckLines, CheckTexts, aim_of, all_given, ap, call_of, is_check, refl, rules, sym, ◌∙◌, ◌≡◌}
use Rattle.acredact.proofs.Outcomes.{ended_well}
use Rattle.acredact.proofs.RuledCalls.{ruled_ends}
use Rattle.acredact.proofs.Statuses.{status_told}
use Rattle.acredact.proofs.run.answer.Goals as goal

pub returns-in-CheckLines : goal.returns-in-CheckLines
returns-in-CheckLines g c =
    let is : aim_of (all_given c.args.given.now) ≡ CheckLines = sym c.aim_of.ensures.aim ∙ c.in-CheckLines.is in
    record { says = λ aim asks. rw (sym asks ∙ is) (search rules); flushed = λ none. absurd (none (ap is_check is)); bound = c.check_by_rules.ensures.bound; one = λ one. ap is_check is }

pub returns-in-CheckTexts : goal.returns-in-CheckTexts
returns-in-CheckTexts g c =
    let is : aim_of (all_given c.args.given.now) ≡ CheckTexts = sym c.aim_of.ensures.aim ∙ c.in-CheckTexts.is in
    record {
      says = λ aim asks. rw (sym asks ∙ is) (record { patternless = c.check.ensures.patternless; unread = c.check.ensures.unread; says = c.check.ensures.says; unwritten = refl });
      flushed = λ none. absurd (none (ap is_check is));
      bound = c.check.ensures.bound;
      one = λ one. ap is_check is;
    }

pub returns-in-RedactLines : goal.returns-in-RedactLines
returns-in-RedactLines g c =
    let done = c.redact_by_rules-done in
    let ends = c.report_end.ensures.ends in
    record {
      says = λ aim asks. rw (sym asks ∙ sym c.aim_of.ensures.aim ∙ c.in-RedactLines.is) (ruled_ends g.E.Sink (call_of g.F.Folder c.args.folder.now (all_given c.args.given.now)) done.result _ _ _ _ _ _ _ _ ends done.ensures.outcome);
      flushed = λ none. ended_well g.E.Sink done.result _ _ _ ends done.ensures.flushed;
      bound = c.report_end.ensures.bound;
      one = λ one. absurd (c.report_end.ensures.other one);
    }

pub returns-in-RedactTexts : goal.returns-in-RedactTexts
returns-in-RedactTexts g c =
    let done = c.redact_asked-done in
    let ends = c.report_end-in-RedactTexts.ensures.ends in
    record {
      says = λ aim asks. rw (sym asks ∙ sym c.aim_of.ensures.aim ∙ c.in-RedactTexts.is) (status_told g.W.Write g.E.Sink _ _ done.new.streams done.result _ _ done.ensures.patternless done.ensures.idle ends done.ensures.outcome);
      flushed = λ none. ended_well g.E.Sink done.result _ _ _ ends done.ensures.flushed;
      bound = c.report_end-in-RedactTexts.ensures.bound;
      one = λ one. absurd (c.report_end-in-RedactTexts.ensures.other one);
    }

pub returns-in-Explain : goal.returns-in-Explain
returns-in-Explain g c =
    let done = c.print-done in
    record {
      says = λ aim asks. rw (sym asks ∙ sym c.aim_of.ensures.aim ∙ c.in-Explain.is) tt;
      flushed = λ none. ended_well g.E.Sink done.result _ _ _ c.report_end-in-Explain.ensures.ends done.ensures.flushed;
      bound = c.report_end-in-Explain.ensures.bound;
      one = λ one. absurd (c.report_end-in-Explain.ensures.other one);
    }
