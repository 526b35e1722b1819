-- The rules were read, and what was said was done by them. How many lines are too long is told at the end.
use Rattle.acgrep.proofs.Common.{Nothing}
use Rattle.std.proofs.Common.{false, inr, refl}
use Rattle.secret_rules.specs.Covering.{covering_by}
use Rattle.acgrep.specs.Arguments.{shown_by}
use Rattle.acgrep.specs.RunsByRules.{no_patterns}
use Rattle.acgrep.specs.ToldByRules.{IsMarkTold}
use Rattle.acgrep.proofs.MarksTold.{long-told}
use Rattle.acgrep.proofs.Told.{status-some}
use Rattle.acgrep.proofs.ruled.mark_asked.Goals as goal

pub returns-in_default-clause-told : goal.returns-in_default-clause-told
returns-in_default-clause-told g c = status-some g.E.Sink IsMarkTold c.args.given.now.flags.no_messages Nothing c.args.errors.now c.read_rules.new.errors (c.in_default.ensures.told refl)

pub returns-in-Err-clause-told : goal.returns-in-Err-clause-told
returns-in-Err-clause-told g c = status-some g.E.Sink IsMarkTold c.args.given.now.flags.no_messages Nothing c.args.errors.now c.tell_all.new.errors (rw (c.in-Some.ensures.silent refl) at c.tell_all.ensures.told)

pub returns-clause-told : goal.returns-clause-told
returns-clause-told g c =
    long-told g.E.Sink c.args.given.now.flags.no_messages (shown_by c.args.given.now.flags) c.mark_operands-status.result _ _ c.args.errors.now c.mark_operands-status.new.errors c.tell_long.new.errors
    (rw (c.in-Some.ensures.silent refl) at c.mark_operands-status.ensures.told) c.tell_long.ensures.told

pub returns-clause-searches : goal.returns-clause-searches
returns-clause-searches g c = λ low.
    let covering = covering_by false c.in-Some.rules c.most_of-most.result no_patterns in
    let reached = c.mark_operands-status.ensures.searched covering c.in-Ok.ensures.marks low in
    record {
      what = c.in-Some.rules;
      between = g.R.Read.remaining c.read_rules.new.input;
      read = rw c.as_slice-names.ensures.value at c.in-Some.ensures.rules;
      does = (c.in-Some.ensures.sound, rw (c.most_of-most.ensures.most, c.as_slice-operands.ensures.value) at reached);
    }

pub returns-clause-begins : goal.returns-clause-begins
returns-clause-begins g c =
    let covering = covering_by false c.in-Some.rules c.most_of-most.result no_patterns in
    let begun = c.mark_operands-status.ensures.begun covering c.in-Ok.ensures.marks in
    inr (record {
      what = c.in-Some.rules;
      between = g.R.Read.remaining c.read_rules.new.input;
      read = rw c.as_slice-names.ensures.value at c.in-Some.ensures.rules;
      does = rw (c.most_of-most.ensures.most, c.as_slice-operands.ensures.value) at begun;
    })
