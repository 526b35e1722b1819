-- The line by its parts.
use Rattle.std.proofs.Common.{refl, subst, codes}
use Rattle.tool_parts.specs.Telling.{TellsBytes}
use Rattle.tool_parts.proofs.Tellings.{tells-later}
use Rattle.rule_files.specs.Messages.{as_shown}
use Rattle.rule_files.specs.Flaws.{flawed_line, name_of_bad}
use Rattle.rule_files.proofs.ShownNames.{seven_parts}
use Rattle.rule_files.proofs.flaw.tell_rule.Goals as goal

pub returns : goal.returns
returns g c =
    let (why, is, flawed) = c.write_flaw.ensures.told in
    let K = g.E.Sink in
    record {
      told = (
        flawed_line c.args.program.now c.args.name.now c.args.bad.now why,
        (why, is, refl),
        subst (TellsBytes K c.args.errors.now c.write-4.new.self)
            (seven_parts c.args.program.now (codes ": ") (as_shown c.args.name.now) (codes ": rule ") (name_of_bad c.args.bad.now) (codes ": ") why (codes "\n"))
            (tells-later K (tells-later K (tells-later K (tells-later K (tells-later K (tells-later K c.write.ensures.told c.write_shown.ensures.told) c.write-2.ensures.told) c.write_rule.ensures.told) c.write-3.ensures.told) flawed) c.write-4.ensures.told),
      );
    }
