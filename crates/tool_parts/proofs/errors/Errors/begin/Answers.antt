-- The parts stand one after another.
use Rattle.std.proofs.Common.{◌++◌, codes, option_map, subst}
use Rattle.tool_parts.specs.Messages.{line_before, name_before}
use Rattle.tool_parts.specs.Telling.{TellsBytes}
use Rattle.tool_parts.proofs.Tellings.{head-parts, tells-later}
use Rattle.tool_parts.proofs.errors.Errors.begin.Goals as goal

pub returns : goal.returns
returns g c =
    let K = g.E.Sink in
    let name = name_before (option_map (λ name. name.now) c.args.name) in
    let first : TellsBytes K c.args.self.now c.write.new.self (c.args.program.now ++ codes ": ") = c.write.ensures.told in
    record {
      told = subst (TellsBytes K c.args.self.now c.write_place.new.self) (head-parts c.args.program.now name (line_before c.args.line))
          (tells-later K first (tells-later K c.write_name.ensures.told c.write_place.ensures.told));
    }
