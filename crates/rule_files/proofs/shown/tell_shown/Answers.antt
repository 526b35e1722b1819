-- A message in one part, or in five.
use Rattle.std.proofs.Common.{rules, ◌≡◌, ℕ, List, sym, subst, true, codes}
use Rattle.std.specs.Prelude.{Some}
use Rattle.tool_parts.specs.Messages.{line_before, message_of}
use Rattle.tool_parts.specs.Telling.{TellsBytes}
use Rattle.tool_parts.proofs.Tellings.{tells-later}
use Rattle.rule_files.specs.Messages.{as_shown}
use Rattle.rule_files.proofs.ShownNames.{five_parts}
use Rattle.rule_files.proofs.shown.tell_shown.Goals as goal

pub returns-then-is_plain : goal.returns-then-is_plain
returns-then-is_plain g c =
    let plain : c.is_plain.result ≡ true = search rules in
    record { told = subst (λ (n : List ℕ). TellsBytes g.E.Sink c.args.errors.now c.tell.new.self (message_of c.args.program.now (Some n) c.args.line c.args.cause.now)) (sym (c.is_plain.ensures.plain plain)) c.tell.ensures.told }

pub returns : goal.returns
returns g c = record {
  told = subst (TellsBytes g.E.Sink c.args.errors.now c.write-3.new.self)
      (five_parts c.args.program.now (codes ": ") (as_shown c.args.name.now) (codes ": ") (line_before c.args.line) c.args.cause.now (codes "\n"))
      (tells-later g.E.Sink (tells-later g.E.Sink (tells-later g.E.Sink (tells-later g.E.Sink c.write.ensures.told c.write_shown.ensures.told) c.write-2.ensures.told) c.write_line.ensures.told) c.write-3.ensures.told);
}
