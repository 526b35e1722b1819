-- A text that was written whole is the fault's line.
use Rattle.std.proofs.Common.{◌∙◌, ap, ◌++◌}
use Rattle.tool_parts.specs.Failures.{line_of_failure}
use Rattle.tool_parts.proofs.Calls.{text_after_calls}
use Rattle.tool_parts.proofs.failure.Failure.line.Goals as goal

pub returns : goal.returns
returns c =
    let (intact, text) = text_after_calls _ _ _ c.in_ok-writeln.ensures.writes c.new-line.ensures.intact in
    record { line = text ∙ ap (λ l. l ++ line_of_failure c.args.self.now) c.new-line.ensures.text }
