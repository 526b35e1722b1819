-- All was read before something was written.
use Rattle.tool_parts.proofs.Counted.{faults_after}
use Rattle.tool_parts.proofs.run.search_input.Goals as goal

pub returns-clause-faults : goal.returns-clause-faults
returns-clause-faults g c =
    faults_after c.args.input.now c.read.new.input c.args.output.now c.print_request.new.output c.in_ok-text.text c.print_request.result c.in_ok-text.ensures.faults c.print_request.ensures.of_write c.print_request.ensures.faults
