-- What was found so far begins the finds.
use Rattle.std.proofs.Common.{rules, None, arith}
use Rattle.aho_core.specs.Iteration.{AreFinds}
use Rattle.aho_core.specs.Search.{plain_search}
use Rattle.aho_automaton.specs.Finding.{AreFirstFinds}
use Rattle.aho_automaton.proofs.NextFinds.{finds-begun}
use Rattle.tool_parts.proofs.Matches.{begun-first}
use Rattle.tool_parts.proofs.run.print_finds.Goals as goal

pub returns-clause-begun : goal.returns-clause-begun
returns-clause-begun g c p of =
    let ran = c.print.ensures.begun in
    let first : AreFirstFinds p (plain_search c.args.text.now) None ran.0.items = search rules in
    let all = finds-begun p ran.0.items (plain_search c.args.text.now) None (omega arith) first in
    begun-first g.W.Write (AreFinds p (plain_search c.args.text.now) None) _ _ ran.0.items all.0 all.1 ran.2
