-- What the searcher holds, or the searcher itself, is an automaton of the patterns that are asked for.
use Rattle.aho_hybrid.specs.contracts.hybrid.HybridAutomaton.TheImpl.{ghosts as of_rows}
use Rattle.chromesquid.specs.contracts.automaton.AhoCorasickAutomaton.TheImpl.{ghosts as of_searcher}
use Rattle.tool_parts.proofs.Searched.{kind_by, some_of, starts_by}
use Rattle.tool_parts.specs.Asked.{kind_of, request_patterns}
use Rattle.tool_parts.proofs.run.print_request.Goals as goal

pub print_matches-requires : goal.print_matches-requires
print_matches-requires g c =
    let p = request_patterns c.args.request.now in
    let stands = c.in-Some.ensures.stands in
    record {
      of = some_of of_rows _ c.args.searcher.now stands p c.requires.of;
      starts = starts_by of_rows _ c.args.searcher.now stands p c.requires.of c.requires.answers;
      kind = kind_by of_rows _ c.args.searcher.now stands (kind_of c.args.request.now.task) c.requires.kind;
    }

pub print_matches-requires-in-None : goal.print_matches-requires-in-None
print_matches-requires-in-None g c =
    let p = request_patterns c.args.request.now in
    let stands = c.itself.ensures.stands in
    record {
      of = some_of of_searcher _ c.args.searcher.now stands p c.requires.of;
      starts = starts_by of_searcher _ c.args.searcher.now stands p c.requires.of c.requires.answers;
      kind = kind_by of_searcher _ c.args.searcher.now stands (kind_of c.args.request.now.task) c.requires.kind;
    }

pub returns-in-Some-clause-printed : goal.returns-in-Some-clause-printed
returns-in-Some-clause-printed g c = let p = request_patterns c.args.request.now in c.print_matches.ensures.printed p (c.in-Some.ensures.stands.of p c.requires.of)

pub returns-in-Some-clause-begun : goal.returns-in-Some-clause-begun
returns-in-Some-clause-begun g c = let p = request_patterns c.args.request.now in c.print_matches.ensures.begun p (c.in-Some.ensures.stands.of p c.requires.of)

pub returns-in-None-clause-printed : goal.returns-in-None-clause-printed
returns-in-None-clause-printed g c = let p = request_patterns c.args.request.now in c.print_matches-in-None.ensures.printed p (c.itself.ensures.stands.of p c.requires.of)

pub returns-in-None-clause-begun : goal.returns-in-None-clause-begun
returns-in-None-clause-begun g c = let p = request_patterns c.args.request.now in c.print_matches-in-None.ensures.begun p (c.itself.ensures.stands.of p c.requires.of)
