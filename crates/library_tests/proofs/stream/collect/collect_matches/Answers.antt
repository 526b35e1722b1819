-- How the loop over the matches goes on, and what was collected at its end.
use Rattle.std.proofs.Common.{List, Option, Some, Result, ◌∙◌, ap, map, subst, sym}
use Rattle.std.specs.Iterator.{Yields}
use Rattle.aho_core.specs.Occurrence.{Occurrence}
use Rattle.aho_core.specs.declared.error.stream.StreamError.{StreamError}
use Rattle.aho_stream.specs.Finds.{FindsNextInStream}
use Rattle.aho_stream.proofs.Collected.{all_found, found, goes_on, less_to_find, no_limit_found, yields_more}
use Rattle.aho_stream.proofs.FindRuns.{find_steps}
use Rattle.library_tests.proofs.stream.collect.collect_matches.Goals as goal

pub returns-in-None-clause-all : goal.returns-in-None-clause-all
returns-in-None-clause-all g c = λ p of.
    let items = c.loop-matches.matches.items in
    let step = subst (λ (r : Option (Result Occurrence StreamError)). FindsNextInStream g.A.Automaton g.R.Source c.loop-matches.found.chunks c.next_of.new.found.chunks r) c.in-None.is c.next_of.ensures.gives in
    all_found g.R.Source p _ _ items
    ((c.requires.along p of).all (map found items) c.next_of.new.found (c.loop-matches.found, c.loop-matches.invariant.yields, step) (no_limit_found items))

pub loop-matches-smaller : goal.loop-matches-smaller
loop-matches-smaller g c =
    let is = c.in-Some-Ok.is ∙ ap Some c.in-Some-Ok.field-0-is in
    let step = subst (λ (r : Option (Result Occurrence StreamError)). FindsNextInStream g.A.Automaton g.R.Source c.loop-matches.found.chunks c.next_of.new.found.chunks r) is c.next_of.ensures.gives in
    less_to_find g.A.Automaton g.R.Source (λ automaton p of. (g.met.A.Automaton.laws automaton p of).lengths_are) c.loop-matches.found.chunks c.next_of.new.found.chunks c.in-Some-Ok.m c.loop-matches.invariant.can_next step

pub loop-matches-preserved : goal.loop-matches-preserved
loop-matches-preserved g c =
    let inv = c.loop-matches.invariant in
    let is = c.in-Some-Ok.is ∙ ap Some c.in-Some-Ok.field-0-is in
    let step = subst (λ (r : Option (Result Occurrence StreamError)). FindsNextInStream g.A.Automaton g.R.Source c.loop-matches.found.chunks c.next_of.new.found.chunks r) is c.next_of.ensures.gives in
    record {
      can_next = goes_on g.A.Automaton g.R.Source (λ automaton p of. (g.met.A.Automaton.laws automaton p of).lengths_are) _ _ _ inv.can_next step;
      source = step.call.same_source ∙ inv.source;
      yields = subst (λ (items : List Occurrence). Yields (find_steps g.A.Automaton g.R.Source) c.args.found.now (map found items) c.next_of.new.found) (sym c.in-Ok.ensures.items)
          (yields_more g.A.Automaton g.R.Source (λ automaton p of. (g.met.A.Automaton.laws automaton p of).lengths_are) c.args.found.now c.loop-matches.found c.next_of.new.found c.loop-matches.matches.items c.in-Some-Ok.m inv.yields step);
    }
