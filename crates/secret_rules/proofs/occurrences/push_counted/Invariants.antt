use Rattle.secret_rules.specs.Picking.{Picks}
use Rattle.secret_rules.proofs.occurrences.push_counted.Given as goal

abbrev pub invariant-loop-m : goal.invariant-loop-m
invariant-loop-m g l = record {
  can_next : (goal.iterator-loop-m g).can_next l.m-iterator;
  is_finite : (goal.iterator-loop-m g).is_finite l.m-iterator;
  picks : Picks l.words l.line l.yielded l.found.items;
}
