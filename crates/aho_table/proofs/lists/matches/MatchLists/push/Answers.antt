-- The pattern stands behind those of the list.
use Rattle.std.proofs.Common.{◌+◌, arith}
use Rattle.aho_table.proofs.lists.matches.MatchLists.push.Goals as goal

pub push_listed-requires-clause-stored : goal.push_listed-requires-clause-stored
push_listed-requires-clause-stored c = record {
  count = c.self.inside.count;
  limit = c.self.inside.limit;
  stored = c.self.invariant;
  few = omega (arith, c.if-self.false);
}

pub returns-clause-listed : goal.returns-clause-listed
returns-clause-listed c = rw (← c.self.view_is) (c.in-Ok.ensures.listed c.self.inside.count (c.self.inside.count + 1) c.self.inside.limit)

pub returns-clause-number : goal.returns-clause-number
returns-clause-number c = rw (← c.self.view_is) c.in-Ok.ensures.number
