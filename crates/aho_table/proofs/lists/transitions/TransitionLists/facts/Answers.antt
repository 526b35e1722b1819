-- What is true of every store.
use Rattle.std.proofs.Common.{length}
use Rattle.aho_table.specs.ListsInside.{transition_entries}
use Rattle.aho_table.proofs.Stores.{list_at-zero, length-lists_of}
use Rattle.aho_table.proofs.TransitionChanges.{list_at-rising}
use Rattle.aho_table.specs.ListsInside.{with_first}
use Rattle.aho_table.proofs.lists.transitions.TransitionLists.facts.Goals as goal

pub returns-clause-some : goal.returns-clause-some
returns-clause-some c = rw (← c.self.view_is, length-lists_of) c.self.invariant.0.rings.some

pub returns-clause-within : goal.returns-clause-within
returns-clause-within c = rw (← c.self.view_is, length-lists_of) c.self.invariant.0.count_within

pub returns-clause-empty : goal.returns-clause-empty
returns-clause-empty c = rw (← c.self.view_is) (list_at-zero (transition_entries (with_first c.self.inside.entries.items)) (length (with_first c.self.inside.entries.items)) c.self.invariant.0.rings.some)

pub returns-clause-rising : goal.returns-clause-rising
returns-clause-rising c = rw (← c.self.view_is) (list_at-rising (with_first c.self.inside.entries.items) c.self.invariant.0.rings)
