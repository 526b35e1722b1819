-- What is true of every store.
use Rattle.std.proofs.Common.{◌∙◌, arith}
use Rattle.aho_table.proofs.Patterns.{patterns_at-zero}
use Rattle.aho_table.proofs.Listed.{length-pattern_lists, list_at-pattern_lists}
use Rattle.aho_table.proofs.lists.matches.MatchLists.facts.Goals as goal

pub returns-clause-some : goal.returns-clause-some
returns-clause-some c = rw (← c.self.view_is) (omega (arith, length-pattern_lists c.self.inside.words.items c.self.inside.places.items))

pub returns-clause-empty : goal.returns-clause-empty
returns-clause-empty c =
    rw (← c.self.view_is) (list_at-pattern_lists c.self.inside.words.items c.self.inside.places.items 0 ∙ patterns_at-zero c.self.inside.words.items)
