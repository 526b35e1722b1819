-- The states so far that list a pattern are gathered.
use Rattle.std.proofs.Common.{◌≡◌, []}
use Rattle.aho_build.specs.Shuffled.{AreGathered, RowsAreMoved}
use Rattle.aho_build.proofs.compiler.shuffle.gather_matches.Given as goal

abbrev pub invariant-loop-index : goal.invariant-loop-index
invariant-loop-index l =
    AreGathered l.next l.index l.remapper l.fn.table.states l.table.states
    × (record l.table { states = []; rows = [] } ≡ record l.fn.table { states = []; rows = [] })
    × RowsAreMoved l.remapper l.fn.table.rows l.table.rows
