-- The rules that the options so far give were read.
use Rattle.acredact.proofs.Common.{[], all_given, bytes_left, reading_of_lists, take}
use Rattle.acredact.specs.LineRules.{OptionGivesRules}
use Rattle.acredact.proofs.Loaded.{GivenSoFar}
use Rattle.acredact.proofs.line_rules.read_rules.Given as goal

abbrev pub invariant-loop-item : goal.invariant-loop-item
invariant-loop-item g l =
    GivenSoFar (λ item. OptionGivesRules (reading_of_lists g.F.Folder l.fn.lists) item.word item.value) (all_given (take l.item-index l.fn.items)) (bytes_left l.initial.input) (bytes_left l.input) [] l.rules.items
