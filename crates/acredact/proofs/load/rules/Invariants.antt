-- What the options so far gave is loaded.
use Rattle.acredact.proofs.Common.{[], all_given, bytes_left, reading_of_lists, secrets_of, take}
use Rattle.acredact.specs.Loading.{OptionGives}
use Rattle.acredact.proofs.Loaded.{GivenSoFar}
use Rattle.acredact.proofs.load.rules.Given as goal

abbrev pub invariant-loop-number : goal.invariant-loop-number
invariant-loop-number g l =
    GivenSoFar (λ item. OptionGives (reading_of_lists g.F.Folder l.lists) item.word item.value) (all_given (take l.number l.fn.given)) (bytes_left l.initial.input) (bytes_left l.input) [] (secrets_of l.rules.items)
