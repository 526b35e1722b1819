-- The values before what is left are added.
use Rattle.acredact.proofs.Common.{pieces_of, secrets_of, take}
use Rattle.acredact.specs.Values.{GivesValue}
use Rattle.acredact.proofs.Loaded.{GivenSoFar}
use Rattle.acredact.proofs.load.add_values.Given as goal

abbrev pub invariant-loop-value : goal.invariant-loop-value
invariant-loop-value g l = GivenSoFar (λ value some before after. GivesValue l.fn.lists.parts value some) (pieces_of (take l.value-index l.fn.values)) (tt {0}) (tt {0}) (secrets_of l.initial.rules.items) (secrets_of l.rules.items)
