-- What is left of the arguments gives what all of them do.
use Rattle.acredact.proofs.Common.{all_given, drop, given_by, texts, ◌≡◌}
use Rattle.acredact.specs.Arguments.{given_from}
use Rattle.acredact.proofs.arguments.read_items.Given as goal

abbrev pub invariant-loop-argument : goal.invariant-loop-argument
invariant-loop-argument l = given_from l.expects (texts (drop l.argument-index l.arguments)) (all_given l.items.items) ≡ given_by (texts l.arguments)
