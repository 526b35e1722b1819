-- What comes of the arguments that are left, behind those so far, is what comes of all.
use Rattle.acredact.proofs.Common.{List, Option, [], bytes_of_names, length, texts, ℕ}
use Rattle.acredact.specs.Apart.{SetsApart}
use Rattle.acredact.specs.declared.arguments.Expects.TheVariants.{Any}
use Rattle.acredact.proofs.apart.set_apart.Given as goal

abbrev pub invariant-loop-argument : goal.invariant-loop-argument
invariant-loop-argument l = (all : Option (List (List ℕ) × List (List ℕ))) → SetsApart l.expects (bytes_of_names l.rest) (texts l.apart.arguments.items) (bytes_of_names l.apart.names.items) all
    → SetsApart Any (bytes_of_names l.fn.given) [] [] all

abbrev pub decreases-loop-argument : goal.decreases-loop-argument
decreases-loop-argument l = length l.rest
