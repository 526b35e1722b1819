-- What the digits and what is left of the letters say is what all of them do, and the first mistake in them is that of all.
use Rattle.std.proofs.Common.{◌++◌, ◌≡◌, length}
use Rattle.acgrep.specs.Arguments.{letters_by, letters_from, said}
use Rattle.acgrep.specs.Mistakes.{wrong_from_digits, wrong_letters}
use Rattle.acgrep.proofs.arguments.read_letters.Given as goal

abbrev pub invariant-loop-letter : goal.invariant-loop-letter
invariant-loop-letter l = record {
  whole : l.from ≡ l.digits ++ l.rest;
  read : letters_from l.digits l.rest (said l.given) ≡ letters_by l.fn.letters (said l.initial.given);
  mistake : wrong_from_digits l.digits l.rest ≡ wrong_letters l.fn.letters;
}

abbrev pub decreases-loop-letter : goal.decreases-loop-letter
decreases-loop-letter l = length l.rest
