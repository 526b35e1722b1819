-- What is left of the letters says what all of them do.
use Rattle.acredact.proofs.Common.{all_given, by_letters, length, ◌≡◌}
use denote.Shadow.{shadow}
use denote.Text.{Utf8}
use Rattle.acredact.proofs.arguments.read_letters.Given as goal

abbrev pub invariant-letters : goal.invariant-letters
invariant-letters l = record {
  read : by_letters l.rest (all_given l.items.items) ≡ by_letters l.fn.letters (all_given l.initial.items.items);
  text : shadow (Utf8 l.rest);
}

abbrev pub decreases-letters : goal.decreases-letters
decreases-letters l = length l.rest
