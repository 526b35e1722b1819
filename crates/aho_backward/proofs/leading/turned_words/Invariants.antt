-- What the loop keeps: the words so far are those of the first numbers.
use Rattle.std.proofs.Common.{◌≡◌, map, take}
use Rattle.aho_core.specs.Replacement.{pieces_of}
use Rattle.aho_backward.specs.Turned.{turned_words_of}
use Rattle.aho_backward.proofs.leading.turned_words.Given as goal

abbrev pub invariant-loop-number : goal.invariant-loop-number
invariant-loop-number l = map (λ word. word.items) l.words.items ≡ turned_words_of (pieces_of l.patterns) (take l.number-index l.given)
