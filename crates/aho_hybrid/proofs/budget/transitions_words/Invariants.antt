use Rattle.std.proofs.Common.{◌≡◌, length, take}
use Rattle.std.specs.List.{sum_by}
use Rattle.aho_hybrid.specs.Filled.{told_size, transition_words}
use Rattle.aho_hybrid.proofs.budget.transitions_words.Given as goal

abbrev pub invariant-loop-next : goal.invariant-loop-next
invariant-loop-next l = l.words ≡ told_size (sum_by transition_words (take (length l.yielded) l.fn.transitions))
