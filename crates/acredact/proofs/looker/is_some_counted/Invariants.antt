-- The counts before the place of the loop are zero.
use Rattle.acredact.proofs.Common.{slice_index, ℕ, ◌<◌, ◌≡◌}
use Rattle.acredact.proofs.looker.is_some_counted.Given as goal

abbrev pub invariant-loop-count : goal.invariant-loop-count
invariant-loop-count l = (number : ℕ) → number < l.count-index → slice_index l.fn.counts number ≡ 0
