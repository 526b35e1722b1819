-- What the loop keeps: the numbers so far are those of the patterns before a number that lead.
use Rattle.std.proofs.Common.{◌≡◌, ◌<◌, ℕ, length}
use Rattle.std.specs.Prelude.{EachIndex, SomeIndex, slice_index}
use Rattle.aho_core.specs.Patterns.{Patterns}
use Rattle.aho_core.specs.Replacement.{pieces_of}
use Rattle.aho_backward.specs.Turned.{IsLeader}
use Rattle.aho_backward.proofs.leading.leading.Given as goal

abbrev pub invariant-loop-number : goal.invariant-loop-number
invariant-loop-number g l = record {
  numbered : EachIndex l.numbers.items (λ i. slice_index l.numbers.items i < length l.patterns);
  each : (p : Patterns) → g.A.Automaton.is_of l.forward p → p.words ≡ pieces_of l.patterns → EachIndex l.numbers.items (λ i. IsLeader p (slice_index l.numbers.items i));
  all : (p : Patterns) → g.A.Automaton.is_of l.forward p → p.words ≡ pieces_of l.patterns → (number : ℕ) → number < l.number → IsLeader p number → SomeIndex l.numbers.items (λ i. slice_index l.numbers.items i ≡ number);
}
