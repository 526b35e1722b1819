-- What the loop keeps: the most of the patterns so far.
use Rattle.std.proofs.Common.{◌≡◌, ◌⊎◌, ◌<◌, ◌≤◌, ℕ, length}
use Rattle.aho_core.specs.Patterns.{Patterns}
use Rattle.aho_core.specs.Replacement.{pieces_of}
use Rattle.aho_backward.specs.Overhang.{HasBehind}
use Rattle.aho_backward.proofs.overhang.longest_overhang.Given as goal

abbrev pub invariant-loop-pattern : goal.invariant-loop-pattern
invariant-loop-pattern g l = (p : Patterns) → g.A.Automaton.is_of l.automaton p → p.words ≡ pieces_of l.patterns → record {
  reached : (l.most ≡ 0) ⊎ ((number : ℕ) × (number < length p.words) × HasBehind p number l.most);
  greatest : (number count : ℕ) → number < l.pattern-index → HasBehind p number count → count ≤ l.most;
}
