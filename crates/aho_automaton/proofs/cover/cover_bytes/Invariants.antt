-- What the loop keeps: the haystack was copied up to a place, and what is left makes its cover.
use Rattle.std.proofs.Common.{ℕ, ◌≤◌, [], length}
use Rattle.std.specs.Prelude.{slice_index_or}
use Rattle.aho_core.specs.Patterns.{Patterns}
use Rattle.aho_core.specs.Replacement.{pieces_of}
use Rattle.aho_automaton.specs.Covering.{runs_in}
use Rattle.aho_automaton.specs.CoverIters.{automaton_in}
use Rattle.aho_automaton.proofs.CoverCopies.{HasGivenOver, IsLeftToCopy}
use Rattle.aho_automaton.proofs.cover.cover_bytes.Given as goal

abbrev pub invariant-loop-run : goal.invariant-loop-run
invariant-loop-run g l = record {
  can_next : (goal.iterator-loop-run g).can_next l.run-iterator;
  is_finite : (goal.iterator-loop-run g).is_finite l.run-iterator;
  within : l.copied ≤ length l.haystack;
  left : (p : Patterns) (of : g.A.Automaton.is_of (automaton_in l.fn.runs) p) → (n : ℕ)
      × HasGivenOver g.A.Automaton (automaton_in l.fn.runs) l.haystack p of l.run-iterator n
      × IsLeftToCopy (runs_in p l.haystack) l.haystack (λ m. slice_index_or (pieces_of l.pieces) m.pattern []) n l.copied l.dst.items l.fn.dst.items;
}
