-- The state fits the search, whatever was found so far.
use Rattle.std.proofs.Common.{ℕ}
use Rattle.aho_core.specs.Patterns.{Patterns}
use Rattle.aho_core.specs.Progress.{FitsSearch}
use Rattle.library_tests.proofs.overlaps.found_by_calls.Given as goal

abbrev pub invariant-loop : goal.invariant-loop
invariant-loop g l = (p : Patterns) × (n : ℕ) × g.A.Automaton.is_of l.automaton p × FitsSearch (g.A.Automaton.valid l.automaton) (g.A.Automaton.held l.automaton p) p l.input l.state n
