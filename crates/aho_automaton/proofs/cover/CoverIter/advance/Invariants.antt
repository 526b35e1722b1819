-- What the loop keeps: more may be read, and no run was given yet.
use Rattle.std.proofs.Common.{◌-◌, length}
use Rattle.aho_automaton.specs.CoverIters.{CanCover, ReadsFurther, haystack_in}
use Rattle.aho_automaton.proofs.cover.CoverIter.advance.Given as goal

abbrev pub invariant-loop-self : goal.invariant-loop-self
invariant-loop-self g l = record {
  can : CanCover g.A.Automaton l.self;
  reads : ReadsFurther g.A.Automaton l.fn.self l.self;
}

abbrev pub decreases-loop-self : goal.decreases-loop-self
decreases-loop-self g l = length (haystack_in l.self) - l.self.at
