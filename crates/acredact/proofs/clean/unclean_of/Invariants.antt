-- The pieces before the place of the loop are clean.
use Rattle.acredact.proofs.Common.{ArePatterns, Patterns, pieces_of}
use Rattle.acredact.proofs.Flaws.{AreCleanTo}
use Rattle.acredact.proofs.clean.unclean_of.Given as goal

abbrev pub invariant-loop-at : goal.invariant-loop-at
invariant-loop-at g l = (p : Patterns) → g.A.Automaton.is_of l.fn.automaton p → ArePatterns p l.fn.judge.ignore_case (pieces_of l.fn.judge.words.now)
    → AreCleanTo p l.fn.judge.pieces.now l.at
