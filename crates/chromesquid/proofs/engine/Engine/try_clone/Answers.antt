use Rattle.chromesquid.proofs.Built.{copy_of_levels, copy_of_rows, copy_of_trie}
use Rattle.chromesquid.proofs.engine.Engine.try_clone.Goals as goal

pub returns-in_ok-try_clone-in-Noncontiguous-clause-same : goal.returns-in_ok-try_clone-in-Noncontiguous-clause-same
returns-in_ok-try_clone-in-Noncontiguous-clause-same c = rw c.in-Noncontiguous.is (copy_of_trie c.in-Noncontiguous.nfa c.in_ok-try_clone-in-Noncontiguous.field-0 c.in_ok-try_clone-in-Noncontiguous.ensures.same)

pub returns-in_ok-try_clone-in-Rows-clause-same : goal.returns-in_ok-try_clone-in-Rows-clause-same
returns-in_ok-try_clone-in-Rows-clause-same c = rw c.in-Rows.is (copy_of_rows c.in-Rows.hybrid c.in_ok-try_clone-in-Rows.field-0 c.in_ok-try_clone-in-Rows.ensures.same)

pub returns-in_ok-try_clone-in-Levels-clause-same : goal.returns-in_ok-try_clone-in-Levels-clause-same
returns-in_ok-try_clone-in-Levels-clause-same c = rw c.in-Levels.is (copy_of_levels c.in-Levels.levels c.in_ok-try_clone-in-Levels.field-0 c.in_ok-try_clone-in-Levels.ensures.same)
