-- What is told of the runs that are left comes behind what was put.
use Rattle.acredact.proofs.Common.{drop, ◌++◌, ◌≡◌}
use Rattle.acredact.specs.Findings.{runs_findings}
use Rattle.acredact.proofs.teller.put_runs.Given as goal

abbrev pub invariant-loop-run : goal.invariant-loop-run
invariant-loop-run l = l.text.items ++ runs_findings l.fn.findings l.came (drop l.run-index l.fn.runs) ≡ l.initial.text.items ++ runs_findings l.fn.findings l.initial.came l.fn.runs
