-- Before the place of the loop each four bytes stand often.
use Rattle.std.proofs.Common.{◌≡◌, ◌+◌, drop}
use Rattle.aho_prefilter.specs.Windows.{bytes_before}
use Rattle.aho_prefilter.proofs.windows.bytes_before.Given as goal

abbrev pub invariant-loop-place : goal.invariant-loop-place
invariant-loop-place l = bytes_before l.ignore_case l.pattern ≡ l.place + bytes_before l.ignore_case (drop l.place l.pattern)
