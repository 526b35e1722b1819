-- What is put into the room and what is left make all of the parts.
use Rattle.std.proofs.Common.{◌≡◌, ◌≤◌, ◌++◌, length, take}
use Rattle.tool_parts.specs.Telling.{all_bytes}
use Rattle.tool_parts.proofs.parts.gather.Given as goal

abbrev pub invariant-loop-rest : goal.invariant-loop-rest
invariant-loop-rest l = record {
  within : l.count ≤ 4096;
  put : all_bytes l.fn.parts ≡ take l.count l.room ++ all_bytes l.rest;
}

abbrev pub decreases-loop-rest : goal.decreases-loop-rest
decreases-loop-rest l = length l.rest
