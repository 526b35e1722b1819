-- What came so far stands at the room's begin, and was counted.
use Rattle.std.proofs.Common.{◌≡◌, length, map}
use Rattle.std.specs.Prelude.{min}
use Rattle.chromesquid_c.specs.Matches.{match_of, written_over}
use Rattle.chromesquid_c.proofs.list.list_all.Given as goal

abbrev pub invariant-loop-found : goal.invariant-loop-found
invariant-loop-found g l = record {
  can_next : (goal.iterator-loop-found g).can_next l.found-iterator;
  is_finite : (goal.iterator-loop-found g).is_finite l.found-iterator;
  counted : l.seen ≡ min (length l.yielded) 18446744073709551615;
  written : l.room ≡ written_over l.initial.room (map match_of l.yielded);
}
