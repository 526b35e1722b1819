-- The runs so far, with the one that may still grow, are the transitions so far, and as long as they can be.
use Rattle.std.proofs.Common.{◌≡◌, [], ◌++◌, length, take}
use Rattle.std.specs.Option.{IsNone, option_to_list}
use Rattle.acdraw.specs.Runs.{AreApart, all_pairs}
use Rattle.acdraw.proofs.picture.runs.runs_of.Given as goal

abbrev pub invariant-loop-byte : goal.invariant-loop-byte
invariant-loop-byte l = record {
  pairs : all_pairs (l.runs.items ++ option_to_list l.last) ≡ take (length l.yielded) l.fn.transitions;
  apart : AreApart (l.runs.items ++ option_to_list l.last);
  begun : IsNone l.last → l.runs.items ≡ [];
}
