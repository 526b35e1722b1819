use Rattle.std.proofs.Common.{◌≡◌, ◌++◌, take}
use Rattle.aho_levels.specs.Listing.{numbers_of}
use Rattle.aho_levels.proofs.lists.push_owns.Given as goal

abbrev pub invariant-loop-own : goal.invariant-loop-own
invariant-loop-own l = l.lists.items ≡ l.fn.lists.items ++ numbers_of (take l.own-index l.owns)
