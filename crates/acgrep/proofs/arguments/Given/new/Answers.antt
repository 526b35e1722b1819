-- No option, no pattern, no operand and no rule is there.
use Rattle.std.proofs.Common.{refl}
use Rattle.acgrep.proofs.arguments.Given.new.Goals as goal

pub returns : goal.returns
returns c = record {
  none = rw (c.new.ensures.none, c.new-2.ensures.items, c.new-3.ensures.items, c.new-4.ensures.items, c.new-5.ensures.items, c.new-6.ensures.items) refl;
}
