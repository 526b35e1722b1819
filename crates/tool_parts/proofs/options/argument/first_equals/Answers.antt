-- The first equals sign, or none, was met.
use Rattle.std.proofs.Common.{ap, arith, sym}
use Rattle.std.proofs.lemmas.List.Sums.{position_or_len_is}
use Rattle.tool_parts.specs.ArgumentForms.{is_equals}
use Rattle.tool_parts.proofs.options.argument.first_equals.Goals as goal

pub returns-then-text-at-eq61 : goal.returns-then-text-at-eq61
returns-then-text-at-eq61 c = record {
  place = sym (position_or_len_is is_equals c.args.text.now c.loop-at.at 0 c.loop-at.invariant.within c.loop-at.invariant.others (λ low. ap is_equals c.if-text-at-eq61.true));
}

pub returns : goal.returns
returns c = record {
  place = sym (position_or_len_is is_equals c.args.text.now c.loop-at.at 0 c.loop-at.invariant.within c.loop-at.invariant.others (λ low. absurd (omega (arith, low, c.loop-at-test.false))));
}
