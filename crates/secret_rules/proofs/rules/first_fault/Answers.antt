use Rattle.std.proofs.Common.{length, refl, subst}
use Rattle.std.proofs.lemmas.Option.{slice_get_read}
use Rattle.secret_rules.specs.Rules.{IsSoundRule}
use Rattle.secret_rules.proofs.Soundness.{AreSound-more}
use Rattle.secret_rules.proofs.rules.first_fault.Goals as goal

pub returns-in-Some : goal.returns-in-Some
returns-in-Some c = record {
  rule = c.index-rules-number.result;
  numbered = slice_get_read c.args.rules.now (length c.args.rules.now) c.loop-number.number c.index-rules-number.result refl c.loop-number-test.true c.index-rules-number.is;
  wrong = rw c.in-Some.is at c.in_ok-fault.ensures.sound;
  before = c.loop-number.invariant;
}

pub loop-number-preserved : goal.loop-number-preserved
loop-number-preserved c =
    AreSound-more c.args.rules.now c.loop-number.number c.index-rules-number.result c.loop-number-test.true c.loop-number.invariant
    (subst IsSoundRule c.index-rules-number.is (rw c.in_default.is at c.in_ok-fault.ensures.sound))
