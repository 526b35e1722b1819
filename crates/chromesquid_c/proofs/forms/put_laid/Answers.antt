use Rattle.std.proofs.Common.{◌∙◌, length, ap, inl, inr, arith}
use Rattle.chromesquid_c.proofs.Laying.{length-ends, put-fits}
use Rattle.chromesquid_c.proofs.forms.put_laid.Goals.{then-room-len-via-then-room-len, then-room-len-via-else-room-len+then-ends-len}
use Rattle.chromesquid_c.proofs.forms.put_laid.Goals as goal

pub returns-then-room-len-clause-wanted : goal.returns-then-room-len-clause-wanted
returns-then-room-len-clause-wanted c = λ patterns laid _.
    elim c.then-room-len.branch [
      | then-room-len-via-then-room-len w ↦ inl (omega (arith, ap length laid.bytes))
      | then-room-len-via-else-room-len+then-ends-len w ↦ inr (omega (arith, ap length laid.ends, length-ends 0 patterns))
    ]

pub returns-then-room-len-clause-measured : goal.returns-then-room-len-clause-measured
returns-then-room-len-clause-measured c = λ patterns laid. (omega (arith, ap length laid.bytes), omega (arith, ap length laid.ends, length-ends 0 patterns))

pub returns-clause-put : goal.returns-clause-put
returns-clause-put c = λ patterns laid _. (
  (
    omega (arith, ap length laid.bytes),
    put-fits c.args.room.now _ _ _ (c.copy_from_slice.ensures.after ∙ c.deref.ensures.value ∙ laid.bytes) (omega (arith, ap length laid.bytes)) (omega arith),
  ),
  (
    omega (arith, ap length laid.ends),
    put-fits c.args.ends.now _ _ _ (c.copy_from_slice-2.ensures.after ∙ c.deref-2.ensures.value ∙ laid.ends) (omega (arith, ap length laid.ends)) (omega arith),
  ),
)

pub returns-clause-measured : goal.returns-clause-measured
returns-clause-measured c = λ patterns laid. (omega (arith, ap length laid.bytes), omega (arith, ap length laid.ends, length-ends 0 patterns))
