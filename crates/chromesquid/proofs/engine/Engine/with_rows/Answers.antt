use Rattle.std.proofs.Common.{inr, refl}
use Rattle.chromesquid.proofs.engine.Engine.with_rows.Goals as goal

pub returns-in-Err-StateIDOverflow-clause-kind : goal.returns-in-Err-StateIDOverflow-clause-kind
returns-in-Err-StateIDOverflow-clause-kind c = λ told.
    inr (
      c.args.nfa,
      refl,
      record {
        max = c.in-Err-StateIDOverflow.field-0-0;
        requested = c.in-Err-StateIDOverflow.field-0-1;
        refused = rw (← c.in-Err-StateIDOverflow.field-0-is) c.in-Err-StateIDOverflow.ensures.refused;
      },
    )
