use Rattle.std.proofs.Common.{inl, inr, arith}
use Rattle.std.proofs.lemmas.Bool.{cases_lt}
use Rattle.bench.proofs.BestOfTwo.{IsBestOrNone-union}
use Rattle.bench.proofs.plain.best_of_all.Goals as goal

pub loop-end-preserved : goal.loop-end-preserved
loop-end-preserved c =
    IsBestOrNone-union c.args.patterns.now _ _ _ _ _ _ _
    (λ m u. elim (cases_lt m.end c.loop-end.end)
    [ inl below ↦ inl (u.0, below) | inr above ↦ inr (u.0, omega arith) ])
    (λ m s. (s.0, omega arith))
    (λ m t. (t.0, omega arith))
    (λ m u. u.0.sized)
    c.loop-end.invariant c.best_ending.ensures.best c.better-best.ensures.better
