use Rattle.std.proofs.Common.{inl, inr, arith}
use Rattle.std.proofs.lemmas.Bool.{cases_lt}
use Rattle.bench.proofs.BestOfTwo.{IsBestOrNone-union}
use Rattle.bench.proofs.plain.best_ending.Goals as goal

pub loop-start-preserved : goal.loop-start-preserved
loop-start-preserved c =
    IsBestOrNone-union c.args.patterns.now _ _ _ _ _ _ _
    (λ m u. elim (cases_lt m.start c.loop-start.start)
    [ inl below ↦ inl (u.0, below) | inr above ↦ inr (u.0.0, omega arith, u.0.1) ])
    (λ m s. (s.0, omega arith))
    (λ m t. ((t.0, t.2), omega arith))
    (λ m u. u.0.0.sized)
    c.loop-start.invariant c.best_at.ensures.best c.better-best.ensures.better
