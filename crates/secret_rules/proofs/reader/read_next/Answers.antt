use Rattle.std.proofs.Common.{◌-◌, sym, arith, false, subst}
use Rattle.std.proofs.lemmas.Option.{IfSome_then}
use Rattle.regex.specs.Patterns.{SameCaptures, Re}
use Rattle.secret_rules.proofs.Alike.{next_none, next_found, next_further}
use Rattle.secret_rules.proofs.reader.read_next.Goals as goal

pub returns-in_err-range-clause-found : goal.returns-in_err-range-clause-found
returns-in_err-range-clause-found c = λ re same. rw c.from_residual.ensures
    (next_none re c.args.line.now c.args.after (rw c.saturating_sub.ensures at (c.in_err-range.ensures.found re same)))

pub returns-then-range-after-clause-found : goal.returns-then-range-after-clause-found
returns-then-range-after-clause-found c = λ re same.
    let here = c.in_ok-range.ensures.found re same in
    let there = c.read_at-then-range-after.ensures.found re (subst (λ (r : Re). SameCaptures r re) (sym c.in_ok-range.ensures.same) same) in
    next_further c.read_at.new.locations c.read_at-then-range-after.new.locations re c.args.line.now c.args.after c.in_ok-range.range _ c.if-range-after.true
    (rw c.saturating_sub.ensures at here) there

pub returns-then-range-after-clause-within : goal.returns-then-range-after-clause-within
returns-then-range-after-clause-within c = IfSome_then c.read_at-then-range-after.result c.read_at-then-range-after.ensures.within (λ r w. (omega arith, w.2))

pub returns-clause-found : goal.returns-clause-found
returns-clause-found c = λ re same.
    next_found c.read_at.new.locations re c.args.line.now c.args.after c.in_ok-range.range c.if-range-after.false
    (rw c.saturating_sub.ensures at (c.in_ok-range.ensures.found re same))
