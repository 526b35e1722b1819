-- A pattern leads where it is the best of those that begin itself.
use Rattle.std.proofs.Common.{List, ℕ, length, sym, subst, arith}
use Rattle.std.specs.Prelude.{None, Some}
use Rattle.aho_core.specs.declared.search.Anchored.TheVariants.{Yes}
use Rattle.aho_core.specs.Best.{IsBestOrNone}
use Rattle.aho_core.specs.Occurs.{Occurs}
use Rattle.aho_backward.proofs.Leaders.{best-never_none, leads-found}
use Rattle.aho_backward.proofs.leading.leader.Goals as goal

pub returns-else-as_usize-number-clause-leads : goal.returns-else-as_usize-number-clause-leads
returns-else-as_usize-number-clause-leads g c p of lt word_is =
    let best = subst (λ (w : List ℕ). IsBestOrNone p.kind (Occurs p Yes w 0 (length w)) (Some c.in-Some.m)) (sym word_is) (c.in-Some.ensures.best p of) in (
      (λ h. (cc)),
      (λ leads. absurd (omega (arith, leads-found p c.args.number c.in-Some.m best leads, c.pattern.ensures.pattern, c.as_usize.ensures.value, c.if-as_usize-number.false))),
    )

pub returns-in-None-clause-leads : goal.returns-in-None-clause-leads
returns-in-None-clause-leads g c p of lt word_is =
    let none = subst (λ (w : List ℕ). IsBestOrNone p.kind (Occurs p Yes w 0 (length w)) None) (sym word_is) (c.in-None.ensures.best p of) in (
      (λ h. (cc)),
      (λ leads. absurd (best-never_none p c.args.number lt none)),
    )
