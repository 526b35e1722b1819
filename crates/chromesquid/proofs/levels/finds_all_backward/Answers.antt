use Rattle.std.proofs.Common.{Bool, subst}
use Rattle.aho_backward.specs.Overhang.{IsAbove}
use Rattle.aho_backward.specs.declared.overhang.TheConstants.{WORTH}
use Rattle.chromesquid.proofs.levels.finds_all_backward.Goals as goal

pub returns-then-finds_all : goal.returns-then-finds_all
returns-then-finds_all c = record {
  not = λ asked not p of words. subst (λ (worth : Bool). IsAbove WORTH p worth) not (c.is_worth_it.ensures.worth p of words);
}
