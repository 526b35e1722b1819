-- Options that do not go together.
use Rattle.std.proofs.Common.{◌≡◌, List, None, Option, Some, subst, ℕ}
use Rattle.std.specs.Prelude.{IfSome}
use Rattle.acgrep.specs.Beside.{unfit_line}
use Rattle.acgrep.specs.declared.beside.Unfit.{Unfit}

pub some_unfit : (unfit : Unfit) (said : Option (List ℕ)) (P : List ℕ → Type 0) → Some (unfit_line unfit) ≡ said → P (unfit_line unfit) → IfSome said P
some_unfit unfit said P is told = subst (λ (o : Option (List ℕ)). IfSome o P) is told

pub unfit_fits : {X : Type 0} (unfit : Unfit) (said : Option (List ℕ)) → Some (unfit_line unfit) ≡ said → said ≡ None → X
unfit_fits unfit said is none = let clash : Some (unfit_line unfit) ≡ None = subst (λ (o : Option (List ℕ)). Some (unfit_line unfit) ≡ o) none is in absurd (cc)

pub each_all : {X : Type 0} (known : Option X) (P : X → Type 0) → ((x : X) → P x) → IfSome known P
each_all None P all = tt
each_all (Some x) P all = all x
