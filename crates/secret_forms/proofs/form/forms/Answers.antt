-- The patterns of each form are among those of all.
use Rattle.std.proofs.Common.{ℕ, List, sym, subst, arith}
use Rattle.std.specs.Prelude.{All}
use Rattle.secret_forms.specs.Forms.{HidesForm, forms_patterns}
use Rattle.secret_forms.proofs.FormLaw.{HidesForm-all}
use Rattle.secret_forms.proofs.Members.{Contains-added_all_new}
use Rattle.secret_forms.proofs.form.forms.Goals as goal

pub returns-clause-law : goal.returns-clause-law
returns-clause-law c =
    let s = c.args.secret.now in
    let all = c.args.forms.now in
    let Hides : List (List ℕ) → Type 0 = λ patterns. All (HidesForm patterns s) all in
    subst Hides (sym c.in_ok-add_forms.ensures.all)
    (HidesForm-all _ s all (omega (arith, c.if-secret-lt-SHORTEST.false)) (Contains-added_all_new (forms_patterns all s) _))
