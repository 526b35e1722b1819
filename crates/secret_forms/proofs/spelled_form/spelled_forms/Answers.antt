-- What each encoder writes of the secret is among the patterns.
use Rattle.std.proofs.Common.{ℕ, List, sym, subst}
use Rattle.std.specs.Prelude.{All}
use Rattle.secret_forms.specs.Spelling.{HidesSpelled, spelled_by}
use Rattle.secret_forms.proofs.FormLaw.{HidesSpelled-held}
use Rattle.secret_forms.proofs.Members.{Contains-added_all_new}
use Rattle.secret_forms.proofs.spelled_form.spelled_forms.Goals as goal

pub returns-clause-law : goal.returns-clause-law
returns-clause-law c =
    let s = c.args.secret.now in
    let all = c.args.spellings.now in
    let Hides : List (List ℕ) → Type 0 = λ patterns. All (HidesSpelled patterns s) all in
    subst Hides (sym c.in_ok-add_spelled.ensures.all) (HidesSpelled-held _ s all (Contains-added_all_new (spelled_by all s) _))
