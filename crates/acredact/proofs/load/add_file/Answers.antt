-- The text is marked, or gives none.
use Rattle.acredact.proofs.Common.{IfErr-weaker, inl, inr, reading_of_lists, refl, sym}
use Rattle.acredact.proofs.Loaded.{file_fails}
use Rattle.acredact.proofs.load.add_file.Goals as goal

pub returns-in-Some-clause-fails : goal.returns-in-Some-clause-fails
returns-in-Some-clause-fails g c =
    file_fails (reading_of_lists g.F.Folder c.args.lists.now) _ _ _ _ _ _ c.in-Ok.ensures.text (inl (_, _, refl, refl, (refl, rw c.as_slice-text.ensures.value at (sym c.in-Some.ensures.mark))))

pub returns-clause-fails : goal.returns-clause-fails
returns-clause-fails g c =
    IfErr-weaker c.add_text.result _ _
    (λ failure fails. file_fails (reading_of_lists g.F.Folder c.args.lists.now) _ _ _ _ _ failure c.in-Ok.ensures.text (inr (rw c.as_slice-text.ensures.value at fails)))
    c.add_text.ensures.fails
