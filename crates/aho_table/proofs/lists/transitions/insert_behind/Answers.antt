-- The new entry links to where the one before it did.
use Rattle.std.proofs.Common.{ℕ, List, [], ◌∷◌, ◌++◌, length, ap, ◌∙◌}
use Rattle.aho_table.specs.ListsInside.{transition_of, relinked}
use Rattle.aho_table.specs.declared.lists.transitions.Transition.{Transition}
use Rattle.aho_table.proofs.TransitionStores.{relinked-pushed}
use Rattle.aho_table.proofs.lists.transitions.insert_behind.Goals as goal

pub returns-clause-inserted : goal.returns-clause-inserted
returns-clause-inserted c =
    let link = ap (λ (t : Transition). t.link) (c.entry-link.ensures.entry ∙ ap (λ (es : List Transition). transition_of es c.args.before) c.deref.ensures.value) in
    c.relink.ensures.relinked
    ∙ ap (λ (es : List Transition). relinked es c.args.before c.in_ok-made.made) c.in_ok-made.ensures.pushed
    ∙ relinked-pushed c.args.entries.now.items (record { byte = c.args.byte; next = c.args.next; link = c.entry-link.result.link }) c.args.before c.in_ok-made.made c.requires.place
    ∙ ap (λ (n : ℕ). relinked c.args.entries.now.items c.args.before n ++ record { byte = c.args.byte; next = c.args.next; link = c.entry-link.result.link } ∷ []) c.in_ok-made.ensures.number
    ∙ ap (λ (n : ℕ). relinked c.args.entries.now.items c.args.before (length c.args.entries.now.items) ++ record { byte = c.args.byte; next = c.args.next; link = n } ∷ []) link
