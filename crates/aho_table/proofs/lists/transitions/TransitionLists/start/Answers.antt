-- One entry that links to itself is a list.
use Rattle.std.proofs.Common.{◌≡◌, ◌+◌, ◌⊎◌, ℕ, List, length, ap, refl, sym, subst, ◌∙◌}
use Rattle.aho_table.specs.Rings.{AreSideBySide}
use Rattle.aho_table.specs.ListsInside.{transition_entries, IsStore}
use Rattle.aho_table.proofs.Sides.{side-started}
use Rattle.aho_table.specs.declared.lists.transitions.Transition.{Transition}
use Rattle.aho_core.specs.declared.error.BuildError.{BuildError}
use Rattle.aho_table.specs.Refusal.{refusal_at}
use Rattle.aho_table.proofs.Results.{IfErr-given}
use Rattle.aho_table.proofs.Stores.{length-lists_of, list_at-zero, same_store}
use Rattle.aho_table.proofs.TransitionChanges.{IsStore-started, lists_in-started}
use Rattle.aho_table.proofs.Firsts.{first-push}
use Rattle.aho_table.specs.ListsInside.{with_first}
use Rattle.aho_table.proofs.lists.transitions.TransitionLists.start.Goals as goal

pub invariant_of-self : goal.invariant_of-self
invariant_of-self c =
    subst (λ (es : List Transition). IsStore (transition_entries es) (length es) c.self.inside.limit × AreSideBySide (transition_entries es) (length es) c.self.inside.beside)
    (sym c.in_err-made.ensures.unchanged) c.self.invariant

pub returns-in_err-made-clause-empty : goal.returns-in_err-made-clause-empty
returns-in_err-made-clause-empty c = rw (← c.self.view_is) (list_at-zero (transition_entries (with_first c.self.inside.entries.items)) (length (with_first c.self.inside.entries.items)) c.self.invariant.0.rings.some)

pub returns-in_err-made-clause-refused : goal.returns-in_err-made-clause-refused
returns-in_err-made-clause-refused c =
    rw (← c.self.view_is, length-lists_of)
    (IfErr-given (λ (error : BuildError). error ≡ refusal_at c.self.inside.limit (length (with_first c.self.inside.entries.items))) c.from_residual.result c.in_err-made.field-0.0 c.from_residual.ensures.1 c.in_err-made.ensures.refused)

pub invariant_of-self-2 : goal.invariant_of-self-2
invariant_of-self-2 c =
    let pushed = (ap with_first c.in_ok-made.ensures.pushed ∙ first-push (with_first c.self.inside.entries.items) (record { byte = c.args.byte; next = c.args.next; link = length (with_first c.self.inside.entries.items) })) in (
      IsStore-started (with_first c.self.inside.entries.items) (with_first c.push_alone.new.entries.items) c.self.inside.limit c.args.byte c.args.next c.self.invariant.0 pushed c.in_ok-made.ensures.within,
      side-started (with_first c.self.inside.entries.items) (with_first c.push_alone.new.entries.items) c.self.inside.beside c.self.invariant.0.rings c.self.invariant.1 c.args.byte c.args.next
          c.beside_alone-self-inside.result pushed
          (subst (λ (n : ℕ). (c.beside_alone-self-inside.result ≡ c.self.inside.beside) ⊎ ((c.self.inside.beside ≡ n) × (c.beside_alone-self-inside.result ≡ n + 1))) c.in_ok-made.ensures.number c.beside_alone-self-inside.ensures.now),
    )

pub returns-clause-number : goal.returns-clause-number
returns-clause-number c = rw (← c.self.view_is, length-lists_of) c.in_ok-made.ensures.number

pub returns-clause-empty : goal.returns-clause-empty
returns-clause-empty c = rw (← c.self.view_is) (list_at-zero (transition_entries (with_first c.self.inside.entries.items)) (length (with_first c.self.inside.entries.items)) c.self.invariant.0.rings.some)

pub returns-clause-within : goal.returns-clause-within
returns-clause-within c = rw (← c.self.view_is, length-lists_of) c.in_ok-made.ensures.within

pub returns-clause-started : goal.returns-clause-started
returns-clause-started c =
    rw (← c.self.view_is)
    (same_store (lists_in-started (with_first c.self.inside.entries.items) (with_first c.push_alone.new.entries.items) c.self.inside.limit c.args.byte c.args.next c.self.invariant.0 (ap with_first c.in_ok-made.ensures.pushed ∙ first-push (with_first c.self.inside.entries.items) (record { byte = c.args.byte; next = c.args.next; link = length (with_first c.self.inside.entries.items) }))) refl)
