-- One step of a walk.
use Rattle.std.proofs.Common.{◌≡◌, ℕ, Option, Some, List, ◌∷◌, length, ap, sym, subst, arith, ◌∙◌}
use Rattle.aho_table.specs.Rings.{rest_from, place_after, IsWalk}
use Rattle.aho_table.specs.ListsInside.{transition_of, transition_entries}
use Rattle.aho_table.specs.declared.lists.transitions.Transition.{Transition}
use Rattle.aho_table.proofs.Walks.{rest_from-none, rest_from-next, IsWalk-next}
use Rattle.aho_table.proofs.lists.transitions.TransitionsIterator.next.Goals as goal

pub returns-in_default-clause-steps : goal.returns-in_default-clause-steps
returns-in_default-clause-steps c =
    let none = sym c.self.view_is ∙ ap (λ (o : Option ℕ). rest_from (transition_entries c.self.inside.entries.now) o c.self.inside.last) c.in_default.is
    ∙ rest_from-none (transition_entries c.self.inside.entries.now) c.self.inside.last in
    (none, none)

-- what is left at an entry, where its link is what was read
rest : (entries : List Transition) (last at count : ℕ) (read : Transition) (after : Option ℕ) → IsWalk (transition_entries entries) count (Some at) last → read ≡ transition_of entries at
    → after ≡ place_after read.link at last → rest_from (transition_entries entries) (Some at) last ≡ (read.byte, read.next) ∷ rest_from (transition_entries entries) after last
rest entries last at count read after walk is next =
    rest_from-next walk.on_list.2
    ∙ ap (λ (t : Transition). (t.byte, t.next) ∷ rest_from (transition_entries entries) (place_after t.link at last) last) (sym is)
    ∙ ap (λ (o : Option ℕ). (read.byte, read.next) ∷ rest_from (transition_entries entries) o last) (sym next)

pub invariant_of-self : goal.invariant_of-self
invariant_of-self c =
    let walk : IsWalk (transition_entries c.self.inside.entries.now) (length c.self.inside.entries.now) (Some c.in-Some.at) c.self.inside.last =
    subst (λ (o : Option ℕ). IsWalk (transition_entries c.self.inside.entries.now) (length c.self.inside.entries.now) o c.self.inside.last) c.in-Some.is c.self.invariant in
    let link = ap (λ (t : Transition). t.link) c.entry-transition.ensures.entry in
    subst (λ (o : Option ℕ). IsWalk (transition_entries c.self.inside.entries.now) (length c.self.inside.entries.now) o c.self.inside.last)
    (sym (c.place_after-self-inside.ensures.place ∙ ap (λ (n : ℕ). place_after n c.in-Some.at c.self.inside.last) link))
    (IsWalk-next walk.within walk.on_list.0 walk.on_list.2)

pub returns-clause-steps : goal.returns-clause-steps
returns-clause-steps c =
    let walk : IsWalk (transition_entries c.self.inside.entries.now) (length c.self.inside.entries.now) (Some c.in-Some.at) c.self.inside.last =
    subst (λ (o : Option ℕ). IsWalk (transition_entries c.self.inside.entries.now) (length c.self.inside.entries.now) o c.self.inside.last) c.in-Some.is c.self.invariant in
    sym c.self.view_is
    ∙ ap (λ (o : Option ℕ). rest_from (transition_entries c.self.inside.entries.now) o c.self.inside.last) c.in-Some.is
    ∙ rest c.self.inside.entries.now c.self.inside.last c.in-Some.at (length c.self.inside.entries.now) c.entry-transition.result c.place_after-self-inside.result walk c.entry-transition.ensures.entry c.place_after-self-inside.ensures.place

pub returns-clause-goes : goal.returns-clause-goes
returns-clause-goes c =
    let less = ap (λ (l : List (ℕ × ℕ)). length l) (returns-clause-steps c) in
    record { on = λ finite. (tt, tt, omega arith); keeps = tt; rests = λ finite. tt }
