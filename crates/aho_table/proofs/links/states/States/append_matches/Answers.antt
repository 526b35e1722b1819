-- The state's list is changed, and no other.
use Rattle.std.proofs.Common.{◌≡◌, ◌⊎◌, ◌+◌, List, ℕ, ◌++◌, length, refl, inl, inr, sym, ap, subst, ◌∙◌, arith}
use Rattle.std.proofs.Math.ListN.{set}
use Rattle.std.proofs.lemmas.List.{length-append}
use Rattle.aho_table.specs.Lists.{list_at}
use Rattle.aho_table.proofs.Results.{IfErr-given}
use Rattle.aho_table.specs.Refusal.{IsRefusalOf}
use Rattle.aho_table.specs.Table.{State, state_at, matches_in, matches_count}
use Rattle.aho_table.specs.Inside.{LimitedStates, recorded_states, IsShared, IsConsistent}
use Rattle.aho_table.specs.declared.links.states.Record.{Record}
use Rattle.aho_table.proofs.Records.{read_in, read_is, read_here, matches_known, same_table}
use Rattle.aho_table.proofs.Changes.{IsListChange, IsListChange-listed, states-listed, IsConsistent-listed}
use Rattle.aho_table.proofs.Refusals.{IsRefusalOf-same}
use Rattle.aho_table.proofs.links.states.States.append_matches.Goals as goal

pub record_of-state-requires : goal.record_of-state-requires
record_of-state-requires c = record { added = read_in c.self.inside.records.items c.self.inside.transitions c.self.inside.matches c.self.inside.limit c.args.sid c.args.self.now c.self.view_is c.requires.added c.deref.result.now c.deref.ensures.value }

pub record_of-other-requires : goal.record_of-other-requires
record_of-other-requires c = record { added = read_in c.self.inside.records.items c.self.inside.transitions c.self.inside.matches c.self.inside.limit c.args.from c.args.self.now c.self.view_is c.requires.from c.deref-2.result.now c.deref-2.ensures.value }

pub join-requires-clause-known : goal.join-requires-clause-known
join-requires-clause-known c =
    matches_known c.self.inside.records.items c.self.inside.transitions c.self.inside.matches c.self.inside.limit c.args.sid c.args.self.now c.self.view_is c.requires.added
    c.deref.result.now c.deref.ensures.value c.record_of-state.result c.record_of-state.ensures.found c.self.invariant.match_lists

pub join-requires-clause-other : goal.join-requires-clause-other
join-requires-clause-other c =
    matches_known c.self.inside.records.items c.self.inside.transitions c.self.inside.matches c.self.inside.limit c.args.from c.args.self.now c.self.view_is c.requires.from
    c.deref-2.result.now c.deref-2.ensures.value c.record_of-other.result c.record_of-other.ensures.found c.self.invariant.match_lists

pub returns-in_err-joined-clause-refused : goal.returns-in_err-joined-clause-refused
returns-in_err-joined-clause-refused c =
    let other = ap (λ (s : State). length s.matches) (read_is c.self.inside.records.items c.self.inside.transitions c.self.inside.matches c.self.inside.limit c.args.from c.args.self.now c.self.view_is c.requires.from c.deref-2.result.now c.deref-2.ensures.value c.record_of-other.result c.record_of-other.ensures.found) in
    let count = ap (λ (t : LimitedStates). matches_count t.states) c.self.view_is in
    let size : c.self.inside.matches.count + length (list_at c.self.inside.matches.lists c.record_of-other.result.matches) ≡ matches_count c.args.self.now.states + length (matches_in c.args.self.now.states c.args.from) =
    omega (arith, other, count, c.self.invariant.matches_are)
    in
    IfErr-given (IsRefusalOf c.args.self.now.limit (matches_count c.args.self.now.states + length (matches_in c.args.self.now.states c.args.from)))
    c.from_residual.result c.in_err-joined.field-0.0 c.from_residual.ensures.1
    (IsRefusalOf-same (c.self.invariant.matches_limit ∙ ap (λ (t : LimitedStates). t.limit) c.self.view_is) size c.in_err-joined.ensures.refused)

pub replace-requires : goal.replace-requires
replace-requires c = record { added = read_in c.self.inside.records.items c.self.inside.transitions c.self.inside.matches c.self.inside.limit c.args.sid c.args.self.now c.self.view_is c.requires.added c.self.inside.records.items refl }

-- the joined list's number is its own or closed
or_closed : {Own Closed : Type 0} (made other : ℕ) → Own ⊎ ((made ≡ other) × Closed) → Own ⊎ Closed
or_closed made other (inl own) = inl own
or_closed made other (inr shared) = inr shared.1

the_change : (c : goal.After-replace) → IsListChange (IsShared c.self.inside.matches.closed) (IsShared c.join.new.self.closed) c.self.inside.matches.lists c.join.new.self.lists c.record_of-state.result.matches c.in_ok-joined.joined
    (list_at c.self.inside.matches.lists c.record_of-state.result.matches ++ list_at c.self.inside.matches.lists c.record_of-other.result.matches)
the_change c =
    IsListChange-listed c.self.inside.matches c.join.new.self c.record_of-state.result.matches c.in_ok-joined.joined
    (list_at c.self.inside.matches.lists c.record_of-state.result.matches ++ list_at c.self.inside.matches.lists c.record_of-other.result.matches)
    c.facts.ensures.some c.facts.ensures.empty c.facts-2.ensures.empty c.in_ok-joined.ensures.listed
    (or_closed c.in_ok-joined.joined c.record_of-other.result.matches c.in_ok-joined.ensures.number)

pub invariant_of-self-2 : goal.invariant_of-self-2
invariant_of-self-2 c =
    subst (λ (rs : List Record). IsConsistent rs c.self.inside.transitions c.join.new.self c.self.inside.limit) (sym c.replace.ensures.replaced)
    (IsConsistent-listed c.self.inside.records.items c.args.sid c.record_of-state.result
    (read_in c.self.inside.records.items c.self.inside.transitions c.self.inside.matches c.self.inside.limit c.args.sid c.args.self.now c.self.view_is c.requires.added c.self.inside.records.items refl)
    (read_here c.self.inside.records.items c.self.inside.transitions c.self.inside.matches c.self.inside.limit c.args.sid c.args.self.now c.self.view_is c.requires.added c.deref.result.now c.deref.ensures.value c.record_of-state.result c.record_of-state.ensures.found)
    c.self.inside.transitions c.self.inside.matches c.join.new.self c.self.inside.limit c.in_ok-joined.joined
    (list_at c.self.inside.matches.lists c.record_of-state.result.matches ++ list_at c.self.inside.matches.lists c.record_of-other.result.matches)
    c.self.invariant (the_change c) c.in_ok-joined.ensures.limit
    (omega (
      arith,
      c.in_ok-joined.ensures.counted,
      length-append (list_at c.self.inside.matches.lists c.record_of-state.result.matches) (list_at c.self.inside.matches.lists c.record_of-other.result.matches),
    )))

pub returns-clause-appended : goal.returns-clause-appended
returns-clause-appended c =
    let row = read_is c.self.inside.records.items c.self.inside.transitions c.self.inside.matches c.self.inside.limit c.args.sid c.args.self.now c.self.view_is c.requires.added c.deref.result.now c.deref.ensures.value c.record_of-state.result c.record_of-state.ensures.found in
    let other = read_is c.self.inside.records.items c.self.inside.transitions c.self.inside.matches c.self.inside.limit c.args.from c.args.self.now c.self.view_is c.requires.from c.deref-2.result.now c.deref-2.ensures.value c.record_of-other.result c.record_of-other.ensures.found in
    let more = list_at c.self.inside.matches.lists c.record_of-other.result.matches in
    same_table
    (ap (recorded_states c.self.inside.transitions.lists c.join.new.self.lists) c.replace.ensures.replaced
    ∙ states-listed c.self.inside.records.items c.args.sid c.record_of-state.result
    (read_in c.self.inside.records.items c.self.inside.transitions c.self.inside.matches c.self.inside.limit c.args.sid c.args.self.now c.self.view_is c.requires.added c.self.inside.records.items refl)
    (read_here c.self.inside.records.items c.self.inside.transitions c.self.inside.matches c.self.inside.limit c.args.sid c.args.self.now c.self.view_is c.requires.added c.deref.result.now c.deref.ensures.value c.record_of-state.result c.record_of-state.ensures.found)
    c.self.inside.matches.closed c.join.new.self.closed c.self.inside.matches.lists c.join.new.self.lists c.in_ok-joined.joined
    (list_at c.self.inside.matches.lists c.record_of-state.result.matches ++ more)
    c.self.invariant.match_lists (the_change c) c.self.inside.transitions.lists
    ∙ ap (λ (t : LimitedStates). set t.states c.args.sid (record (state_at t.states c.args.sid) { matches = list_at c.self.inside.matches.lists c.record_of-state.result.matches ++ more })) c.self.view_is
    ∙ ap (λ (s : State). set c.args.self.now.states c.args.sid (record (state_at c.args.self.now.states c.args.sid) { matches = s.matches ++ more })) (sym row)
    ∙ ap (λ (s : State). set c.args.self.now.states c.args.sid (record (state_at c.args.self.now.states c.args.sid) { matches = matches_in c.args.self.now.states c.args.sid ++ s.matches })) (sym other))
    (ap (λ (t : LimitedStates). t.limit) c.self.view_is)
