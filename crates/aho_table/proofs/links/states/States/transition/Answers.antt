-- The store's item of this place is the state's.
use Rattle.std.proofs.Common.{◌≡◌, ◌∙◌, ℕ, ap, sym, length, arith}
use Rattle.std.specs.List.{slice_get}
use Rattle.std.proofs.lemmas.Option.{get_or_from_slice_get}
use Rattle.aho_table.specs.Table.{State, state_at, transition_in}
use Rattle.aho_table.proofs.TransitionLists.{transition_at-at}
use Rattle.aho_table.proofs.Records.{read_in, read_is, transitions_known}
use Rattle.aho_table.proofs.links.states.States.transition.Goals as goal

pub record_of-list-requires : goal.record_of-list-requires
record_of-list-requires c = record { added = read_in c.self.inside.records.items c.self.inside.transitions c.self.inside.matches c.self.inside.limit c.args.sid c.args.self.now c.self.view_is c.requires.added c.deref.result.now c.deref.ensures.value }

pub get-requires : goal.get-requires
get-requires c = record {
  known = transitions_known c.self.inside.records.items c.self.inside.transitions c.self.inside.matches c.self.inside.limit c.args.sid c.args.self.now c.self.view_is c.requires.added
      c.deref.result.now c.deref.ensures.value c.record_of-list.result c.record_of-list.ensures.found c.self.invariant.transition_lists;
  within = omega (
    arith,
    c.requires.within,
    ap (λ (s : State). length s.transitions) (read_is c.self.inside.records.items c.self.inside.transitions c.self.inside.matches c.self.inside.limit c.args.sid c.args.self.now c.self.view_is c.requires.added
        c.deref.result.now c.deref.ensures.value c.record_of-list.result c.record_of-list.ensures.found),
  );
}

pub returns : goal.returns
returns c =
    let read = ap (λ (s : State). slice_get s.transitions c.args.index) (read_is c.self.inside.records.items c.self.inside.transitions c.self.inside.matches c.self.inside.limit c.args.sid c.args.self.now c.self.view_is c.requires.added
    c.deref.result.now c.deref.ensures.value c.record_of-list.result c.record_of-list.ensures.found) ∙ c.get.ensures.listed in
    let listed : transition_in c.args.self.now.states c.args.sid c.args.index ≡ c.get.result =
    get_or_from_slice_get (state_at c.args.self.now.states c.args.sid).transitions c.args.index c.get.result (0, 1) read in
    record {
      listed = sym listed;
      leads = transition_at-at (state_at c.args.self.now.states c.args.sid).transitions c.args.index c.get.result.0 (0, 1) (c.facts.ensures.rising c.args.sid) c.requires.within
          (ap (λ (t : ℕ × ℕ). t.0) listed)
          ∙ ap (λ (t : ℕ × ℕ). t.1) listed;
    }
