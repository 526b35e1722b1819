-- The records change places, and keep their lists.
use Rattle.std.proofs.Common.{◌<◌, ℕ, length, ap, ◌∙◌, arith}
use Rattle.std.specs.List.{swap}
use Rattle.aho_table.specs.Inside.{LimitedStates}
use Rattle.aho_table.proofs.Records.{count_is, same_table}
use Rattle.aho_table.proofs.RenumberedRecords.{recorded_states-swapped, IsConsistent-swapped}
use Rattle.aho_table.proofs.links.states.States.swap.Goals as goal

pub swap-requires-clause-i_in_bounds : goal.swap-requires-clause-i_in_bounds
swap-requires-clause-i_in_bounds c = omega (arith, c.requires.a, count_is c.self.inside.records.items c.self.inside.transitions c.self.inside.matches c.self.inside.limit c.args.self.now c.self.view_is, c.self.inside.records.ok, c.as_usize.ensures.value)

pub swap-requires-clause-j_in_bounds : goal.swap-requires-clause-j_in_bounds
swap-requires-clause-j_in_bounds c = omega (arith, c.requires.b, count_is c.self.inside.records.items c.self.inside.transitions c.self.inside.matches c.self.inside.limit c.args.self.now c.self.view_is, c.self.inside.records.ok, c.as_usize-2.ensures.value)

pub invariant_of-self : goal.invariant_of-self
invariant_of-self c =
    let count = count_is c.self.inside.records.items c.self.inside.transitions c.self.inside.matches c.self.inside.limit c.args.self.now c.self.view_is in
    let of_a : c.as_usize.result < length c.self.inside.records.items = omega (arith, c.requires.a) in
    let of_b : c.as_usize-2.result < length c.self.inside.records.items = omega (arith, c.requires.b) in
    IsConsistent-swapped c.self.inside.records.items c.swap.new.self.items c.as_usize.result c.as_usize-2.result of_a of_b c.swap.ensures.items c.self.inside.transitions c.self.inside.matches c.self.inside.limit
    c.self.invariant

pub returns : goal.returns
returns c =
    let count = count_is c.self.inside.records.items c.self.inside.transitions c.self.inside.matches c.self.inside.limit c.args.self.now c.self.view_is in
    let of_a : c.as_usize.result < length c.self.inside.records.items = omega (arith, c.requires.a) in
    let of_b : c.as_usize-2.result < length c.self.inside.records.items = omega (arith, c.requires.b) in
    record {
      swapped = same_table
          (recorded_states-swapped c.self.inside.records.items c.swap.new.self.items c.as_usize.result c.as_usize-2.result of_a of_b c.swap.ensures.items c.self.inside.transitions.lists c.self.inside.matches.lists
          ∙ ap (λ (t : LimitedStates). swap t.states c.as_usize.result c.as_usize-2.result) c.self.view_is
          ∙ ap (λ (n : ℕ). swap c.args.self.now.states n c.as_usize-2.result) c.as_usize.ensures.value
          ∙ ap (λ (n : ℕ). swap c.args.self.now.states c.args.a n) c.as_usize-2.ensures.value)
          (ap (λ (t : LimitedStates). t.limit) c.self.view_is);
    }
