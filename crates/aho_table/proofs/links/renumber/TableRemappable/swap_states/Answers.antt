-- Two states change places, and the starts of their rows.
use Rattle.std.proofs.Common.{◌≡◌, ◌<◌, ℕ, Bool, List, length, sym, ap, subst, ◌∙◌, arith}
use Rattle.std.specs.List.{swap}
use Rattle.aho_table.specs.Table.{Tables}
use Rattle.aho_table.specs.Inside.{LimitedStates, HasRows}
use Rattle.aho_table.proofs.Rows.{starts-swapped}
use Rattle.aho_table.proofs.SwappedStates.{HasRows-swapped}
use Rattle.aho_table.proofs.links.renumber.TableRemappable.swap_states.Goals as goal

pub invariant_of-self : goal.invariant_of-self
invariant_of-self c =
    let inside = c.self.inside in
    let states = ap (λ (t : Tables). length t.states) c.self.view_is in
    let of_a : c.args.a < length inside.states.states = let a = c.requires.a in omega arith in
    let of_b : c.args.b < length inside.states.states = let b = c.requires.b in omega arith in
    let starts : c.swap-2.new.self.items ≡ swap inside.starts.items c.args.a c.args.b =
    c.swap-2.ensures.items ∙ ap (λ (n : ℕ). swap inside.starts.items n c.as_usize-2.result) c.as_usize.ensures.value ∙ ap (λ (n : ℕ). swap inside.starts.items c.args.a n) c.as_usize-2.ensures.value in
    subst (λ (n : ℕ). HasRows c.swap.new.self.states c.swap-2.new.self.items inside.rows.classes inside.rows.entries.items n) (sym (ap (λ (t : LimitedStates). t.limit) c.swap.ensures.swapped))
    (HasRows-swapped inside.states.states c.swap.new.self.states c.args.a c.args.b of_a of_b (ap (λ (t : LimitedStates). t.states) c.swap.ensures.swapped) inside.states.limit inside.starts.items
    c.swap-2.new.self.items inside.rows.classes inside.rows.entries.items starts c.self.invariant)

pub returns-clause-marks : goal.returns-clause-marks
returns-clause-marks c =
    let inside = c.self.inside in
    let states = ap (λ (t : Tables). length t.states) c.self.view_is in
    let count = c.self.invariant.state_count in
    let of_a : c.args.a < length inside.starts.items = let a = c.requires.a in omega arith in
    let of_b : c.args.b < length inside.starts.items = let b = c.requires.b in omega arith in
    let starts : c.swap-2.new.self.items ≡ swap inside.starts.items c.args.a c.args.b =
    c.swap-2.ensures.items ∙ ap (λ (n : ℕ). swap inside.starts.items n c.as_usize-2.result) c.as_usize.ensures.value ∙ ap (λ (n : ℕ). swap inside.starts.items c.args.a n) c.as_usize-2.ensures.value in
    starts-swapped inside.starts.items c.swap-2.new.self.items c.args.a c.args.b of_a of_b starts ∙ ap (λ (rows : List Bool). swap rows c.args.a c.args.b) (ap (λ (t : Tables). t.rows) c.self.view_is)
