-- The row stands behind the others, and leads as the state's list does.
use Rattle.std.proofs.Common.{◌≡◌, ◌<◌, ◌+◌, ◌∙◌, ℕ, List, true, length, arith, ap, subst}
use Rattle.std.proofs.lemmas.Bool.{lt-ltb}
use Rattle.aho_table.specs.Table.{Tables, state_at, with_row}
use Rattle.aho_table.specs.Alphabet.{class_count}
use Rattle.aho_table.specs.Inside.{IsRowAdded}
use Rattle.aho_table.proofs.Rows.{HasRows-added, same_tables, starts-set}
use Rattle.aho_table.proofs.links.Table.add_row.Goals as goal

pub invariant_of-self-2 : goal.invariant_of-self-2
invariant_of-self-2 c =
    let start = c.len-start.ensures.len in
    let states = ap (λ (t : Tables). length t.states) c.self.view_is in
    let below : c.args.sid < length c.self.inside.states.states = omega arith in
    let added : IsRowAdded c.self.inside.rows.classes c.self.inside.rows.entries.items (state_at c.self.inside.states.states c.args.sid).transitions c.add.new.self.entries.items =
    subst (λ (ts : List (ℕ × ℕ)). IsRowAdded c.self.inside.rows.classes c.self.inside.rows.entries.items ts c.add.new.self.entries.items) c.transitions.ensures.listed c.in-Ok.ensures.added in
    rw (c.add.ensures.classes)
    (HasRows-added c.self.inside.states.states c.self.inside.starts.items c.self.inside.rows.classes c.self.inside.rows.entries.items c.self.inside.states.limit c.self.invariant
    c.args.sid c.as_usize.result c.len-start.result c.add.new.self.entries.items below (omega arith) start (omega arith) added)

pub returns-clause-added : goal.returns-clause-added
returns-clause-added c =
    let start = c.len-start.ensures.len in
    let is = c.self.view_is in
    let rows = starts-set c.self.inside.starts.items c.args.sid c.as_usize.result c.len-start.result true c.as_usize.ensures.value (lt-ltb 0 c.len-start.result (omega arith)) in
    let longer : length c.add.new.self.entries.items + 1 ≡ length c.self.inside.rows.entries.items + 1 + class_count c.self.inside.rows.classes =
    let added = c.in-Ok.ensures.added.longer in omega arith in
    same_tables _ _
    (ap (λ (t : Tables). t.states) is)
    (ap (λ (t : Tables). t.limit) is)
    (c.add.ensures.classes ∙ ap (λ (t : Tables). t.classes) is)
    (longer ∙ ap (λ (t : Tables). t.dense_len + class_count t.classes) is)
    (rows ∙ ap (λ (t : Tables). with_row t.rows c.args.sid) is)
