-- The state's row is forgotten.
use Rattle.std.proofs.Common.{◌∙◌, refl, ap}
use Rattle.aho_table.specs.Inside.{LimitedStates}
use Rattle.aho_table.specs.Table.{Tables, set_transition, without_row}
use Rattle.aho_table.proofs.Rows.{same_tables, starts-set}
use Rattle.aho_table.proofs.links.Table.set.Goals as goal

pub returns-clause-set : goal.returns-clause-set
returns-clause-set c =
    let set = c.in_ok-set.ensures.set in
    let is = c.self.view_is in
    same_tables _ _
    (ap (λ (t : LimitedStates). t.states) set ∙ ap (λ (t : Tables). set_transition t.states c.args.sid c.args.byte c.args.next) is)
    (ap (λ (t : LimitedStates). t.limit) set ∙ ap (λ (t : Tables). t.limit) is)
    (ap (λ (t : Tables). t.classes) is)
    (ap (λ (t : Tables). t.dense_len) is)
    (starts-set c.self.inside.starts.items c.args.sid c.as_usize.result 0 _ c.as_usize.ensures.value refl ∙ ap (λ (t : Tables). without_row t.rows c.args.sid) is)
