-- The start of the last state's row is gone.
use Rattle.std.proofs.Common.{◌≡◌, ◌+◌, ◌∙◌, length, ap, arith}
use Rattle.std.proofs.lemmas.List.{length_push}
use Rattle.aho_table.specs.Inside.{LimitedStates}
use Rattle.aho_table.specs.Table.{Tables, new_state}
use Rattle.aho_table.proofs.Rows.{same_tables, starts-popped}
use Rattle.aho_table.proofs.links.Table.remove_last.Goals as goal

pub returns : goal.returns
returns c = record {
  removed = λ states depth rows row states_are rows_are.
      let is = c.self.view_is in
      let before = ap (λ (t : Tables). t.states) is ∙ states_are in
      let removed = c.remove_last.ensures.removed states depth before in
      let count = c.self.invariant.state_count in
      let last : c.len-count.result + 1 ≡ length c.self.inside.starts.items =
      omega (arith, ap (λ (t : LimitedStates). length t.states) removed, ap length before, length_push states (new_state depth), c.len-count.ensures.len) in
      same_tables _ _
      (ap (λ (t : LimitedStates). t.states) removed)
      (ap (λ (t : LimitedStates). t.limit) removed ∙ ap (λ (t : Tables). t.limit) is)
      (ap (λ (t : Tables). t.classes) is)
      (ap (λ (t : Tables). t.dense_len) is)
      (starts-popped c.self.inside.starts.items c.truncate.new.self.items rows row c.len-count.result c.truncate.ensures.items last (ap (λ (t : Tables). t.rows) is ∙ rows_are));
}
