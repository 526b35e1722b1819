-- No state has a row.
use Rattle.std.proofs.Common.{◌∙◌, ◌+◌, ℕ, List, length, ap, arith}
use Rattle.aho_table.specs.Table.{Tables, no_rows}
use Rattle.aho_table.proofs.Rows.{same_tables, starts-none}
use Rattle.aho_table.proofs.links.Table.set_byte_classes.Goals as goal

pub returns : goal.returns
returns c =
    let is = c.self.view_is in
    let filled = c.fill.ensures.items (λ y same. same) in
    let count = c.self.invariant.state_count in
    let rows = starts-none c.self.inside.states.states _ c.fill.new.self.items filled (omega (arith, c.self.inside.starts.ok.0)) in
    record {
      set = same_tables _ _
          (ap (λ (t : Tables). t.states) is)
          (ap (λ (t : Tables). t.limit) is)
          c.set_classes.ensures.classes
          (ap (λ (entries : List ℕ). length entries + 1) c.set_classes.ensures.empty)
          (rows ∙ ap (λ (t : Tables). no_rows t.states) is);
    }
