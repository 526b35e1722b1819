use Rattle.std.proofs.Common.{◌≡◌, ◌∙◌, ℕ, List, Bool, ap}
use Rattle.std.specs.List.{each_same}
use Rattle.aho_hybrid.specs.Layout.{Layout}
use Rattle.aho_hybrid.proofs.rows.Rows.try_clone.Goals as goal

pub returns : goal.returns
returns c =
    let inside = c.self.inside in
    let entries : c.in_ok-clone.field-0.items ≡ inside.entries.items = each_same inside.entries.items c.in_ok-clone.field-0.items c.in_ok-clone.ensures.cases.0 in
    let deep : c.in_ok-clone-2.field-0.items ≡ inside.deep.items = each_same inside.deep.items c.in_ok-clone-2.field-0.items c.in_ok-clone-2.ensures.cases.0 in
    let moves : c.in_ok-clone-3.field-0.items ≡ inside.moves.items = each_same inside.moves.items c.in_ok-clone-3.field-0.items c.in_ok-clone-3.ensures.cases.0 in
    let lists : c.in_ok-clone-4.field-0.items ≡ inside.lists.items = each_same inside.lists.items c.in_ok-clone-4.field-0.items c.in_ok-clone-4.ensures.cases.0 in
    let depths : c.in_ok-clone-5.field-0.items ≡ inside.depths.items = each_same inside.depths.items c.in_ok-clone-5.field-0.items c.in_ok-clone-5.ensures.cases.0 in
    let same : Layout = record {
      rows = inside.entries.items;
      deep = inside.deep.items;
      moves = inside.moves.items;
      lists = inside.lists.items;
      depths = inside.depths.items;
      row_depth = inside.row_depth;
      classes = inside.classes;
      start = inside.start;
      low = inside.low;
      list_low = inside.list_low;
      deep_low = inside.deep_low;
    } in
    let made : Layout = record {
      rows = c.in_ok-clone.field-0.items;
      deep = c.in_ok-clone-2.field-0.items;
      moves = c.in_ok-clone-3.field-0.items;
      lists = c.in_ok-clone-4.field-0.items;
      depths = c.in_ok-clone-5.field-0.items;
      row_depth = inside.row_depth;
      classes = c.copy.result;
      start = inside.start;
      low = inside.low;
      list_low = inside.list_low;
      deep_low = inside.deep_low;
    } in
    let equal : made ≡ same =
    ap (λ (l : List ℕ). record made { rows = l }) entries
    ∙ ap (λ (l : List ℕ). record made { rows = inside.entries.items; deep = l }) deep
    ∙ ap (λ (l : List ℕ). record made { rows = inside.entries.items; deep = inside.deep.items; moves = l }) moves
    ∙ ap (λ (l : List ℕ). record made { rows = inside.entries.items; deep = inside.deep.items; moves = inside.moves.items; lists = l }) lists
    ∙ ap (λ (l : List ℕ). record same { depths = l; classes = c.copy.result }) depths
    ∙ ap (λ (cs : List Bool). record same { classes = cs }) c.copy.ensures.same in
    record { same = equal ∙ c.self.view_is }
