-- A state that is to have a row has got the next one.
use Rattle.std.proofs.Common.{◌≡◌, ℕ, ◌+◌, ◌<◌, ◌≤◌, Bool, List, length, sym, ap, subst, ◌∙◌, inl, inr, arith}
use Rattle.std.proofs.lemmas.Bool.{cases_eq}
use Rattle.aho_table.specs.Alphabet.{class_count}
use Rattle.aho_table.specs.Table.{State, Tables, state_at, with_row}
use Rattle.aho_build.specs.Dense.{is_dense, row_start}
use Rattle.aho_build.proofs.RowCounts.{rows_before, rows_before-first, rows_before-dense, rows_before-other, HaveRowsBelow, HaveRowsBelow-first, HaveRowsBelow-added, HaveRowsBelow-past, is_dense_at-named}
use Rattle.aho_build.proofs.compiler.dense.densify.Goals as goal
use Rattle.aho_build.proofs.compiler.dense.densify.Goals.{then-has_row+in_ok-add_row, else-has_row}

pub loop-index-init : goal.loop-index-init
loop-index-init c =
    let old = c.args.table.now in
    let set = c.set_byte_classes.ensures.set in
    let rows = ap (λ (t : Tables). t.rows) set in
    let none = rows_before-first c.args.depth old.states in
    record {
      table = set ∙ ap (λ (rows : List Bool). record old { classes = c.args.classes; dense_len = 1; rows = rows }) (sym rows)
          ∙ ap (λ (len : ℕ). record old { classes = c.args.classes; dense_len = len; rows = c.set_byte_classes.new.self.rows }) (omega (arith, ap (row_start c.args.classes) none));
      rows = HaveRowsBelow-first c.args.depth old.states c.set_byte_classes.new.self.rows rows;
      earlier = λ row below. absurd (omega (arith, none));
    }

pub loop-index-preserved : goal.loop-index-preserved
loop-index-preserved c =
    let old = c.args.table.now in
    let classes = c.args.classes in
    let depth = c.args.depth in
    let index = c.loop-index.index in
    let now = c.loop-index.invariant.table in
    let states : c.loop-index.table.states ≡ old.states = ap (λ (t : Tables). t.states) now in
    let sized = ap (λ (t : Tables). length t.states) c.set_byte_classes.ensures.set in
    let below : index < length old.states = omega arith in
    let least : 2 ≤ index = c.loop-index.auto.index in
    let told : c.has_row.result ≡ is_dense depth (state_at old.states index) =
    c.has_row.ensures.dense ∙ ap (λ (ss : List State). is_dense depth (state_at ss c.new_unchecked-sid.result)) states
    ∙ ap (λ (n : ℕ). is_dense depth (state_at old.states n)) c.new_unchecked-sid.ensures.value in
    let named = is_dense_at-named depth old.states index least in
    let added = ap (with_row c.loop-index.table.rows) c.new_unchecked-sid.ensures.value in
    elim c.if-has_row.branch [
      | then-has_row+in_ok-add_row w ↦
          let more = rows_before-dense depth old.states index least below (sym told ∙ w.if-has_row.true) in
          let start = ap (row_start classes) more in
          let rows = ap (λ (t : Tables). t.rows) (w.table-is ∙ w.in_ok-add_row.ensures.added) in
          let within : row_start classes (rows_before depth old.states index) ≤ old.limit =
          omega (arith, w.in_ok-add_row.ensures.within, ap (λ (t : Tables). t.dense_len) now, ap (λ (t : Tables). t.limit) now) in
          record {
            table = w.table-is ∙ w.in_ok-add_row.ensures.added
                ∙ ap (λ (t : Tables). record t { dense_len = t.dense_len + class_count t.classes; rows = with_row c.loop-index.table.rows c.new_unchecked-sid.result }) now
                ∙ ap (λ (len : ℕ). record old { classes = classes; dense_len = len; rows = with_row c.loop-index.table.rows c.new_unchecked-sid.result }) (omega arith)
                ∙ ap (λ (rows : List Bool). record old { classes = classes; dense_len = row_start classes (rows_before depth old.states (index + 1)); rows = rows }) (sym rows);
            rows = subst (HaveRowsBelow depth old.states (index + 1)) (sym (rows ∙ added))
                (HaveRowsBelow-added depth old.states index c.loop-index.table.rows c.loop-index.invariant.rows below (named ∙ sym told ∙ w.if-has_row.true));
            earlier = λ row below.
                elim (cases_eq row (rows_before depth old.states index)) [
                  | inl last ↦ omega (arith, within, ap (row_start classes) last)
                  | inr other ↦ c.loop-index.invariant.earlier row (omega arith)
                ];
          }
      | else-has_row w ↦
          let rows = ap (λ (t : Tables). t.rows) w.table-is in
          let same = rows_before-other depth old.states index least below (sym told ∙ w.if-has_row.false) in
          record {
            table = w.table-is ∙ now
                ∙ ap (λ (len : ℕ). record old { classes = classes; dense_len = len; rows = c.loop-index.table.rows }) (ap (row_start classes) (sym same))
                ∙ ap (λ (rows : List Bool). record old { classes = classes; dense_len = row_start classes (rows_before depth old.states (index + 1)); rows = rows }) (sym rows);
            rows = subst (HaveRowsBelow depth old.states (index + 1)) (sym rows)
                (HaveRowsBelow-past depth old.states index c.loop-index.table.rows c.loop-index.invariant.rows (named ∙ sym told ∙ w.if-has_row.false));
            earlier = λ row below. c.loop-index.invariant.earlier row (omega arith);
          }
    ]
