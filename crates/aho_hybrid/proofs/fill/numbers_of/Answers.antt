use Rattle.std.proofs.Common.{◌≡◌, ◌≤◌, ◌<◌, ◌+◌, ◌*◌, ◌∙◌, ℕ, Bool, length, sym, subst, ap, arith, inl, inr}
use Rattle.std.specs.Prelude.{if◌then◌else◌}
use Rattle.std.proofs.lemmas.Bool.{cases_Bool}
use Rattle.aho_corasick.specs.ReadOut.{classes_of, states_of}
use Rattle.aho_table.specs.Table.{state_at}
use Rattle.aho_hybrid.specs.Filled.{AreStateNumbers, is_deep, number_of, record_place, row_at, row_entries}
use Rattle.aho_hybrid.specs.Layout.{record_size, stride_of}
use Rattle.aho_hybrid.proofs.Counting.{deep-first, deep-more, row-more, rows-first}
use Rattle.aho_hybrid.proofs.Numbering.{number-added, number-small, numbers-none, places-small}
use Rattle.aho_hybrid.proofs.fill.numbers_of.Goals as goal

pub loop-index-init : goal.loop-index-init
loop-index-init c =
    let states = states_of c.args.nfa.now in
    let classes = classes_of c.args.nfa.now in
    let nothing : 0 * stride_of classes ≡ 0 = omega arith in
    record {
      numbers = subst (AreStateNumbers c.args.row_depth states classes 0) (sym c.in_ok-numbers.ensures.empty) (numbers-none c.args.row_depth states classes);
      row = sym (ap (λ (n : ℕ). n * stride_of classes) (rows-first c.args.row_depth states) ∙ nothing);
      deep = omega (arith, ap (λ (n : ℕ). n * record_size) (deep-first c.args.row_depth states));
    }

pub overflow_add-row : goal.overflow_add-row
overflow_add-row c =
    let states = states_of c.args.nfa.now in
    let within : c.loop-index.index ≤ length states = omega (arith, c.loop-index-test.true, c.states_len-index-end.ensures.len) in
    omega (arith, (places-small c.args.row_depth states (classes_of c.args.nfa.now) c.loop-index.index within c.requires.small).0, c.loop-index.invariant.row, c.requires.bounded)

pub overflow_add-record : goal.overflow_add-record
overflow_add-record c =
    let states = states_of c.args.nfa.now in
    let within : c.loop-index.index ≤ length states = omega (arith, c.loop-index-test.true, c.states_len-index-end.ensures.len) in
    omega (arith, (places-small c.args.row_depth states (classes_of c.args.nfa.now) c.loop-index.index within c.requires.small).1, c.loop-index.invariant.deep, c.requires.dense)

pub new_unchecked-number-requires : goal.new_unchecked-number-requires
new_unchecked-number-requires c =
    let states = states_of c.args.nfa.now in
    let classes = classes_of c.args.nfa.now in
    let index = c.loop-index.index in
    let below : index < length states = omega (arith, c.loop-index-test.true, c.states_len-index-end.ensures.len) in
    let is : c.either.result ≡ number_of c.args.row_depth states classes index =
    c.either.ensures.either
    ∙ ap (λ (b : Bool). if b then c.loop-index.record else c.loop-index.row) c.is_deep-deep.ensures.deep
    ∙ ap (λ (n : ℕ). if is_deep c.args.row_depth (state_at states index) then n else c.loop-index.row) (c.loop-index.invariant.deep ∙ ap (λ (n : ℕ). n + record_place c.args.row_depth states index) c.requires.dense)
    ∙ ap (λ (n : ℕ). if is_deep c.args.row_depth (state_at states index) then row_entries c.args.row_depth states classes + record_place c.args.row_depth states index else n) c.loop-index.invariant.row in
    record { within = omega (arith, is, number-small c.args.row_depth states classes index below c.requires.small) }

pub loop-index-preserved : goal.loop-index-preserved
loop-index-preserved c =
    let states = states_of c.args.nfa.now in
    let classes = classes_of c.args.nfa.now in
    let index = c.loop-index.index in
    let depth = c.args.row_depth in
    let below : index < length states = omega (arith, c.loop-index-test.true, c.states_len-index-end.ensures.len) in
    let is : c.new_unchecked-number.result ≡ number_of depth states classes index =
    c.new_unchecked-number.ensures.value
    ∙ c.either.ensures.either
    ∙ ap (λ (b : Bool). if b then c.loop-index.record else c.loop-index.row) c.is_deep-deep.ensures.deep
    ∙ ap (λ (n : ℕ). if is_deep depth (state_at states index) then n else c.loop-index.row) (c.loop-index.invariant.deep ∙ ap (λ (n : ℕ). n + record_place depth states index) c.requires.dense)
    ∙ ap (λ (n : ℕ). if is_deep depth (state_at states index) then row_entries depth states classes + record_place depth states index else n) c.loop-index.invariant.row in
    let numbers = number-added depth states classes index c.new_unchecked-number.result c.loop-index.numbers.items c.push.new.list.items c.loop-index.invariant.numbers is c.in_ok-push.ensures.pushed in
    elim (cases_Bool (is_deep depth (state_at states index))) [
      | inl deep ↦
          let more = deep-more depth states index below deep in
          let row : c.either-row.result ≡ c.loop-index.row =
          c.either-row.ensures.either ∙ ap (λ (b : Bool). if b then c.loop-index.row else c.loop-index.row + c.args.stride) (c.is_deep-deep.ensures.deep ∙ deep) in
          let next : c.either-record.result ≡ c.loop-index.record + 5 =
          c.either-record.ensures.either ∙ ap (λ (b : Bool). if b then c.loop-index.record + 5 else c.loop-index.record) (c.is_deep-deep.ensures.deep ∙ deep) in
          record {
            numbers = numbers;
            row = row ∙ c.loop-index.invariant.row ∙ ap (λ (n : ℕ). n * stride_of classes) (sym more.0);
            deep = omega (arith, next, c.loop-index.invariant.deep, more.1);
          }
      | inr shallow ↦
          let more = row-more depth states index below shallow in
          let row : c.either-row.result ≡ c.loop-index.row + c.args.stride =
          c.either-row.ensures.either ∙ ap (λ (b : Bool). if b then c.loop-index.row else c.loop-index.row + c.args.stride) (c.is_deep-deep.ensures.deep ∙ shallow) in
          let next : c.either-record.result ≡ c.loop-index.record =
          c.either-record.ensures.either ∙ ap (λ (b : Bool). if b then c.loop-index.record + 5 else c.loop-index.record) (c.is_deep-deep.ensures.deep ∙ shallow) in
          let further : (n : ℕ) → n * stride_of classes + stride_of classes ≡ (n + 1) * stride_of classes = λ n. omega arith in
          record {
            numbers = numbers;
            row = row ∙ ap (λ (n : ℕ). n + c.args.stride) c.loop-index.invariant.row ∙ ap (λ (n : ℕ). row_at depth states classes index + n) c.requires.stride ∙ further _ ∙ ap (λ (n : ℕ). n * stride_of classes) (sym more.0);
            deep = omega (arith, next, c.loop-index.invariant.deep, more.1);
          }
    ]
