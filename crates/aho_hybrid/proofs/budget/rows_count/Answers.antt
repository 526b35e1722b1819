use Rattle.std.proofs.Common.{◌≡◌, ◌≤◌, ◌+◌, ◌∙◌, ℕ, Bool, length, take, sym, ap, arith, inl, inr}
use Rattle.std.specs.Prelude.{if◌then◌else◌}
use Rattle.std.proofs.lemmas.Bool.{cases_Bool}
use Rattle.aho_corasick.specs.ReadOut.{states_of}
use Rattle.aho_table.specs.Table.{state_at}
use Rattle.aho_hybrid.specs.Filled.{is_deep, rows_count}
use Rattle.aho_hybrid.proofs.Counting.{deep-more, row-more, rows-all, rows-first}
use Rattle.aho_hybrid.proofs.budget.rows_count.Goals as goal

pub loop-index-init : goal.loop-index-init
loop-index-init c = record { counted = sym (rows-first c.args.depth (states_of c.args.nfa.now)); bound = omega arith }

pub loop-index-preserved : goal.loop-index-preserved
loop-index-preserved c =
    let states = states_of c.args.nfa.now in
    let index = c.loop-index.index in
    let within : index + 1 ≤ length states = omega (arith, c.loop-index-test.true, c.states_len-index-end.ensures.len) in
    let count = c.loop-index.count in
    elim (cases_Bool (is_deep c.args.depth (state_at states index))) [
      | inl deep ↦
          let is : c.either-count.result ≡ count = c.either-count.ensures.either ∙ ap (λ (b : Bool). if b then count else count + 1) (c.is_deep.ensures.deep ∙ deep) in
          let more = deep-more c.args.depth states index (omega (arith, within)) deep in
          record { counted = is ∙ c.loop-index.invariant.counted ∙ sym more.0; bound = omega (arith, is, c.loop-index.invariant.bound) }
      | inr shallow ↦
          let is : c.either-count.result ≡ count + 1 = c.either-count.ensures.either ∙ ap (λ (b : Bool). if b then count else count + 1) (c.is_deep.ensures.deep ∙ shallow) in
          let more = row-more c.args.depth states index (omega (arith, within)) shallow in
          record { counted = is ∙ ap (λ (n : ℕ). n + 1) c.loop-index.invariant.counted ∙ sym more.0; bound = omega (arith, is, c.loop-index.invariant.bound) }
    ]

pub returns : goal.returns
returns c =
    let states = states_of c.args.nfa.now in
    let all : c.loop-index.index ≡ length states = omega (arith, c.loop-index-test.false, c.loop-index.auto.index-end, c.states_len-index-end.ensures.len) in
    record {
      count = c.loop-index.invariant.counted ∙ ap (λ (n : ℕ). rows_count c.args.depth (take n states)) all ∙ rows-all c.args.depth states;
      bound = omega (arith, all, c.loop-index.invariant.bound);
      small = omega (arith, c.states_len-index-end.ensures.len, c.states_len-index-end.ensures.bound);
    }
