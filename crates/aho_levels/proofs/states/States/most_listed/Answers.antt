use Rattle.std.proofs.Common.{◌≡◌, ◌∙◌, ℕ, ap, arith, inl, inr, length}
use Rattle.std.proofs.lemmas.Bool.{cases_eq, cases_lt}
use Rattle.aho_levels.specs.Layout.{IsStateNumber, StateTables, list_of_state}
use Rattle.aho_levels.proofs.states.States.most_listed.Goals as goal

pub loop-index-preserved : goal.loop-index-preserved
loop-index-preserved c =
    let t = c.args.self.now in
    let index : ℕ = c.loop-index.index in
    let before = c.loop-index.invariant in
    let one : c.list_len.result ≡ length (list_of_state t index) = c.list_len.ensures.len ∙ ap (λ (n : ℕ). length (list_of_state t n)) c.new_unchecked.ensures.value in
    let state : IsStateNumber t index = omega (arith, c.loop-index-test.true, c.loop-index.auto.index-end, c.len-index-end.ensures, c.requires.sound.places, ap (λ (l : StateTables). length l.places) c.self.view_is) in
    record {
      all = λ sid less.
          elim (cases_eq sid index) [
            | inl same ↦ omega (arith, ap (λ (n : ℕ). length (list_of_state t n)) same, one, c.max-most.ensures)
            | inr other ↦ omega (arith, before.all sid (omega (arith, less, other)), c.max-most.ensures)
          ];
      some =
          elim (cases_lt c.loop-index.most c.list_len.result) [
            | inl more ↦ (index, state, omega (arith, one, c.max-most.ensures, more))
            | inr less ↦ (before.some.0, before.some.1, omega (arith, before.some.2, c.max-most.ensures, less))
          ];
    }
