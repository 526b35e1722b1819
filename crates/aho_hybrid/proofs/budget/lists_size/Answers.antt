use Rattle.std.proofs.Common.{◌≡◌, ◌+◌, ◌-◌, ◌^◌, ◌∙◌, ℕ, length, sym, ap, arith}
use Rattle.std.specs.Prelude.{min}
use Rattle.aho_corasick.specs.ReadOut.{states_of}
use Rattle.aho_hybrid.specs.Filled.{list_words, lists_below, told_size}
use Rattle.aho_hybrid.proofs.Sizes.{lists-first, lists-more, told-add, told-small}
use Rattle.aho_hybrid.proofs.budget.lists_size.Goals as goal

pub loop-index-init : goal.loop-index-init
loop-index-init c =
    sym (ap (λ (n : ℕ). told_size (1 + n)) (lists-first (states_of c.args.nfa.now)) ∙ told-small 1 (omega arith))

pub loop-index-preserved : goal.loop-index-preserved
loop-index-preserved c =
    let states = states_of c.args.nfa.now in
    let index = c.loop-index.index in
    let so_far : ℕ = 1 + lists_below states index in
    let words : ℕ = list_words states index in
    let one_more : so_far + words ≡ 1 + lists_below states (index + 1) = omega (arith, lists-more states index) in
    c.saturating_add-size.ensures
    ∙ ap (λ (n : ℕ). min (n + c.list_words.result) (2 ^ 64 - 1)) c.loop-index.invariant
    ∙ ap (λ (n : ℕ). min (told_size so_far + n) (2 ^ 64 - 1)) c.list_words.ensures.words
    ∙ told-add so_far words
    ∙ ap told_size one_more

pub returns : goal.returns
returns c =
    let all : c.loop-index.index ≡ length (states_of c.args.nfa.now) = omega (arith, c.loop-index-test.false, c.loop-index.auto.index-end, c.states_len-index-end.ensures.len) in
    record { size = c.loop-index.invariant ∙ ap (λ (n : ℕ). told_size (1 + lists_below (states_of c.args.nfa.now) n)) all }
