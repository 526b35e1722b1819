use Rattle.std.proofs.Common.{◌≡◌, ◌+◌, ◌-◌, ◌^◌, ◌∙◌, ℕ, length, sym, ap, arith}
use Rattle.std.specs.Prelude.{min}
use Rattle.aho_corasick.specs.ReadOut.{special_of, states_of}
use Rattle.aho_hybrid.specs.Filled.{moves_below, moves_words, told_size}
use Rattle.aho_hybrid.proofs.Sizes.{moves-first, moves-more, told-add, told-small}
use Rattle.aho_hybrid.proofs.budget.moves_size.Goals as goal

pub loop-index-init : goal.loop-index-init
loop-index-init c =
    sym (ap told_size (moves-first (special_of c.args.nfa.now) (states_of c.args.nfa.now) c.args.row_depth) ∙ told-small 0 (omega arith))

pub loop-index-preserved : goal.loop-index-preserved
loop-index-preserved c =
    let special = special_of c.args.nfa.now in
    let states = states_of c.args.nfa.now in
    let index = c.loop-index.index in
    let so_far : ℕ = moves_below c.args.row_depth special states index in
    let words : ℕ = moves_words c.args.row_depth special states index in
    c.saturating_add-size.ensures
    ∙ ap (λ (n : ℕ). min (n + c.moves_words.result) (2 ^ 64 - 1)) c.loop-index.invariant
    ∙ ap (λ (n : ℕ). min (told_size so_far + n) (2 ^ 64 - 1)) c.moves_words.ensures.words
    ∙ told-add so_far words
    ∙ ap told_size (sym (moves-more special states c.args.row_depth index))

pub returns : goal.returns
returns c =
    let all : c.loop-index.index ≡ length (states_of c.args.nfa.now) = omega (arith, c.loop-index-test.false, c.loop-index.auto.index-end, c.states_len-index-end.ensures.len) in
    record { size = c.loop-index.invariant ∙ ap (λ (n : ℕ). told_size (moves_below c.args.row_depth (special_of c.args.nfa.now) (states_of c.args.nfa.now) n)) all }
