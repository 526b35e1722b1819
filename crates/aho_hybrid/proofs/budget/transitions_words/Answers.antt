use Rattle.std.proofs.Common.{◌≡◌, ◌≤◌, ◌+◌, ◌-◌, ◌^◌, ◌∙◌, ℕ, List, [], ◌∷◌, ◌++◌, length, take, sym, ap, arith}
use Rattle.std.proofs.lemmas.Iterator.Consumers.{YieldsList-from_first, YieldsList-turn, YieldsList-end}
use Rattle.std.proofs.lemmas.List.{length_push, take_all, take_more}
use Rattle.std.proofs.lemmas.List.Sums.{sum_by_push}
use Rattle.std.specs.List.{sum_by}
use Rattle.std.specs.Prelude.{min}
use Rattle.aho_hybrid.specs.Filled.{told_size, transition_words}
use Rattle.aho_hybrid.proofs.Sizes.{told-add, told-small}
use Rattle.aho_hybrid.proofs.budget.transitions_words.Goals as goal

pub loop-next-init : goal.loop-next-init
loop-next-init c = sym (told-small 0 (omega arith))

pub loop-next-preserved : goal.loop-next-preserved
loop-next-preserved c =
    let all : List (ℕ × ℕ) = c.args.transitions in
    let start : c.into_iter-next-iterator.result ≡ all = c.into_iter-next-iterator.ensures.into_iter_gives in
    let turn = YieldsList-turn (YieldsList-from_first (λ (x : ℕ × ℕ). x) (λ (rest : List (ℕ × ℕ)). rest) {s = c.into_iter-next-iterator.result} all start) c.loop-next.yielded _ c.loop-next.yielded_by _ _ (c.in-Some.field-0-0, c.in-Some.next) c.in-Some.is c.next.ensures.steps in
    let count = length c.loop-next.yielded in
    let one : ℕ × ℕ = (c.in-Some.field-0-0, c.in-Some.next) in
    let so_far : ℕ = sum_by transition_words (take count all) in
    let words : ℕ = transition_words one in
    c.saturating_add-words.ensures
    ∙ ap (λ (n : ℕ). min (n + c.transition_words.result) (2 ^ 64 - 1)) c.loop-next.invariant
    ∙ ap (λ (n : ℕ). min (told_size so_far + n) (2 ^ 64 - 1)) (c.transition_words.ensures.words ∙ sym (told-small words (omega arith)))
    ∙ told-add so_far words
    ∙ ap told_size
    (sym (sum_by_push transition_words (take count all) one)
    ∙ ap (λ (x : ℕ × ℕ). sum_by transition_words (take count all ++ x ∷ [])) turn.1
    ∙ ap (sum_by transition_words) (sym (take_more all count one turn.0))
    ∙ ap (λ (n : ℕ). sum_by transition_words (take n all)) (sym (length_push c.loop-next.yielded one)))

pub returns : goal.returns
returns c =
    let all : List (ℕ × ℕ) = c.args.transitions in
    let start : c.into_iter-next-iterator.result ≡ all = c.into_iter-next-iterator.ensures.into_iter_gives in
    let end = YieldsList-end (YieldsList-from_first (λ (x : ℕ × ℕ). x) (λ (rest : List (ℕ × ℕ)). rest) {s = c.into_iter-next-iterator.result} all start) c.loop-next.yielded _ c.loop-next.yielded_by _ _ c.in-None.is c.next.ensures.steps in
    let past : length all ≤ length c.loop-next.yielded = omega (arith, end.1) in
    record { words = c.loop-next.invariant ∙ ap (λ (l : List (ℕ × ℕ)). told_size (sum_by transition_words l)) (take_all (length c.loop-next.yielded) all past) }
