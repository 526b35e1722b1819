use Rattle.std.proofs.Common.{◌≡◌, ◌∙◌, ℕ, ◌+◌, ◌<◌, List, [], ◌∷◌, ◌++◌, ap, append_assoc, arith, drop, get_or, length, sym, take}
use Rattle.std.proofs.lemmas.List.{get_or-drop, get_or_append_left, get_or_read, length-append, length-drop, take_more}
use Rattle.aho_levels.proofs.lists.push_list.Goals as goal

pub loop-index-preserved : goal.loop-index-preserved
loop-index-preserved c =
    let old = c.args.lists.now.items in
    let place = c.args.place in
    let index : ℕ = c.loop-index.index in
    let rest = drop (place + 1) old in
    let from = c.as_usize-from.result + 1 + index in
    let pattern = c.index-pattern.result.now in
    let at : from ≡ place + 1 + index = omega (arith, c.as_usize-from.ensures.value) in
    let first : c.index.result.now ≡ get_or old place 0 =
    get_or_read old c.as_usize.result c.index.result.now (omega (arith, c.as_usize.ensures.value, c.requires.within)) c.index.ensures 0
    ∙ ap (λ (n : ℕ). get_or old n 0) c.as_usize.ensures.value in
    let within : place + 1 + index < length old = omega (arith, c.loop-index-test.true, c.loop-index.auto.index-end, c.as_usize-count.ensures.value, first, c.requires.within) in
    let read : pattern ≡ get_or old (place + 1 + index) 0 =
    get_or_read c.loop-index.lists.items from pattern
    (omega (arith, at, within, ap (λ (l : List ℕ). length l) c.loop-index.invariant, length-append old (take index rest))) c.index-pattern.ensures 0
    ∙ ap (λ (l : List ℕ). get_or l from 0) c.loop-index.invariant
    ∙ ap (λ (n : ℕ). get_or (old ++ take index rest) n 0) at
    ∙ get_or_append_left old (take index rest) 0 (place + 1 + index) within in
    c.in_ok-push.ensures.pushed
    ∙ ap (λ (l : List ℕ). l ++ pattern ∷ []) c.loop-index.invariant
    ∙ append_assoc old (take index rest) (pattern ∷ [])
    ∙ ap (λ (l : List ℕ). old ++ l)
    (ap (λ (n : ℕ). take index rest ++ n ∷ []) (read ∙ sym (get_or-drop (place + 1) old index 0))
    ∙ sym (take_more rest index 0 (omega (arith, within, length-drop (place + 1) old))))
