use Rattle.std.proofs.Common.{◌∙◌, ◌++◌, ◌∷◌, [], ℕ, List, ap, sym}
use Rattle.std.proofs.lemmas.List.{map-append}
use Rattle.std.specs.List.{range_with_len}
use Rattle.aho_levels.specs.Sorting.{key_numbers}
use Rattle.aho_levels.specs.declared.order.Key.{Key}
use Rattle.aho_levels.proofs.Adding.{range-next}
use Rattle.aho_levels.proofs.order.keys_of.Goals as goal

pub loop-index-preserved : goal.loop-index-preserved
loop-index-preserved c =
    ap key_numbers c.in_ok-push_key.ensures.pushed
    ∙ map-append (λ (key : Key). key.number) c.loop-index.keys.items (record { head = c.head_of.result; number = c.new_unchecked.result } ∷ [])
    ∙ ap (λ (l : List ℕ). l ++ c.new_unchecked.result ∷ []) c.loop-index.invariant
    ∙ ap (λ (n : ℕ). range_with_len 0 c.loop-index.index ++ n ∷ []) c.new_unchecked.ensures.value
    ∙ sym (range-next c.loop-index.index)
