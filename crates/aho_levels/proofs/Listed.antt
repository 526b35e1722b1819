-- Lists that stand in one vector, each behind its length.
use Rattle.std.proofs.Common.{◌≡◌, ◌∙◌, ℕ, ◌+◌, ◌-◌, ◌<◌, List, [], ◌∷◌, ◌++◌, ap, append_assoc, arith, drop, get_or, length, set, sym, take}
use Rattle.std.proofs.lemmas.List.{drop-append-le, get_or_append_left, get_or_at, length-append, length-drop, set_at, take-append-le, take_all}
use Rattle.std.proofs.Math.Seq.{drop-append-add}
use Rattle.aho_levels.specs.Layout.{list_at_place}

-- a list stays where it is when more comes behind
pub list-kept : (lists more : List ℕ) (place : ℕ) → place + get_or lists place 0 < length lists → list_at_place (lists ++ more) place ≡ list_at_place lists place
list-kept lists more place within =
    ap (λ (n : ℕ). take n (drop (place + 1) (lists ++ more))) (get_or_append_left lists more 0 place (omega (arith, within)))
    ∙ ap (λ (l : List ℕ). take (get_or lists place 0) l) (drop-append-le (place + 1) lists more (omega (arith, within)))
    ∙ take-append-le (get_or lists place 0) (drop (place + 1) lists) more (omega (arith, within, length-drop (place + 1) lists))

-- the length of a list is written before it, once it stands there
pub list-written : (old numbers part grown lists : List ℕ) (place count : ℕ) → grown ≡ (old ++ 0 ∷ []) ++ numbers → lists ≡ grown ++ part → place ≡ length old → count ≡ length lists - 1 - place
    → set lists place count ≡ old ++ length (numbers ++ part) ∷ (numbers ++ part)
list-written old numbers part grown lists place count grown_is lists_is place_is count_is =
    ap (λ (l : List ℕ). set l place count) whole
    ∙ set_at old 0 (numbers ++ part) count place (sym place_is)
    ∙ ap (λ (n : ℕ). old ++ n ∷ (numbers ++ part)) size
  where
    whole : lists ≡ old ++ 0 ∷ (numbers ++ part)
    whole =
        lists_is
        ∙ ap (λ (l : List ℕ). l ++ part) (grown_is ∙ append_assoc old (0 ∷ []) numbers)
        ∙ append_assoc old (0 ∷ numbers) part

    size : count ≡ length (numbers ++ part)
    size = omega (arith, count_is, place_is, ap (λ (l : List ℕ). length l) whole, length-append old (0 ∷ (numbers ++ part)))

-- a list that is added is read at its place
pub list-added : (old list new : List ℕ) (place : ℕ) → place ≡ length old → new ≡ old ++ length list ∷ list → (list_at_place new place ≡ list) × (place + get_or new place 0 < length new)
list-added old list new place place_is new_is = (
  ap (λ (n : ℕ). take n (drop (place + 1) new)) count ∙ ap (take (length list)) behind ∙ take_all (length list) list (omega arith),
  omega (arith, count, place_is, ap (λ (l : List ℕ). length l) new_is, length-append old (length list ∷ list)),
)
  where
    count : get_or new place 0 ≡ length list
    count = ap (λ (l : List ℕ). get_or l place 0) new_is ∙ get_or_at old (length list) list 0 place (sym place_is)

    behind : drop (place + 1) new ≡ list
    behind = ap (λ (n : ℕ). drop (n + 1) new) place_is ∙ ap (drop (length old + 1)) new_is ∙ drop-append-add old (length list ∷ list) 1
