-- Lists that stand in one vector, each behind its length.
use Rattle.std.proofs.Common.{◌≡◌, ℕ, ◌+◌, ◌<◌, ◌≤◌, List, [], ◌∷◌, ◌++◌, length, get_or, take, drop, sym, ap, ◌∙◌, arith}
use Rattle.std.proofs.Math.Seq.{drop-append-add, drop-append_seam, get_or-append_seam, take-append_seam}
use Rattle.std.proofs.lemmas.List.{append-nil, append_assoc, length-append}
use Rattle.aho_hybrid.specs.Filled.{IsListAt, IsPartAt}
use Rattle.aho_hybrid.specs.Layout.{list_from}

-- a list stays where it is when more comes behind
pub list-grows : (lists more : List ℕ) (place : ℕ) (list : List ℕ) → IsListAt lists place list → IsListAt (lists ++ more) place list
list-grows lists more place list at = record {
  before = at.before;
  after = at.after ++ more;
  whole = ap (λ (l : List ℕ). l ++ more) at.whole ∙ append_assoc at.before (length list ∷ (list ++ at.after)) more ∙ ap (λ (l : List ℕ). at.before ++ length list ∷ l) (append_assoc list at.after more);
  place_is = at.place_is;
}

-- a list that is added stands at the end
pub list-placed : (old new list : List ℕ) (place : ℕ) → place ≡ length old → new ≡ old ++ length list ∷ list → IsListAt new place list
list-placed old new list place place_is new_is = record {
  before = old;
  after = [];
  whole = new_is ∙ ap (λ (l : List ℕ). old ++ length list ∷ l) (sym (append-nil list));
  place_is = sym place_is;
}

module _ (lists : List ℕ) (place : ℕ) (list : List ℕ) (at : IsListAt lists place list) where
  -- what is read there
  pub length-at : get_or lists place 0 ≡ length list
  length-at =
      ap (λ (l : List ℕ). get_or l place 0) at.whole
      ∙ ap (λ (n : ℕ). get_or (at.before ++ length list ∷ (list ++ at.after)) n 0) (sym at.place_is)
      ∙ get_or-append_seam at.before (length list) (list ++ at.after) 0

  pub list-at : list_from lists place ≡ list
  list-at =
      ap (λ (n : ℕ). take n (drop (place + 1) lists)) length-at
      ∙ ap (λ (l : List ℕ). take (length list) (drop (place + 1) l)) at.whole
      ∙ ap (λ (n : ℕ). take (length list) (drop (n + 1) (at.before ++ length list ∷ (list ++ at.after)))) (sym at.place_is)
      ∙ ap (take (length list)) (drop-append-add at.before (length list ∷ (list ++ at.after)) 1)
      ∙ take-append_seam list at.after

  pub within-at : place + get_or lists place 0 < length lists
  within-at =
      omega (arith, length-at, at.place_is, ap (λ (l : List ℕ). length l) at.whole, length-append at.before (length list ∷ (list ++ at.after)), length-append list at.after)

-- ---- words that stand in one vector, without a length

pub part-grows : (words more : List ℕ) (place : ℕ) (part : List ℕ) → IsPartAt words place part → IsPartAt (words ++ more) place part
part-grows words more place part at = record {
  before = at.before;
  after = at.after ++ more;
  whole = ap (λ (l : List ℕ). l ++ more) at.whole ∙ append_assoc at.before (part ++ at.after) more ∙ ap (λ (l : List ℕ). at.before ++ l) (append_assoc part at.after more);
  place_is = at.place_is;
}

module _ (words : List ℕ) (place : ℕ) (part : List ℕ) (at : IsPartAt words place part) where
  -- what is read there
  pub part-at : take (length part) (drop place words) ≡ part
  part-at =
      ap (λ (l : List ℕ). take (length part) (drop place l)) at.whole
      ∙ ap (λ (n : ℕ). take (length part) (drop n (at.before ++ (part ++ at.after)))) (sym at.place_is)
      ∙ ap (take (length part)) (drop-append_seam at.before (part ++ at.after))
      ∙ take-append_seam part at.after

  pub part-within : place + length part ≤ length words
  part-within =
      omega (arith, at.place_is, ap (λ (l : List ℕ). length l) at.whole, length-append at.before (part ++ at.after), length-append part at.after)
