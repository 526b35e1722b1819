-- Each node has a state.
use Rattle.std.proofs.Common.{◌≡◌, ◌+◌, ◌-◌, ◌<◌, ℕ, true, List, [], ◌∷◌, ◌++◌, inl, inr, length, take, drop, get_or, map, subst, sym, ◌∙◌, ap, arith}
use Rattle.std.specs.Prelude.{Option, Some, None}
use Rattle.std.specs.List.{All}
use Rattle.std.proofs.lemmas.Bool.{cases_lt}
use Rattle.std.proofs.lemmas.List.{append-nil, append_assoc, get_or-map, get_or_past, length-map}
use Rattle.std.proofs.Math.Seq.{take-append_seam}
use Rattle.std.proofs.lemmas.List.Elements.{All-drop, All-head, All-nil, All-tail, All-take}
use Rattle.std.proofs.lemmas.List.FromFn.{get_or-range_with_len, length-range_with_len}
use Rattle.std.proofs.lemmas.List.Sorted.{Contains-permutation}
use Rattle.aho_core.specs.Bytes.{folded}
use Rattle.aho_core.specs.Patterns.{Patterns, numbers}
use Rattle.aho_core.specs.Trie.{is_node, pattern_word}
use Rattle.aho_laws.proofs.Kept.{is_node-front, is_node-true}
use Rattle.aho_levels.specs.Building.{AreItems, AreOfBytes}
use Rattle.aho_levels.specs.Layout.{StateTables}
use Rattle.aho_levels.specs.Meaning.{AreLevels, IsFolded, named_word}
use Rattle.aho_levels.specs.Reading.{to-child}
use Rattle.aho_levels.specs.declared.order.Item.{Item}

module _ (p : Patterns) (names : List (Option (List ℕ))) (t : StateTables) (levels : AreLevels p names t) where
  -- a state with a word is one
  pub named-below : (i : ℕ) (word : List ℕ) → named_word names i ≡ Some word → i < length names
  named-below i word named =
      elim (cases_lt i (length names)) [
        | inl less ↦ less
        | inr past ↦ (let clash : None ≡ Some word = sym (get_or_past names i None past) ∙ named in cc)
      ]

  -- from the state of the first bytes on
  reached-from : (v u : List ℕ) (i : ℕ) → named_word names i ≡ Some u → is_node p (u ++ v) ≡ true → All (IsFolded p) v → (j : ℕ) × (named_word names j ≡ Some (u ++ v))
  reached-from [] u i named node all = (i, named ∙ ap Some (sym (append-nil u)))
  reached-from (x ∷ v) u i named node all =
      let is : IsFolded p x = All-head (IsFolded p) x v all in
      let parts : (u ++ x ∷ []) ++ v ≡ u ++ x ∷ v = append_assoc u (x ∷ []) v in
      let whole : is_node p ((u ++ x ∷ []) ++ v) ≡ true = ap (is_node p) parts ∙ node in
      let next : is_node p (u ++ folded p x ∷ []) ≡ true = ap (λ (y : ℕ). is_node p (u ++ y ∷ [])) is.1 ∙ is_node-front p (u ++ x ∷ []) v whole in
      let child = to-child p names t levels i u x named is.0 next in
      let called : named_word names child.0 ≡ Some (u ++ x ∷ []) = child.2 ∙ ap (λ (y : ℕ). Some (u ++ y ∷ [])) is.1 in
      let further = reached-from v (u ++ x ∷ []) child.0 called whole (All-tail (IsFolded p) x v all) in
      (further.0, further.1 ∙ ap Some parts)

  pub reached : (word : List ℕ) → is_node p word ≡ true → All (IsFolded p) word → (i : ℕ) × (named_word names i ≡ Some word)
  reached word node all = reached-from word [] 1 levels.root node all

-- a node of patterns that are of bytes is of bytes
pub node-folded : (p : Patterns) (word : List ℕ) → AreOfBytes p → is_node p word ≡ true → All (IsFolded p) word
node-folded p [] of node = All-nil (IsFolded p)
node-folded p (x ∷ word) of node =
    let kept = is_node-true p x word node in
    let whole : All (IsFolded p) (x ∷ word ++ kept.3.0) = subst (All (IsFolded p)) (sym kept.3.1) (of kept.0 kept.1) in
    subst (All (IsFolded p)) (take-append_seam (x ∷ word) kept.3.0) (All-take (IsFolded p) (length (x ∷ word)) (x ∷ word ++ kept.3.0) whole)

-- the patterns of items are
pub items-folded : (p : Patterns) (root : ℕ) (text : List ℕ) (items : List Item) → AreItems p root text items → AreOfBytes p
items-folded p root text items is number less =
    let n : ℕ = length p.words in
    let at : get_or (numbers p) number number ≡ number = get_or-range_with_len 0 n number number less ∙ (let same : 0 + number ≡ number = omega arith in same) in
    let there = Contains-permutation (numbers p) (map (λ (item : Item). item.number) items) number is.all (number, omega (arith, less, length-range_with_len 0 n), at) in
    let none : Item = record { state = 0; at = 0; end = 0; number = number } in
    let place : there.0 < length items = omega (arith, there.1, length-map items (λ (item : Item). item.number)) in
    let item : Item = get_or items there.0 none in
    let numbered : item.number ≡ number = sym (get_or-map (λ (it : Item). it.number) items there.0 none number place) ∙ there.2 in
    let under = (is.placed there.0 none place).1 in
    let read : All (IsFolded p) (take (item.end - item.at) (drop item.at text)) =
    All-take (IsFolded p) (item.end - item.at) (drop item.at text) (All-drop (IsFolded p) item.at text is.folded) in
    subst (All (IsFolded p)) (under.bytes ∙ ap (pattern_word p) numbered) read
