-- The states of a trie by words: each but the root is the child of the state of its word without the last byte.
use Rattle.std.proofs.Common.{◌≡◌, ◌≢◌, ◌⊎◌, ◌∙◌, ℕ, ◌+◌, ◌<◌, ◌≤◌, Bool, true, inl, inr, List, [], ◌∷◌, ◌++◌, ap, arith, get_or, length, refl, sym}
use Rattle.std.specs.Prelude.{Option, Some, None}
use Rattle.std.specs.List.{All}
use Rattle.std.proofs.lemmas.Bool.{cases_eq, cases_lt, MatchBool-at_true}
use Rattle.std.proofs.lemmas.List.{append-nil, append_assoc, get_or_past}
use Rattle.std.proofs.lemmas.List.Elements.{All-cons, All-head, All-nil, All-tail}
use Rattle.aho_core.specs.Bytes.{folded, folded_by}
use Rattle.aho_core.specs.Patterns.{Patterns}
use Rattle.aho_core.specs.Trie.{is_node}
use Rattle.aho_laws.proofs.Kept.{is_node-front}
use Rattle.aho_levels.specs.Building.{AreBare, AreOfTrie}
use Rattle.aho_levels.specs.Layout.{StateTables, child_at, depth_at, first_child}
use Rattle.aho_levels.specs.Linking.{AreInLevels}
use Rattle.aho_levels.specs.Meaning.{AreLevels, ComesBefore, IsFolded, named_word}
use Rattle.aho_levels.specs.Reading.{unique}
use Rattle.aho_levels.specs.declared.trie.Own.{Own}
use Rattle.aho_levels.proofs.Ranges.{in-range}

-- a word that is not empty, by its last byte
pub last-of : (x : ℕ) (w : List ℕ) → (u : List ℕ) × ((y : ℕ) × (x ∷ w ≡ u ++ y ∷ []))
last-of x [] = ([], (x, refl))
last-of x (y ∷ w) = let rest = last-of y w in (x ∷ rest.0, (rest.1.0, ap (λ (l : List ℕ). x ∷ l) rest.1.1))

-- what holds of each byte of a longer word holds of each of its front, and of the byte between
all-front : (P : ℕ → Type 0) (u v : List ℕ) → All P (u ++ v) → All P u
all-front P [] v all = All-nil P
all-front P (x ∷ u) v all = All-cons P x u (All-head P x (u ++ v) all) (all-front P u v (All-tail P x (u ++ v) all))

all-between : (P : ℕ → Type 0) (u : List ℕ) (x : ℕ) (v : List ℕ) → All P (u ++ x ∷ v) → P x
all-between P [] x v all = All-head P x v all
all-between P (y ∷ u) x v all = all-between P u x v (All-tail P y (u ++ x ∷ v) all)

above-short : (u w : List ℕ) → ComesBefore u w → length u ≤ length w
above-short u w (inl shorter) = omega (arith, shorter)
above-short u w (inr same) = omega (arith, same.0)

-- the state above one, and the byte between
pub record HasParent (p : Patterns) (names : List (Option (List ℕ))) (t : StateTables) (child : ℕ) (word : List ℕ) : Type 0 where
  pub parent : ℕ
  pub front : List ℕ
  pub byte : ℕ
  pub named : named_word names parent ≡ Some front
  pub word_is : word ≡ front ++ byte ∷ []
  pub folded : IsFolded p byte
  pub told : child_at t parent byte ≡ Some child

module _ (p : Patterns) (names : List (Option (List ℕ))) (t : StateTables) (levels : AreLevels p names t) where
  -- the child by a byte as it is compared
  pub child-of : (s x : ℕ) (u : List ℕ) → named_word names s ≡ Some u → IsFolded p x → is_node p (u ++ x ∷ []) ≡ true → (child : ℕ) × (child_at t s x ≡ Some child) × (named_word names child ≡ Some (u ++ x ∷ []))
  child-of s x u named is node =
      let same : is_node p (u ++ folded p x ∷ []) ≡ true = ap (λ (y : ℕ). is_node p (u ++ y ∷ [])) is.1 ∙ node in
      let to =
      MatchBool-at_true
      ((child : ℕ) × (child_at t s (folded p x) ≡ Some child) × (named_word names child ≡ Some (u ++ folded p x ∷ [])))
      (child_at t s (folded p x) ≡ None) same (levels.children s u x named is.0) in
      (to.0, ap (child_at t s) (sym is.1) ∙ to.1, to.2 ∙ ap (λ (y : ℕ). Some (u ++ y ∷ [])) is.1)

  -- each node has a state
  node-state : (v : List ℕ) (s : ℕ) (u : List ℕ) → named_word names s ≡ Some u → is_node p (u ++ v) ≡ true → All (IsFolded p) v → (q : ℕ) × (named_word names q ≡ Some (u ++ v))
  node-state [] s u named node all = (s, named ∙ ap (λ (l : List ℕ). Some l) (let same : u ≡ u ++ [] = sym (append-nil u) in same))
  node-state (x ∷ v) s u named node all =
      let parts : (u ++ x ∷ []) ++ v ≡ u ++ x ∷ v = append_assoc u (x ∷ []) v in
      let whole : is_node p ((u ++ x ∷ []) ++ v) ≡ true = ap (is_node p) parts ∙ node in
      let child = child-of s x u named (All-head (IsFolded p) x v all) (is_node-front p (u ++ x ∷ []) v whole) in
      let further = node-state v child.0 (u ++ x ∷ []) child.2 whole (All-tail (IsFolded p) x v all) in
      (further.0, further.1 ∙ ap (λ (l : List ℕ). Some l) parts)

  -- so each state but the root is a child
  parent-by : (child x : ℕ) (word u : List ℕ) → named_word names child ≡ Some word → word ≡ u ++ x ∷ [] → HasParent p names t child word
  parent-by child x word u named word_is =
      let named_so : named_word names child ≡ Some (u ++ x ∷ []) = named ∙ ap (λ (l : List ℕ). Some l) word_is in
      let node = levels.nodes child (u ++ x ∷ []) named_so in
      let all = levels.folded child (u ++ x ∷ []) named_so in
      let above = node-state u 1 [] levels.root (is_node-front p u (x ∷ []) node) (all-front (IsFolded p) u (x ∷ []) all) in
      let is : IsFolded p x = all-between (IsFolded p) u x [] all in
      let to = child-of above.0 x u above.1 is node in
      record {
        parent = above.0;
        front = u;
        byte = x;
        named = above.1;
        word_is = word_is;
        folded = is;
        told = to.1 ∙ ap (λ (n : ℕ). Some n) (unique p names t levels to.0 child (u ++ x ∷ []) to.2 named_so);
      }

  pub parent-of : (child : ℕ) (word : List ℕ) → named_word names child ≡ Some word → word ≢ [] → HasParent p names t child word
  parent-of child [] named some = absurd (some refl)
  parent-of child (y ∷ w) named some = let last = last-of y w in parent-by child last.1.0 (y ∷ w) last.0 named last.1.1

  pub state-within : (i : ℕ) (word : List ℕ) → named_word names i ≡ Some word → i < length names
  state-within i word named =
      elim (cases_lt i (length names)) [
        | inl less ↦ less
        | inr past ↦ (let clash : None ≡ Some word = sym (get_or_past names i None past) ∙ named in cc)
      ]

  -- the word of a state behind the root
  pub word-behind : (i : ℕ) → 2 ≤ i → i < length t.bytes → (word : List ℕ) × (named_word names i ≡ Some word) × (word ≢ [])
  word-behind i from to =
      let at = levels.complete i (omega (arith, to, levels.sized)) (λ e. omega (arith, e, from)) in
      (at.0, at.1, λ none. omega (arith, unique p names t levels i 1 [] (at.1 ∙ ap (λ (l : List ℕ). Some l) none) levels.root, from))

-- so the states stand level by level, by numbers alone
pub in-levels : (p : Patterns) (names : List (Option (List ℕ))) (owns : List Own) (t : StateTables) → AreOfTrie p names owns t → AreBare t → AreInLevels t
in-levels p names owns t of bare = record {
  begins = bare.begins;
  ends = bare.ends;
  deeper = λ i j less within. deeper i j less within (cases_eq i 0);
  folded = λ i from to.
      let word = word-behind p names t of.levels i from to in
      let is = parent-of p names t of.levels i word.0 word.1 word.2 in
      let at : get_or t.bytes i 0 ≡ is.byte = (byte-at i is).2 in
      ap (folded_by t.ignore_case) at ∙ ap (λ (b : Bool). folded_by b is.byte) of.case_is ∙ is.folded.1 ∙ sym at;
  bytes = λ i from to.
      let word = word-behind p names t of.levels i from to in
      let is = parent-of p names t of.levels i word.0 word.1 word.2 in
      omega (arith, (byte-at i is).2, is.folded.0);
}
  where
    deeper : (i j : ℕ) → i < j → j < length t.bytes → (i ≡ 0) ⊎ (i ≢ 0) → depth_at t i ≤ depth_at t j
    deeper i j less within (inl dead) = omega (arith, ap (depth_at t) dead, bare.children.dead_depth)
    deeper i j less within (inr some) =
        let u = of.levels.complete i (omega (arith, less, within, of.levels.sized)) some in
        let w = of.levels.complete j (omega (arith, within, of.levels.sized)) (λ e. omega (arith, e, less)) in
        omega (arith, of.levels.depths i u.0 u.1, of.levels.depths j w.0 w.1, above-short u.0 w.0 (of.levels.ordered i j u.0 w.0 less u.1 w.1))

    byte-at : (i : ℕ) {word : List ℕ} (is : HasParent p names t i word) → (first_child t is.parent ≤ i) × (i < first_child t (is.parent + 1)) × (get_or t.bytes i 0 ≡ is.byte)
    byte-at i is = in-range t bare.children is.parent is.byte i (omega (arith, state-within p names t of.levels is.parent is.front is.named, of.levels.sized)) is.told
