-- The trie, once no pattern goes on.
use Rattle.std.proofs.Common.{◌≡◌, ◌≢◌, ◌∙◌, sym, refl, ap, subst, inl, inr, ℕ, zero, suc, ◌+◌, ◌-◌, ◌<◌, ◌≤◌, Bool, true, false, List, [], ◌∷◌, ◌++◌, length, drop, get_or, arith, nat_eq}
use Rattle.std.specs.Prelude.{MatchBool, Option, Some, None}
use Rattle.std.specs.List.{All, Contains}
use Rattle.std.proofs.lemmas.Bool.{cases_Bool, cases_eq, cases_lt, cond-true, cond-false, ne_eqb, eq-eqb}
use Rattle.std.proofs.lemmas.List.{get_or-drop, get_or-take, get_or_default, get_or_past, length-drop, length-take-le, length_push, same_from_push}
use Rattle.aho_core.specs.Bytes.{folded}
use Rattle.aho_core.specs.Patterns.{Patterns}
use Rattle.aho_core.specs.Trie.{is_kept, is_node, pattern_word}
use Rattle.aho_laws.proofs.Begins.{begins_length}
use Rattle.aho_laws.proofs.Kept.{is_node-true}
use Rattle.aho_levels.proofs.EndLists.{own-lists}
use Rattle.aho_levels.proofs.Settling.{one-state}
use Rattle.aho_levels.specs.Building.{AreBare, AreOwns, IsGrownTrie, layout_of}
use Rattle.aho_levels.specs.Growing.{AreEnds, IsChildIn, IsClosedTree, IsLevel, IsOwnOf, IsTree, begins_in, byte_in, own_numbers}
use Rattle.aho_levels.specs.Layout.{AreRising, HasChildren, StateTables, child_bytes, child_at, depth_at, first_child, position_of}
use Rattle.aho_levels.specs.Meaning.{AreLevels, ComesBefore, IsFolded, IsLess, named_word}
use Rattle.aho_levels.specs.declared.tree.Tree.{Tree}
use Rattle.aho_levels.specs.declared.trie.Ends.{Ends}
use Rattle.aho_levels.specs.declared.trie.Trie.{Trie}

-- what is told of a byte's place
record StandsAt (xs : List ℕ) (byte at place : ℕ) : Type 0 where
  from : at ≤ place
  within : place < at + length xs
  is_it : get_or xs (place - at) 0 ≡ byte

stands-at : (xs : List ℕ) (byte at place : ℕ) → position_of xs byte at ≡ Some place → StandsAt xs byte at place
stands-at [] byte at place e = (let clash : None ≡ Some place = e in cc)
stands-at (x ∷ xs) byte at place e =
    elim (cases_eq x byte) [
      | inl same ↦
          (let found : Some at ≡ Some place = sym (cond-true (nat_eq x byte) (Some at) (position_of xs byte (at + 1)) (eq-eqb x byte same)) ∙ e in
          let here : at ≡ place = cc in
          record {
            from = omega (arith, here);
            within = omega (arith, here);
            is_it = ap (λ (n : ℕ). get_or (x ∷ xs) n 0) (let none : place - at ≡ 0 = omega (arith, here) in none) ∙ same;
          })
      | inr other ↦
          (let t = stands-at xs byte (at + 1) place (sym (cond-false (nat_eq x byte) (Some at) (position_of xs byte (at + 1)) (ne_eqb x byte other)) ∙ e) in
          record {
            from = omega (arith, t.from);
            within = omega (arith, t.within);
            is_it = ap (λ (n : ℕ). get_or (x ∷ xs) n 0) (let one_on : place - at ≡ suc (place - (at + 1)) = omega (arith, t.from) in one_on) ∙ t.is_it;
          })
    ]

stands-nowhere : (xs : List ℕ) (byte at : ℕ) → position_of xs byte at ≡ None → (k : ℕ) → k < length xs → get_or xs k 0 ≢ byte
stands-nowhere [] byte at e k lt = absurd (omega (arith, lt))
stands-nowhere (x ∷ xs) byte at e k lt =
    elim (cases_eq x byte) [
      | inl same ↦ (let clash : Some at ≡ None = sym (cond-true (nat_eq x byte) (Some at) (position_of xs byte (at + 1)) (eq-eqb x byte same)) ∙ e in cc)
      | inr other ↦ by k lt (stands-nowhere xs byte (at + 1) (sym (cond-false (nat_eq x byte) (Some at) (position_of xs byte (at + 1)) (ne_eqb x byte other)) ∙ e)) other
    ]
  where
    by : (n : ℕ) → n < length (x ∷ xs) → ((m : ℕ) → m < length xs → get_or xs m 0 ≢ byte) → x ≢ byte → get_or (x ∷ xs) n 0 ≢ byte
    by zero less rest other = other
    by (suc n) less rest other = rest n (omega (arith, less))

-- a fact at a test that is known
match-true : (b : Bool) (P Q : Type 0) → b ≡ true → P → MatchBool b P Q
match-true true P Q is fact = fact
match-true false P Q is fact = cc

match-false : (b : Bool) (P Q : Type 0) → b ≡ false → Q → MatchBool b P Q
match-false true P Q is fact = cc
match-false false P Q is fact = fact

-- of two words that differ by their last byte alone the lesser byte's comes first
last-less : (u : List ℕ) (x y : ℕ) → IsLess (u ++ x ∷ []) (u ++ y ∷ []) → x < y
last-less [] x y (inl less) = less
last-less [] x y (inr same) = absurd same.1
last-less (a ∷ u) x y (inl less) = absurd (omega (arith, less))
last-less (a ∷ u) x y (inr same) = last-less u x y same.1

last-above : (u : List ℕ) (x y : ℕ) → ComesBefore (u ++ x ∷ []) (u ++ y ∷ []) → x < y
last-above u x y (inl less) = absurd (omega (arith, less, length_push u x, length_push u y))
last-above u x y (inr same) = last-less u x y same.1

module _ (p : Patterns) (names : List (Option (List ℕ))) (tree : Tree) (trie : Trie) (ends : Ends) (is : IsTree names tree) (closed : IsClosedTree tree ends trie) where
  abbrev t : StateTables
  t = layout_of p.ignore_case trie

  count : length trie.bytes.items ≡ length tree.bytes.items
  count = ap length closed.bytes

  first-is : (i : ℕ) → i ≤ length tree.bytes.items → first_child t i ≡ begins_in tree i
  first-is i le = get_or_default trie.firsts.items i 0 (length tree.bytes.items) (omega (arith, le, closed.begun)) ∙ closed.firsts i

  -- the bytes of a state's children
  bytes-length : (i : ℕ) → i < length tree.bytes.items → first_child t i + length (child_bytes t i) ≡ begins_in tree (i + 1)
  bytes-length i lt =
      let low = first-is i (omega (arith, lt)) in
      let high = first-is (i + 1) (omega (arith, lt)) in
      let size = length-take-le (first_child t (i + 1) - first_child t i) (drop (first_child t i) trie.bytes.items) (omega (arith, length-drop (first_child t i) trie.bytes.items, high, is.within (i + 1), count)) in
      omega (arith, size, low, high, is.rising i (i + 1) (omega arith))

  byte-of : (i k : ℕ) → i < length tree.bytes.items → k < length (child_bytes t i) → get_or (child_bytes t i) k 0 ≡ byte_in tree (first_child t i + k)
  byte-of i k lt within =
      let low = first-is i (omega (arith, lt)) in
      let high = first-is (i + 1) (omega (arith, lt)) in
      get_or-take (first_child t (i + 1) - first_child t i) (drop (first_child t i) trie.bytes.items) k 0 (omega (arith, within, bytes-length i lt, high))
      ∙ get_or-drop (first_child t i) trie.bytes.items k 0
      ∙ ap (λ (xs : List ℕ). get_or xs (first_child t i + k) 0) closed.bytes

  -- a child that is told is one, with this byte
  is-child : (i byte child : ℕ) → i < length tree.bytes.items → child_at t i byte ≡ Some child → IsChildIn tree i child × (byte_in tree child ≡ byte)
  is-child i byte child lt told =
      let stands = stands-at (child_bytes t i) byte (first_child t i) child told in
      let low = first-is i (omega (arith, lt)) in
      let size = bytes-length i lt in
      let whole : first_child t i + (child - first_child t i) ≡ child = omega (arith, stands.from) in (
        (omega (arith, stands.from, low), omega (arith, stands.within, size)),
        ap (byte_in tree) (sym whole) ∙ sym (byte-of i (child - first_child t i) lt (omega (arith, stands.from, stands.within))) ∙ stands.is_it,
      )

  no-child : (i byte : ℕ) → i < length tree.bytes.items → ((child : ℕ) → IsChildIn tree i child → byte_in tree child ≡ byte → ⊥) → child_at t i byte ≡ None
  no-child i byte lt none = by (child_at t i byte) refl
    where
      by : (o : Option ℕ) → child_at t i byte ≡ o → child_at t i byte ≡ None
      by None told = told
      by (Some child) told = let c = is-child i byte child lt told in absurd (none child c.0 c.1)

  some-child : (i byte child : ℕ) → i < length tree.bytes.items → IsChildIn tree i child → byte_in tree child ≡ byte → (other : ℕ) × (child_at t i byte ≡ Some other)
  some-child i byte child lt c is_it = by (child_at t i byte) refl
    where
      by : (o : Option ℕ) → child_at t i byte ≡ o → (other : ℕ) × (child_at t i byte ≡ Some other)
      by (Some other) told = (other, told)
      by None told =
          let low = first-is i (omega (arith, lt)) in
          let size = bytes-length i lt in
          let whole : first_child t i + (child - first_child t i) ≡ child = omega (arith, c.0, low) in
          let inside : child - first_child t i < length (child_bytes t i) = omega (arith, c.0, c.1, low, size) in
          absurd (stands-nowhere (child_bytes t i) byte (first_child t i) told (child - first_child t i) inside (byte-of i (child - first_child t i) lt inside ∙ ap (byte_in tree) whole ∙ is_it))

  there : (i : ℕ) (u : List ℕ) → named_word names i ≡ Some u → i < length tree.bytes.items
  there i u e =
      elim (cases_lt i (length names)) [
        | inl lt ↦ omega (arith, lt, is.sized)
        | inr past ↦ (let clash : None ≡ Some u = sym (get_or_past names i None past) ∙ e in cc)
      ]

  -- the word of a child
  child-word : (i child : ℕ) (w : List ℕ) → named_word names i ≡ Some w → IsChildIn tree i child → named_word names child ≡ Some (w ++ byte_in tree child ∷ [])
  child-word i child w named c =
      let u = is.child i child c in
      let words : Some u.0 ≡ Some w = sym u.1 ∙ named in
      u.2 ∙ ap (λ (v : List ℕ). Some (v ++ byte_in tree child ∷ [])) (let same : u.0 ≡ w = cc in same)

  not-pushed : (w : List ℕ) (x : ℕ) → [] ≡ w ++ x ∷ [] → ⊥
  not-pushed w x e = omega (arith, ap length e, length_push w x)

  rising-bytes : (i : ℕ) → i < length tree.bytes.items → AreRising (child_bytes t i)
  rising-bytes i lt a b less within =
      let low = first-is i (omega (arith, lt)) in
      let size = bytes-length i lt in
      let first = is.child i (first_child t i + a) (omega (arith, low), omega (arith, less, within, size)) in
      let second = child-word i (first_child t i + b) first.0 first.1 (omega (arith, low), omega (arith, within, size)) in
      let above = last-above first.0 (byte_in tree (first_child t i + a)) (byte_in tree (first_child t i + b))
      (is.ordered (first_child t i + a) (first_child t i + b) (first.0 ++ byte_in tree (first_child t i + a) ∷ []) (first.0 ++ byte_in tree (first_child t i + b) ∷ []) (omega (arith, less)) first.2 second) in
      omega (arith, above, byte-of i a lt (omega (arith, less, within)), byte-of i b lt within)

  deep-is : (i : ℕ) (w : List ℕ) → named_word names i ≡ Some w → depth_at t i ≡ length w
  deep-is i w named = ap (λ (xs : List ℕ). get_or xs i 0) closed.depths ∙ is.depths i w named

  has-children : HasChildren t
  has-children = record {
    ordered = λ sid lt. let here : sid < length tree.bytes.items = omega (arith, lt, count) in omega (arith, first-is sid (omega (arith, here)), first-is (sid + 1) (omega (arith, here)), is.rising sid (sid + 1) (omega arith));
    within = λ sid lt. let here : sid < length tree.bytes.items = omega (arith, lt, count) in omega (arith, first-is (sid + 1) (omega (arith, here)), is.within (sid + 1), count);
    rising = λ sid lt. rising-bytes sid (omega (arith, lt, count));
    state = λ sid byte child lt told. let c = is-child sid byte child (omega (arith, lt, count)) told in omega (arith, c.0.1, is.within (sid + 1), count);
    deeper = λ sid byte child lt told.
        let c = is-child sid byte child (omega (arith, lt, count)) told in
        let u = is.child sid child c.0 in
        omega (arith, deep-is sid u.0 u.1, deep-is child (u.0 ++ byte_in tree child ∷ []) u.2, length_push u.0 (byte_in tree child));
    dead_none = λ byte. no-child 0 byte (omega (arith, is.two)) (λ child c e. let u = is.child 0 child c in let clash : None ≡ Some u.0 = sym is.dead ∙ u.1 in cc);
    shallow = λ sid lt. omega (arith, ap (λ (xs : List ℕ). get_or xs sid 0) closed.depths, is.shallow sid);
    dead_depth = ap (λ (xs : List ℕ). get_or xs 0 0) closed.depths ∙ is.dead_depth;
    root_depth = deep-is 1 [] is.root;
  }

  -- the children of the root are begun behind it: else it were a child itself, further on
  all-begun : begins_in tree (length tree.bytes.items) ≡ length tree.bytes.items
  all-begun = get_or_past tree.firsts.items (length tree.bytes.items) (length tree.bytes.items) (omega (arith, is.begun, is.above))

  no-root : (k : ℕ) → begins_in tree 1 ≤ 1 → 1 < begins_in tree (k + 1) → ⊥
  no-root zero low high = omega (arith, low, high)
  no-root (suc k) low high =
      elim (cases_lt 1 (begins_in tree (k + 1))) [
        | inl further ↦ no-root k low further
        | inr not_yet ↦
            (let u = is.child (k + 1) 1 (not_yet, omega (arith, high, ap (begins_in tree) (let same : suc k + 1 ≡ k + 1 + 1 = omega arith in same))) in
            let words : Some [] ≡ Some (u.0 ++ byte_in tree 1 ∷ []) = sym is.root ∙ u.2 in
            not-pushed u.0 (byte_in tree 1) (let same : [] ≡ u.0 ++ byte_in tree 1 ∷ [] = cc in same))
      ]

  root-high : 2 ≤ begins_in tree 1
  root-high =
      elim (cases_lt 1 (begins_in tree 1)) [
        | inl high ↦ omega (arith, high)
        | inr low ↦
            absurd
            (no-root (length tree.bytes.items - 1) low
            (omega (arith, all-begun, is.two, ap (begins_in tree) (let whole : length tree.bytes.items - 1 + 1 ≡ length tree.bytes.items = omega (arith, is.two) in whole))))
      ]

  root-low : begins_in tree 1 ≤ 2
  root-low =
      elim (cases_lt 2 (length tree.bytes.items)) [
        | inr none ↦ omega (arith, none, is.within 1)
        | inl some ↦
            (let q = is.parents 2 (omega arith) some in
            let u = is.child q.0 2 q.1 in
            let not_dead : q.0 ≢ 0 = (λ e. let clash : None ≡ Some u.0 = sym is.dead ∙ ap (named_word names) (sym e) ∙ u.1 in cc) in
            omega (arith, is.rising 1 q.0 (omega (arith, not_dead)), q.1.0))
      ]

  bare : AreBare t
  bare = record {
    two = omega (arith, count, is.two);
    small = omega (arith, count, is.small);
    firsts = closed.begun ∙ ap (λ (k : ℕ). k + 1) (sym count);
    depths = ap length closed.depths ∙ is.deep ∙ sym count;
    children = has-children;
    no_links = refl;
    no_rows = refl;
    none_with_row = refl;
    begins = first-is 1 (omega (arith, is.two)) ∙ (let both : begins_in tree 1 ≡ 2 = omega (arith, root-high, root-low) in both);
    ends = ap (first_child t) count ∙ first-is (length tree.bytes.items) (omega arith) ∙ all-begun ∙ sym count;
  }

  module _ (nodes : (i : ℕ) (w : List ℕ) → named_word names i ≡ Some w → (is_node p w ≡ true) × All (IsFolded p) w) (reached : (w : List ℕ) → is_node p w ≡ true → (i : ℕ) × (named_word names i ≡ Some w)) where
    child-by : (i byte : ℕ) (w : List ℕ) → named_word names i ≡ Some w
        → MatchBool (is_node p (w ++ byte ∷ [])) ((child : ℕ) × (child_at t i byte ≡ Some child) × (named_word names child ≡ Some (w ++ byte ∷ []))) (child_at t i byte ≡ None)
    child-by i byte w named =
        elim (cases_Bool (is_node p (w ++ byte ∷ []))) [
          | inl node ↦ match-true (is_node p (w ++ byte ∷ [])) ((child : ℕ) × (child_at t i byte ≡ Some child) × (named_word names child ≡ Some (w ++ byte ∷ []))) (child_at t i byte ≡ None) node (found node)
          | inr other ↦ match-false (is_node p (w ++ byte ∷ [])) ((child : ℕ) × (child_at t i byte ≡ Some child) × (named_word names child ≡ Some (w ++ byte ∷ []))) (child_at t i byte ≡ None) other (none other)
        ]
      where
        told : (child : ℕ) → child_at t i byte ≡ Some child → named_word names child ≡ Some (w ++ byte ∷ [])
        told child e = let c = is-child i byte child (there i w named) e in child-word i child w named c.0 ∙ ap (λ (b : ℕ). Some (w ++ b ∷ [])) c.1

        not-dead : (j : ℕ) → named_word names j ≡ Some (w ++ byte ∷ []) → j ≢ 0
        not-dead j e = λ z. let clash : None ≡ Some (w ++ byte ∷ []) = sym is.dead ∙ ap (named_word names) (sym z) ∙ e in cc

        not-root : (j : ℕ) → named_word names j ≡ Some (w ++ byte ∷ []) → j ≢ 1
        not-root j e = λ one. let words : Some [] ≡ Some (w ++ byte ∷ []) = sym is.root ∙ ap (named_word names) (sym one) ∙ e in not-pushed w byte (let same : [] ≡ w ++ byte ∷ [] = cc in same)

        same-parent : (j q : ℕ) (u : List ℕ) → named_word names q ≡ Some u → named_word names j ≡ Some (u ++ byte_in tree j ∷ []) → named_word names j ≡ Some (w ++ byte ∷ []) → (q ≡ i) × (byte_in tree j ≡ byte)
        same-parent j q u above here e =
            let words : Some (u ++ byte_in tree j ∷ []) ≡ Some (w ++ byte ∷ []) = sym here ∙ e in
            let parts = same_from_push u w (byte_in tree j) byte (let same : u ++ byte_in tree j ∷ [] ≡ w ++ byte ∷ [] = cc in same) in
            (one-state names tree is q i w (above ∙ ap Some parts.0) named, parts.1)

        from-parent : (j q : ℕ) → IsChildIn tree q j → (q ≡ i) × (byte_in tree j ≡ byte) → (child : ℕ) × (child_at t i byte ≡ Some child) × (named_word names child ≡ Some (w ++ byte ∷ []))
        from-parent j q c parts = let some = some-child i byte j (there i w named) (subst (λ (m : ℕ). IsChildIn tree m j) parts.0 c) parts.1 in (some.0, some.1, told some.0 some.1)

        found : is_node p (w ++ byte ∷ []) ≡ true → (child : ℕ) × (child_at t i byte ≡ Some child) × (named_word names child ≡ Some (w ++ byte ∷ []))
        found node =
            let j = reached (w ++ byte ∷ []) node in
            let q = is.parents j.0 (omega (arith, not-dead j.0 j.1, not-root j.0 j.1)) (there j.0 (w ++ byte ∷ []) j.1) in
            let u = is.child q.0 j.0 q.1 in
            from-parent j.0 q.0 q.1 (same-parent j.0 q.0 u.0 u.1 u.2 j.1)

        none : is_node p (w ++ byte ∷ []) ≡ false → child_at t i byte ≡ None
        none other =
            no-child i byte (there i w named)
            (λ child c e.
            let clash : true ≡ false = sym (nodes child (w ++ byte_in tree child ∷ []) (child-word i child w named c)).0 ∙ ap (λ (b : ℕ). is_node p (w ++ b ∷ [])) e ∙ other in
            cc)

    levels : AreLevels p names t
    levels = record {
      sized = is.sized ∙ sym count;
      dead = is.dead;
      root = is.root;
      complete = is.complete;
      ordered = is.ordered;
      nodes = λ i w named. (nodes i w named).0;
      depths = deep-is;
      children = λ i w byte named small. child-by i (folded p byte) w named;
      folded = λ i w named. (nodes i w named).1;
    }

    pub trie-of : AreEnds ends → All (IsOwnOf p names) ends.owns.items → ((k : ℕ) → k < length p.words → is_kept p k ≡ true → Contains (own_numbers ends.owns.items) k) → IsGrownTrie p trie
    trie-of are owns_are all = record {
      names = names;
      levels = levels;
      bare = bare;
      owns = subst (AreOwns p names) (sym closed.owns) (own-lists p names tree ends is are owns_are all);
    }

-- no pattern is longer than this
pub closed-level : (p : Patterns) (depth : ℕ) (text : List ℕ) (tree : Tree) (ends : Ends) (trie : Trie) → IsLevel p depth text tree ends [] → AreEnds ends → IsClosedTree tree ends trie → IsGrownTrie p trie
closed-level p depth text tree ends trie level are closed = trie-of p level.names tree trie ends level.tree_is closed level.nodes reached are level.owns all
  where
    none-longer : (k : ℕ) → k < length p.words → is_kept p k ≡ true → length (pattern_word p k) < depth + 1
    none-longer k lt kept =
        elim (cases_lt (length (pattern_word p k)) (depth + 1)) [
          | inl less ↦ less
          | inr more ↦ absurd (omega (arith, (level.further k lt kept more).1))
        ]

    reached : (w : List ℕ) → is_node p w ≡ true → (i : ℕ) × (named_word level.names i ≡ Some w)
    reached [] node = (1, level.tree_is.root)
    reached (x ∷ w) node =
        let k = is_node-true p x w node in
        level.reached (x ∷ w) node (omega (arith, begins_length (x ∷ w) (pattern_word p k.0) k.3, none-longer k.0 k.1 k.2))

    all : (k : ℕ) → k < length p.words → is_kept p k ≡ true → Contains (own_numbers ends.owns.items) k
    all k lt kept = level.ended k lt kept (none-longer k lt kept)
