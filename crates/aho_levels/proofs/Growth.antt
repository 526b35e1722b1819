-- A state more, behind all others.
use Rattle.std.proofs.Common.{◌≡◌, ◌≢◌, ◌⊎◌, ◌∙◌, sym, refl, ap, subst, inl, inr, ℕ, ◌+◌, ◌-◌, ◌<◌, ◌≤◌, List, [], ◌∷◌, ◌++◌, length, get_or, arith}
use Rattle.std.specs.Prelude.{Option, Some, None}
use Rattle.std.proofs.lemmas.Bool.{cases_eq, cases_lt}
use Rattle.std.proofs.lemmas.List.{get_or_append_left, get_or_default, get_or_past, get_or_push, length_push}
use Rattle.aho_core.specs.Numbers.{greatest_index}
use Rattle.aho_levels.proofs.Rises.{less-longer, less-last}
use Rattle.aho_levels.specs.Growing.{IsChildIn, IsLedToState, IsTree, MayAdd, begins_in, byte_in, deep_in}
use Rattle.aho_levels.specs.Meaning.{ComesBefore, IsLess, named_word}
use Rattle.aho_levels.specs.declared.tree.Tree.{Tree}

-- words that come before others in one order
less-trans : (u v w : List ℕ) → IsLess u v → IsLess v w → IsLess u w
less-trans u v [] a b = absurd b
less-trans u [] (z ∷ w) a b = absurd a
less-trans [] (y ∷ v) (z ∷ w) a b = absurd a
less-trans (x ∷ u) (y ∷ v) (z ∷ w) (inl a) (inl b) = inl (omega (arith, a, b))
less-trans (x ∷ u) (y ∷ v) (z ∷ w) (inl a) (inr b) = inl (omega (arith, a, b.0))
less-trans (x ∷ u) (y ∷ v) (z ∷ w) (inr a) (inl b) = inl (omega (arith, a.0, b))
less-trans (x ∷ u) (y ∷ v) (z ∷ w) (inr a) (inr b) = inr (a.0 ∙ b.0, less-trans u v w a.1 b.1)

pub above-trans : (u v w : List ℕ) → ComesBefore u v → ComesBefore v w → ComesBefore u w
above-trans u v w (inl a) (inl b) = inl (omega (arith, a, b))
above-trans u v w (inl a) (inr b) = inl (omega (arith, a, b.0))
above-trans u v w (inr a) (inl b) = inl (omega (arith, a.0, b))
above-trans u v w (inr a) (inr b) = inr (a.0 ∙ b.0, less-trans u v w a.1 b.1)

above-longer : (u w : List ℕ) (x y : ℕ) → ComesBefore u w → ComesBefore (u ++ x ∷ []) (w ++ y ∷ [])
above-longer u w x y (inl a) = inl (omega (arith, a, length_push u x, length_push w y))
above-longer u w x y (inr a) = inr (omega (arith, a.0, length_push u x, length_push w y), less-longer u w x y a.1)

above-last : (u : List ℕ) (x y : ℕ) → x < y → ComesBefore (u ++ x ∷ []) (u ++ y ∷ [])
above-last u x y lt = inr (omega (arith, length_push u x, length_push u y), less-last u x y lt)

-- the root comes before each longer word
above-root : (w : List ℕ) (y : ℕ) → ComesBefore [] (w ++ y ∷ [])
above-root w y = inl (omega (arith, length_push w y))

module _ (names : List (Option (List ℕ))) (old new : Tree) (is : IsTree names old) (parent byte depth : ℕ) (w : List ℕ) (named : named_word names parent ≡ Some w) where
  -- the state above is not the dead one, and it is there
  pub parent-some : parent ≢ 0
  parent-some = λ zero_is. let clash : None ≡ Some w = sym is.dead ∙ ap (named_word names) (sym zero_is) ∙ named in cc

  pub parent-there : parent < length old.bytes.items
  parent-there =
      elim (cases_lt parent (length names)) [
        | inl lt ↦ omega (arith, lt, is.sized)
        | inr past ↦ (let clash : None ≡ Some w = sym (get_or_past names parent None past) ∙ named in cc)
      ]

  -- the child that was added last
  pub last-named : old.parent ≡ parent → named_word names (length old.bytes.items - 1) ≡ Some (w ++ byte_in old (length old.bytes.items - 1) ∷ [])
  last-named same =
      let t = is.child old.parent (length old.bytes.items - 1) (is.last (λ zero_is. parent-some (sym same ∙ zero_is))) in
      let word : Some t.0 ≡ Some w = sym t.1 ∙ ap (named_word names) same ∙ named in
      t.2 ∙ ap (λ (u : List ℕ). Some (u ++ byte_in old (length old.bytes.items - 1) ∷ [])) (let same_word : t.0 ≡ w = cc in same_word)

  pub led-last : old.parent ≡ parent → byte_in old (length old.bytes.items - 1) ≡ byte → IsLedToState names (w ++ byte ∷ []) (length old.bytes.items - 1) old
  led-last same byte_is = record {
    names = names;
    tree_is = is;
    stays = λ i u e. e;
    named = last-named same ∙ ap (λ (b : ℕ). Some (w ++ b ∷ [])) byte_is;
    others = λ i u e. inl e;
  }

  module _ (may : MayAdd parent byte old) (room : length old.bytes.items < greatest_index) (deep : length w + 1 ≡ depth) (small : depth ≤ greatest_index)
      (bytes_are : new.bytes.items ≡ old.bytes.items ++ byte ∷ []) (depths_are : new.depths.items ≡ old.depths.items ++ depth ∷ [])
      (firsts_are : (i : ℕ) → get_or new.firsts.items i (length old.bytes.items) ≡ begins_in old i) (begun : length new.firsts.items ≡ parent + 1) (parent_is : new.parent ≡ parent) where
    abbrev after : List (Option (List ℕ))
    after = names ++ Some (w ++ byte ∷ []) ∷ []

    counted : length new.bytes.items ≡ length old.bytes.items + 1
    counted = ap length bytes_are ∙ length_push old.bytes.items byte

    before : (i : ℕ) → i < length old.bytes.items → named_word after i ≡ named_word names i
    before i lt = get_or_append_left names (Some (w ++ byte ∷ []) ∷ []) None i (omega (arith, lt, is.sized))

    there : (i : ℕ) (u : List ℕ) → named_word names i ≡ Some u → i < length old.bytes.items
    there i u e =
        elim (cases_lt i (length names)) [
          | inl lt ↦ omega (arith, lt, is.sized)
          | inr past ↦ (let clash : None ≡ Some u = sym (get_or_past names i None past) ∙ e in cc)
        ]

    here : named_word after (length old.bytes.items) ≡ Some (w ++ byte ∷ [])
    here = get_or_push names (Some (w ++ byte ∷ [])) None (length old.bytes.items) is.sized

    past : (i : ℕ) → length old.bytes.items < i → named_word after i ≡ None
    past i lt = get_or_past after i None (omega (arith, lt, length_push names (Some (w ++ byte ∷ [])), is.sized))

    -- each name is an old one, or the new one
    data Where (i : ℕ) (u : List ℕ) : Type 0 where
      old_one : i < length old.bytes.items → named_word names i ≡ Some u → Where i u
      new_one : i ≡ length old.bytes.items → u ≡ w ++ byte ∷ [] → Where i u

    where-is : (i : ℕ) (u : List ℕ) → named_word after i ≡ Some u → Where i u
    where-is i u e =
        elim (cases_lt i (length old.bytes.items)) [
          | inl lt ↦ old_one lt (sym (before i lt) ∙ e)
          | inr ge ↦
              elim (cases_eq i (length old.bytes.items)) [
                | inl same ↦ new_one same (let word : Some u ≡ Some (w ++ byte ∷ []) = sym e ∙ ap (named_word after) same ∙ here in cc)
                | inr other ↦ (let clash : None ≡ Some u = sym (past i (omega (arith, ge, other))) ∙ e in cc)
              ]
        ]

    -- the children of states up to the one above begin where they did, and those of later ones behind all
    low : (i : ℕ) → i ≤ parent → begins_in new i ≡ begins_in old i
    low i le = get_or_default new.firsts.items i (length new.bytes.items) (length old.bytes.items) (omega (arith, le, begun)) ∙ firsts_are i

    high : (i : ℕ) → parent < i → begins_in new i ≡ length old.bytes.items + 1
    high i lt = get_or_past new.firsts.items i (length new.bytes.items) (omega (arith, lt, begun)) ∙ counted

    unbegun : (i : ℕ) → old.parent < i → begins_in old i ≡ length old.bytes.items
    unbegun i lt = get_or_past old.firsts.items i (length old.bytes.items) (omega (arith, lt, is.begun))

    parent-risen : old.parent ≤ parent
    parent-risen = elim may [ inl lt ↦ omega (arith, lt) | inr same ↦ omega (arith, same.0) ]

    byte-before : (i : ℕ) → i < length old.bytes.items → byte_in new i ≡ byte_in old i
    byte-before i lt = ap (λ (xs : List ℕ). get_or xs i 0) bytes_are ∙ get_or_append_left old.bytes.items (byte ∷ []) 0 i lt

    byte-here : byte_in new (length old.bytes.items) ≡ byte
    byte-here = ap (λ (xs : List ℕ). get_or xs (length old.bytes.items) 0) bytes_are ∙ get_or_push old.bytes.items byte 0 (length old.bytes.items) refl

    deep-before : (i : ℕ) → i < length old.bytes.items → deep_in new i ≡ deep_in old i
    deep-before i lt = ap (λ (xs : List ℕ). get_or xs i 0) depths_are ∙ get_or_append_left old.depths.items (depth ∷ []) 0 i (omega (arith, lt, is.deep))

    deep-here : deep_in new (length old.bytes.items) ≡ depth
    deep-here = ap (λ (xs : List ℕ). get_or xs (length old.bytes.items) 0) depths_are ∙ get_or_push old.depths.items depth 0 (length old.bytes.items) is.deep

    deep-past : (i : ℕ) → length old.bytes.items < i → deep_in new i ≡ 0
    deep-past i lt = get_or_past new.depths.items i 0 (omega (arith, lt, ap length depths_are, length_push old.depths.items depth, is.deep))

    -- the word of the state that was added last comes before the new one
    last-above : (v : List ℕ) → named_word names (length old.bytes.items - 1) ≡ Some v → ComesBefore v (w ++ byte ∷ [])
    last-above v e =
        elim (cases_eq old.parent 0) [
          | inl none ↦
              elim (cases_lt (length old.bytes.items) 3) [
                | inl few ↦
                    (let two : length old.bytes.items - 1 ≡ 1 = omega (arith, few, is.two) in
                    let root : Some v ≡ Some [] = sym e ∙ ap (named_word names) two ∙ is.root in
                    subst (λ (u : List ℕ). ComesBefore u (w ++ byte ∷ [])) (let same : [] ≡ v = cc in same) (above-root w byte))
                | inr more ↦
                    (let t = is.parents 2 (omega arith) (omega (arith, more)) in
                    let zero_is : t.0 ≡ 0 =
                    elim (cases_lt 0 t.0) [
                      | inl some ↦ absurd (omega (arith, t.1.0, unbegun t.0 (omega (arith, none, some)), more))
                      | inr le ↦ omega (arith, le)
                    ] in
                    let c = is.child t.0 2 t.1 in
                    let clash : None ≡ Some c.0 = sym is.dead ∙ ap (named_word names) (sym zero_is) ∙ c.1 in
                    cc)
              ]
          | inr some ↦
              (let c = is.child old.parent (length old.bytes.items - 1) (is.last some) in
              let word : Some v ≡ Some (c.0 ++ byte_in old (length old.bytes.items - 1) ∷ []) = sym e ∙ c.2 in
              subst (λ (u : List ℕ). ComesBefore u (w ++ byte ∷ [])) (let same : c.0 ++ byte_in old (length old.bytes.items - 1) ∷ [] ≡ v = cc in same)
              (elim may [
                | inl lt ↦ above-longer c.0 w (byte_in old (length old.bytes.items - 1)) byte (is.ordered old.parent parent c.0 w lt c.1 named)
                | inr same ↦
                    (let one : Some c.0 ≡ Some w = sym c.1 ∙ ap (named_word names) same.0 ∙ named in
                    subst (λ (u : List ℕ). ComesBefore (u ++ byte_in old (length old.bytes.items - 1) ∷ []) (w ++ byte ∷ [])) (let w_is : w ≡ c.0 = cc in w_is)
                    (above-last w (byte_in old (length old.bytes.items - 1)) byte same.1))
              ]))
        ]

    all-above : (i : ℕ) (u : List ℕ) → named_word names i ≡ Some u → ComesBefore u (w ++ byte ∷ [])
    all-above i u e =
        let lt = there i u e in
        elim (cases_eq i (length old.bytes.items - 1)) [
          | inl last ↦ last-above u (ap (named_word names) (sym last) ∙ e)
          | inr other ↦
              (let v = is.complete (length old.bytes.items - 1) (omega (arith, is.sized, is.two)) (λ z. omega (arith, z, is.two)) in
              above-trans u v.0 (w ++ byte ∷ []) (is.ordered i (length old.bytes.items - 1) u v.0 (omega (arith, lt, other)) e v.1) (last-above v.0 v.1))
        ]

    ordered-now : (i j : ℕ) (u v : List ℕ) → i < j → named_word after i ≡ Some u → named_word after j ≡ Some v → ComesBefore u v
    ordered-now i j u v lt first second = by (where-is i u first) (where-is j v second)
      where
        by : Where i u → Where j v → ComesBefore u v
        by (old_one a e) (old_one b f) = is.ordered i j u v lt e f
        by (old_one a e) (new_one b f) = subst (λ (x : List ℕ). ComesBefore u x) (sym f) (all-above i u e)
        by (new_one a e) (old_one b f) = absurd (omega (arith, a, b, lt))
        by (new_one a e) (new_one b f) = absurd (omega (arith, a, b, lt))

    depths-now : (i : ℕ) (u : List ℕ) → named_word after i ≡ Some u → deep_in new i ≡ length u
    depths-now i u e = by (where-is i u e)
      where
        by : Where i u → deep_in new i ≡ length u
        by (old_one a f) = deep-before i a ∙ is.depths i u f
        by (new_one a f) = ap (deep_in new) a ∙ deep-here ∙ sym deep ∙ sym (length_push w byte) ∙ ap length (sym f)

    shallow-now : (i : ℕ) → deep_in new i ≤ greatest_index
    shallow-now i =
        elim (cases_lt i (length old.bytes.items)) [
          | inl lt ↦ omega (arith, deep-before i lt, is.shallow i)
          | inr ge ↦
              elim (cases_eq i (length old.bytes.items)) [
                | inl same ↦ omega (arith, ap (deep_in new) same, deep-here, small)
                | inr other ↦ omega (arith, deep-past i (omega (arith, ge, other)))
              ]
        ]

    within-now : (i : ℕ) → begins_in new i ≤ length new.bytes.items
    within-now i =
        elim (cases_lt parent i) [
          | inl lt ↦ omega (arith, high i lt, counted)
          | inr le ↦ omega (arith, low i le, is.within i, counted)
        ]

    rising-now : (i j : ℕ) → i ≤ j → begins_in new i ≤ begins_in new j
    rising-now i j le =
        elim (cases_lt parent j) [
          | inl lt ↦ omega (arith, high j lt, within-now i, counted)
          | inr few ↦ omega (arith, low i (omega (arith, le, few)), low j few, is.rising i j le)
        ]

    -- a child that was there is one, and a child now was there or is the new one
    child-now : (i j : ℕ) → IsChildIn new i j → (u : List ℕ) × (named_word after i ≡ Some u) × (named_word after j ≡ Some (u ++ byte_in new j ∷ []))
    child-now i j c =
        elim (cases_lt parent i) [
          | inl lt ↦ absurd (omega (arith, c.0, c.1, high i lt, high (i + 1) (omega (arith, lt))))
          | inr le ↦
              elim (cases_lt j (length old.bytes.items)) [
                | inl few ↦ was le few
                | inr ge ↦ is_new le ge
              ]
        ]
      where
        was : i ≤ parent → j < length old.bytes.items → (u : List ℕ) × (named_word after i ≡ Some u) × (named_word after j ≡ Some (u ++ byte_in new j ∷ []))
        was le few =
            let end : j < begins_in old (i + 1) =
            elim (cases_lt parent (i + 1)) [
              | inl lt ↦ omega (arith, few, unbegun (i + 1) (omega (arith, lt, parent-risen)))
              | inr upto ↦ omega (arith, c.1, low (i + 1) upto)
            ] in
            let t = is.child i j (omega (arith, c.0, low i le), end) in (
              t.0,
              before i (omega (arith, le, parent-there)) ∙ t.1,
              before j few ∙ t.2 ∙ ap (λ (b : ℕ). Some (t.0 ++ b ∷ [])) (sym (byte-before j few)),
            )

        is_new : i ≤ parent → length old.bytes.items ≤ j → (u : List ℕ) × (named_word after i ≡ Some u) × (named_word after j ≡ Some (u ++ byte_in new j ∷ []))
        is_new le ge =
            let i_is : i ≡ parent =
            elim (cases_lt i parent) [
              | inl lt ↦ absurd (omega (arith, c.1, low (i + 1) (omega (arith, lt)), is.within (i + 1), ge))
              | inr more ↦ omega (arith, le, more)
            ] in
            let j_is : j ≡ length old.bytes.items = omega (arith, ge, c.1, within-now (i + 1), counted) in (
              w,
              before i (omega (arith, le, parent-there)) ∙ ap (named_word names) i_is ∙ named,
              ap (named_word after) j_is ∙ here ∙ ap (λ (b : ℕ). Some (w ++ b ∷ [])) (sym (ap (byte_in new) j_is ∙ byte-here)),
            )

    parents-now : (j : ℕ) → 2 ≤ j → j < length new.bytes.items → (i : ℕ) × IsChildIn new i j
    parents-now j two lt =
        elim (cases_lt j (length old.bytes.items)) [
          | inl few ↦
              (let t = is.parents j two few in
              let i_le : t.0 ≤ parent =
              elim (cases_lt old.parent t.0) [
                | inl more ↦ absurd (omega (arith, t.1.0, unbegun t.0 more, few))
                | inr le ↦ omega (arith, le, parent-risen)
              ] in
              let end : j < begins_in new (t.0 + 1) =
              elim (cases_lt parent (t.0 + 1)) [
                | inl more ↦ omega (arith, high (t.0 + 1) more, few)
                | inr upto ↦ omega (arith, t.1.1, low (t.0 + 1) upto)
              ] in
              (t.0, (omega (arith, t.1.0, low t.0 i_le), end)))
          | inr ge ↦ (parent, (omega (arith, low parent (omega arith), is.within parent, ge), omega (arith, high (parent + 1) (omega arith), lt, counted)))
        ]

    last-now : IsChildIn new new.parent (length new.bytes.items - 1)
    last-now =
        let begin : begins_in new new.parent ≡ begins_in old parent = ap (begins_in new) parent_is ∙ low parent (omega arith) in
        let end : begins_in new (new.parent + 1) ≡ length old.bytes.items + 1 = ap (λ (i : ℕ). begins_in new (i + 1)) parent_is ∙ high (parent + 1) (omega arith) in
        (omega (arith, begin, is.within parent, counted), omega (arith, end, counted))

    complete-now : (i : ℕ) → i < length after → i ≢ 0 → (u : List ℕ) × (named_word after i ≡ Some u)
    complete-now i lt some =
        elim (cases_lt i (length old.bytes.items)) [
          | inl few ↦ (let t = is.complete i (omega (arith, few, is.sized)) some in (t.0, before i few ∙ t.1))
          | inr ge ↦
              (let i_is : i ≡ length old.bytes.items = omega (arith, ge, lt, length_push names (Some (w ++ byte ∷ [])), is.sized) in
              (w ++ byte ∷ [], ap (named_word after) i_is ∙ here))
        ]

    grown : IsTree after new
    grown = record {
      two = omega (arith, counted, is.two);
      small = omega (arith, counted, room);
      sized = length_push names (Some (w ++ byte ∷ [])) ∙ ap (λ (k : ℕ). k + 1) is.sized ∙ sym counted;
      deep = ap length depths_are ∙ length_push old.depths.items depth ∙ ap (λ (k : ℕ). k + 1) is.deep ∙ sym counted;
      begun = begun ∙ ap (λ (k : ℕ). k + 1) (sym parent_is);
      above = omega (arith, parent_is, parent-there, counted);
      dead = before 0 (omega (arith, is.two)) ∙ is.dead;
      root = before 1 (omega (arith, is.two)) ∙ is.root;
      complete = complete-now;
      ordered = ordered-now;
      depths = depths-now;
      dead_depth = deep-before 0 (omega (arith, is.two)) ∙ is.dead_depth;
      shallow = shallow-now;
      rising = rising-now;
      within = within-now;
      child = child-now;
      parents = parents-now;
      last = λ some. last-now;
    }

    pub led-new : IsLedToState names (w ++ byte ∷ []) (length old.bytes.items) new
    led-new = record {
      names = after;
      tree_is = grown;
      stays = λ i u e. before i (there i u e) ∙ e;
      named = here;
      others = λ i u e. by i u (where-is i u e);
    }
      where
        by : (i : ℕ) (u : List ℕ) → Where i u → (named_word names i ≡ Some u) ⊎ (u ≡ w ++ byte ∷ [])
        by i u (old_one a f) = inl f
        by i u (new_one a f) = inr f
