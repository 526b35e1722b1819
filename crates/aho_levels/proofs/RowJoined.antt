-- One row more: that of the state that was linked last.
use Rattle.std.proofs.Common.{◌≡◌, ◌⊎◌, ◌∙◌, ℕ, ◌+◌, ◌*◌, ◌<◌, ◌≤◌, Bool, true, false, inl, inr, List, [], ◌∷◌, ◌++◌, ap, arith, get_or, length, refl, subst, sym}
use Rattle.std.specs.Prelude.{Option, Some, None}
use Rattle.std.proofs.lemmas.Bool.{cases_Bool, cases_lt, MatchBool-at_true, MatchBool-at_false}
use Rattle.aho_core.specs.Bytes.{folded, folded_by}
use Rattle.aho_core.specs.Failure.{failure_of}
use Rattle.aho_core.specs.Patterns.{Patterns}
use Rattle.aho_core.specs.Step.{follow}
use Rattle.aho_core.specs.Trie.{is_node}
use Rattle.aho_core.specs.declared.search.Anchored.TheVariants.{No}
use Rattle.aho_core.specs.declared.search.MatchKind.{MatchKind}
use Rattle.aho_levels.specs.Building.{AreOfTrie}
use Rattle.aho_levels.specs.Layout.{CanStepThrough, IsStateNumber, StateTables, child_by, child_at, depth_at, row_entry_at, link_at, told_else}
use Rattle.aho_levels.specs.Linking.{AreLinkedTo, HasNewRow}
use Rattle.aho_levels.specs.Meaning.{AreLevels, AreLinked, IsStateNamed, named_word}
use Rattle.aho_levels.specs.Reading.{unique}
use Rattle.aho_levels.specs.declared.trie.Own.{Own}
use Rattle.aho_levels.proofs.Linking.{entry-child, entry-linked}
use Rattle.aho_levels.proofs.Same.{children-same, in_levels-same, of_trie-same, trie-back}

-- what a byte leads to by words: a child, or none
pub child-cases : (p : Patterns) (names : List (Option (List ℕ))) (t : StateTables) → AreLevels p names t → t.ignore_case ≡ p.ignore_case → (sid byte : ℕ) (w : List ℕ) → named_word names sid ≡ Some w → byte < 256
    → ((is_node p (w ++ folded p byte ∷ []) ≡ true) × ((child : ℕ) × (child_by t sid byte ≡ Some child) × (named_word names child ≡ Some (w ++ folded p byte ∷ []))))
    ⊎ ((is_node p (w ++ folded p byte ∷ []) ≡ false) × (child_by t sid byte ≡ None))
child-cases p names t levels case_is sid byte w named small =
    elim (cases_Bool (is_node p (w ++ folded p byte ∷ []))) [
      | inl node ↦
          (let to =
          MatchBool-at_true
          ((child : ℕ) × (child_at t sid (folded p byte) ≡ Some child) × (named_word names child ≡ Some (w ++ folded p byte ∷ [])))
          (child_at t sid (folded p byte) ≡ None) node (levels.children sid w byte named small) in
          inl (node, (to.0, same ∙ to.1, to.2)))
      | inr other ↦
          inr (
            other,
            same ∙
                MatchBool-at_false
                ((child : ℕ) × (child_at t sid (folded p byte) ≡ Some child) × (named_word names child ≡ Some (w ++ folded p byte ∷ [])))
                (child_at t sid (folded p byte) ≡ None) other (levels.children sid w byte named small),
          )
    ]
  where
    same : child_by t sid byte ≡ child_at t sid (folded p byte)
    same = ap (λ (b : Bool). child_at t sid (folded_by b byte)) case_is

module _ (kind : MatchKind) (owns : List Own) (next child link : ℕ) (t new : StateTables) (linked : AreLinkedTo kind owns next (child + 1) t) (deep : 2 ≤ child) (with_rows : t.row_count ≡ child)
    (link_is : link_at t child ≡ link) (has : HasNewRow t new child link) where
  lower : link < child
  lower = omega (arith, link_is, linked.can.walkable.lower child (omega (arith, deep)) (omega (arith, linked.linked)))

  nearer : depth_at t link < depth_at t child
  nearer = omega (arith, ap (depth_at t) link_is, linked.nearer child deep (omega arith))

  inside : IsStateNumber t child
  inside = omega (arith, linked.linked, linked.can.sized.some_links)

  states : length new.bytes ≡ length t.bytes
  states = ap (λ (l : List ℕ). length l) has.trie.bytes

  depth-same : (sid : ℕ) → depth_at new sid ≡ depth_at t sid
  depth-same sid = ap (λ (l : List ℕ). get_or l sid 0) has.trie.depths

  link-same : (sid : ℕ) → link_at new sid ≡ link_at t sid
  link-same sid = ap (λ (l : List ℕ). get_or l sid 0) has.fails

  entry-old : (sid byte : ℕ) → sid < child → byte < 256 → row_entry_at new sid byte ≡ row_entry_at t sid byte
  entry-old sid byte less small = has.longer.kept (sid * 256 + byte) (omega (arith, less, small, linked.can.sized.rows, with_rows))

  -- the new row by cases: a child, or the entry of the link's row
  told : (byte : ℕ) → byte < 256 → (o : Option ℕ) → child_by t child byte ≡ o → IsStateNumber t (told_else o (row_entry_at t link byte)) × (depth_at t (told_else o (row_entry_at t link byte)) ≤ depth_at t child + 1)
  told byte small None is =
      (linked.can.walkable.entry link byte (omega (arith, lower, with_rows)) small, omega (arith, linked.can.walkable.entry_near link byte (omega (arith, lower, with_rows)) small, nearer))
  told byte small (Some q) is = (linked.can.children.state child _ q inside is, omega (arith, linked.can.children.deeper child _ q inside is))

  entry-new : (byte : ℕ) → byte < 256 → IsStateNumber t (row_entry_at new child byte) × (depth_at t (row_entry_at new child byte) ≤ depth_at t child + 1)
  entry-new byte small =
      let at = told byte small (child_by t child byte) refl in
      let same = has.entry byte small in
      (omega (arith, same, at.0), omega (arith, ap (depth_at t) same, at.1))

  entry-all : (sid byte : ℕ) → sid < child + 1 → byte < 256 → IsStateNumber t (row_entry_at new sid byte) × (depth_at t (row_entry_at new sid byte) ≤ depth_at t sid + 1)
  entry-all sid byte less small =
      elim (cases_lt sid child) [
        | inl past ↦
            (let same = entry-old sid byte past small in
            let row : sid < t.row_count = omega (arith, past, with_rows) in
            (omega (arith, same, linked.can.walkable.entry sid byte row small), omega (arith, ap (depth_at t) same, linked.can.walkable.entry_near sid byte row small)))
        | inr here ↦
            (let is : child ≡ sid = omega (arith, less, here) in
            subst (λ (n : ℕ). IsStateNumber t (row_entry_at new n byte) × (depth_at t (row_entry_at new n byte) ≤ depth_at t n + 1)) is (entry-new byte small))
      ]

  can-row : CanStepThrough new
  can-row = record {
    sized = record {
      two = omega (arith, states, linked.can.sized.two);
      small = omega (arith, states, linked.can.sized.small);
      firsts = ap (λ (l : List ℕ). length l) has.trie.firsts ∙ linked.can.sized.firsts ∙ ap (λ (n : ℕ). n + 1) (sym states);
      depths = ap (λ (l : List ℕ). length l) has.trie.depths ∙ linked.can.sized.depths ∙ sym states;
      rows = omega (arith, has.longer.sized, linked.can.sized.rows, has.counted);
      with_rows = omega (arith, has.counted, linked.can.sized.with_rows);
      linked = omega (arith, has.counted, with_rows, linked.linked, ap (λ (l : List ℕ). length l) has.fails);
      some_links = omega (arith, ap (λ (l : List ℕ). length l) has.fails, states, linked.can.sized.some_links);
    };
    children = children-same t new has.trie linked.can.children;
    walkable = record {
      entry = λ sid byte less small. omega (arith, states, (entry-all sid byte (omega (arith, less, has.counted, with_rows)) small).0);
      entry_near = λ sid byte less small.
          omega (arith, depth-same (row_entry_at new sid byte), depth-same sid, (entry-all sid byte (omega (arith, less, has.counted, with_rows)) small).1);
      dead_stays = λ byte small. entry-old 0 byte (omega (arith, deep)) small ∙ linked.can.walkable.dead_stays byte small;
      link = λ sid past less. omega (arith, link-same sid, linked.can.walkable.link sid (omega (arith, past, has.counted)) (omega (arith, less, ap (λ (l : List ℕ). length l) has.fails)));
      lower = λ sid some less. omega (arith, link-same sid, linked.can.walkable.lower sid some (omega (arith, less, ap (λ (l : List ℕ). length l) has.fails)));
      link_nearer = λ sid past less.
          omega
          (arith, ap (depth_at new) (link-same sid), depth-same (link_at t sid), depth-same sid, linked.can.walkable.link_nearer sid (omega (arith, past, has.counted)) (omega (arith, less, ap (λ (l : List ℕ). length l) has.fails)));
    };
  }

  module _ (p : Patterns) (names : List (Option (List ℕ))) (kind_is : p.kind ≡ kind) (of : AreOfTrie p names owns t) where
    before : AreLinked p names t
    before = linked.links p names kind_is of

    -- the new row leads where the word's step does
    row-word : (byte : ℕ) (w : List ℕ) → byte < 256 → named_word names child ≡ Some w → IsStateNamed names (follow p No (Some w) (folded p byte)) (row_entry_at new child byte)
    row-word byte [] small named = absurd (omega (arith, unique p names t of.levels child 1 [] named of.levels.root, deep))
    row-word byte (y ∷ u) small named =
        elim (child-cases p names t of.levels of.case_is child byte (y ∷ u) named small) [
          | inl to ↦
              (let at : row_entry_at new child byte ≡ to.1.0 = has.entry byte small ∙ ap (λ (o : Option ℕ). told_else o (row_entry_at t link byte)) to.1.1 in
              subst (λ (n : ℕ). IsStateNamed names (follow p No (Some (y ∷ u)) (folded p byte)) n) (sym at) (entry-child p names (y ∷ u) (folded p byte) to.1.0 to.0 to.1.2))
          | inr none ↦
              (let at : row_entry_at new child byte ≡ row_entry_at t link byte = has.entry byte small ∙ ap (λ (o : Option ℕ). told_else o (row_entry_at t link byte)) none.1 in
              let failed : IsStateNamed names (failure_of p (y ∷ u)) link = subst (λ (n : ℕ). IsStateNamed names (failure_of p (y ∷ u)) n) link_is (before.links child (y ∷ u) (omega (arith, linked.linked)) named (λ e. cc)) in
              subst (λ (n : ℕ). IsStateNamed names (follow p No (Some (y ∷ u)) (folded p byte)) n) (sym at)
              (entry-linked p names y u (folded p byte) (row_entry_at t link byte) none.0 (before.rows link byte (failure_of p (y ∷ u)) (omega (arith, lower, with_rows)) small failed)))
        ]

    row-named : (byte : ℕ) (state : Option (List ℕ)) → byte < 256 → IsStateNamed names state child → IsStateNamed names (follow p No state (folded p byte)) (row_entry_at new child byte)
    row-named byte None small is = absurd (omega (arith, is, deep))
    row-named byte (Some w) small is = row-word byte w small is

    links-row : AreLinked p names new
    links-row = record {
      links = λ i word less named nonempty.
          subst (λ (n : ℕ). IsStateNamed names (failure_of p word) n) (sym (link-same i)) (before.links i word (omega (arith, less, ap (λ (l : List ℕ). length l) has.fails)) named nonempty);
      rows = λ i byte state less small named.
          elim (cases_lt i child) [
            | inl past ↦
                subst (λ (n : ℕ). IsStateNamed names (follow p No state (folded p byte)) n) (sym (entry-old i byte past small)) (before.rows i byte state (omega (arith, past, with_rows)) small named)
            | inr here ↦
                (let is : child ≡ i = omega (arith, less, has.counted, with_rows, here) in
                subst (λ (n : ℕ). IsStateNamed names (follow p No state (folded p byte)) (row_entry_at new n byte)) is
                (row-named byte state small (subst (λ (n : ℕ). IsStateNamed names state n) (sym is) named)))
          ];
    }

  pub row-joined : AreLinkedTo kind owns next (child + 1) new
  row-joined = record {
    can = can-row;
    levels = in_levels-same t new has.trie linked.levels;
    linked = ap (λ (l : List ℕ). length l) has.fails ∙ linked.linked;
    nearer = λ sid far less. omega (arith, ap (depth_at new) (link-same sid), depth-same (link_at t sid), depth-same sid, linked.nearer sid far less);
    within = linked.within;
    passed = λ p names kind_is of. linked.passed p names kind_is (of_trie-same new t (trie-back t new has.trie) p names owns of);
    links = λ p names kind_is of. links-row p names kind_is (of_trie-same new t (trie-back t new has.trie) p names owns of);
  }
