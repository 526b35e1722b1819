-- The links and rows of the dead state and of the root.
use Rattle.std.proofs.Common.{◌≡◌, ◌∙◌, ℕ, ◌+◌, ◌<◌, ◌≤◌, Bool, true, false, cond, ◌&&◌, not, inl, inr, List, [], ap, arith, get_or, length, refl, subst, sym}
use Rattle.std.specs.Prelude.{Option, Some, None, nat_lt}
use Rattle.std.proofs.lemmas.Bool.{cases_eq}
use Rattle.aho_core.specs.Bytes.{folded}
use Rattle.aho_core.specs.Failure.{is_cut, is_leftmost}
use Rattle.aho_core.specs.MatchList.{own_matches}
use Rattle.aho_core.specs.Patterns.{Patterns}
use Rattle.aho_core.specs.Step.{follow}
use Rattle.aho_core.specs.declared.search.Anchored.TheVariants.{No}
use Rattle.aho_core.specs.declared.search.MatchKind.{MatchKind}
use Rattle.aho_laws.proofs.ByLinks.{ends_here, is_cut-root, is_empty}
use Rattle.aho_laws.proofs.StepLaw.{follow-node, follow-root}
use Rattle.aho_levels.specs.Building.{AreBare, AreOfTrie, AreOwns}
use Rattle.aho_levels.specs.Layout.{CanStepThrough, IsStateNumber, StateTables, child_by, depth_at, row_entry_at, link_at, told_else}
use Rattle.aho_levels.specs.Linking.{AreInLevels, AreLinkedTo, HasFirstLinks, IsWalkOf, ends_walk_at}
use Rattle.aho_levels.specs.Listing.{AreAllAt, ArePassed}
use Rattle.aho_levels.specs.Meaning.{AreLinked, IsStateNamed, named_word}
use Rattle.aho_levels.specs.declared.links.Walk.{Walk}
use Rattle.aho_levels.specs.declared.trie.Own.{Own}
use Rattle.aho_levels.proofs.Joined.{back-near, run-some}
use Rattle.aho_levels.proofs.Linking.{back-named}
use Rattle.aho_levels.proofs.Owning.{owns-run, passed-more}
use Rattle.aho_levels.proofs.RowJoined.{child-cases}
use Rattle.aho_levels.proofs.Same.{children-same, in_levels-same, of_trie-same, trie-back}

-- no pattern ends before the root
passed-none : (p : Patterns) (names : List (Option (List ℕ))) (owns : List Own) → AreOwns p names owns → ArePassed owns 0 1
passed-none p names owns are = record {
  before = λ i d less. absurd (omega (arith, less));
  behind = λ i d from within. omega (arith, are.alive i d within);
}

-- whether the walk ends at the root is told by the patterns that are passed there
pub ends-told : (p : Patterns) (names : List (Option (List ℕ))) (owns : List Own) → AreOwns p names owns → (kind : MatchKind) (own : ℕ) → AreAllAt owns 0 own 1 → ends_walk_at kind owns 1 ≡ (is_leftmost kind && nat_lt 0 own)
ends-told p names owns are kind own at =
    ap (λ (l : List ℕ). is_leftmost kind && not (is_empty l)) (owns-run owns 0 own 1 at (passed-none p names owns are) are.rising)
    ∙ ap (λ (b : Bool). is_leftmost kind && b) (run-some owns 0 own at.ordered at.within)

module _ (owns : List Own) (walk : Walk) (is_walk : IsWalkOf owns walk) (own : ℕ) (t new : StateTables) (bare : AreBare t) (levels : AreInLevels t) (at : AreAllAt owns 0 own 1) (has : HasFirstLinks t new walk.back) where
  states : length new.bytes ≡ length t.bytes
  states = ap (λ (l : List ℕ). length l) has.trie.bytes

  depth-same : (sid : ℕ) → depth_at new sid ≡ depth_at t sid
  depth-same sid = ap (λ (l : List ℕ). get_or l sid 0) has.trie.depths

  linked-two : length new.fails ≡ 2
  linked-two = ap (λ (l : List ℕ). length l) has.fails

  root-state : IsStateNumber t 1
  root-state = omega (arith, bare.two)

  back-low : walk.back ≤ 1
  back-low = omega (arith, is_walk.back, back-near (ends_walk_at walk.kind owns 1))

  back-shallow : depth_at t walk.back ≡ 0
  back-shallow = ap (depth_at t) is_walk.back ∙ by (ends_walk_at walk.kind owns 1)
    where
      by : (ends : Bool) → depth_at t (cond ends 0 1) ≡ 0
      by true = bare.children.dead_depth
      by false = bare.children.root_depth

  told : (byte : ℕ) (o : Option ℕ) → child_by t 1 byte ≡ o → IsStateNumber t (told_else o walk.back) × (depth_at t (told_else o walk.back) ≤ depth_at t 1 + 1)
  told byte None is = (omega (arith, back-low, bare.two), omega (arith, back-shallow))
  told byte (Some q) is = (bare.children.state 1 _ q root-state is, omega (arith, bare.children.deeper 1 _ q root-state is))

  entry-all : (sid byte : ℕ) → sid < 2 → byte < 256 → IsStateNumber t (row_entry_at new sid byte) × (depth_at t (row_entry_at new sid byte) ≤ depth_at t sid + 1)
  entry-all sid byte less small =
      elim (cases_eq sid 0) [
        | inl dead ↦
            (let same : row_entry_at new sid byte ≡ 0 = ap (λ (n : ℕ). row_entry_at new n byte) dead ∙ has.dead byte small in
            (omega (arith, same, bare.two), omega (arith, ap (depth_at t) same, bare.children.dead_depth)))
        | inr other ↦
            (let root : sid ≡ 1 = omega (arith, less, other) in
            let at_root = told byte (child_by t 1 byte) refl in
            let same : row_entry_at new sid byte ≡ told_else (child_by t 1 byte) walk.back = ap (λ (n : ℕ). row_entry_at new n byte) root ∙ has.root byte small in
            (omega (arith, same, at_root.0), omega (arith, ap (depth_at t) same, ap (depth_at t) root, at_root.1)))
      ]

  root-link : link_at new 1 ≡ 0
  root-link = ap (λ (l : List ℕ). get_or l 1 0) has.fails

  can-begun : CanStepThrough new
  can-begun = record {
    sized = record {
      two = omega (arith, states, bare.two);
      small = omega (arith, states, bare.small);
      firsts = ap (λ (l : List ℕ). length l) has.trie.firsts ∙ bare.firsts ∙ ap (λ (n : ℕ). n + 1) (sym states);
      depths = ap (λ (l : List ℕ). length l) has.trie.depths ∙ bare.depths ∙ sym states;
      rows = omega (arith, has.sized, has.counted);
      with_rows = omega (arith, has.counted);
      linked = omega (arith, has.counted, linked-two);
      some_links = omega (arith, linked-two, states, bare.two);
    };
    children = children-same t new has.trie bare.children;
    walkable = record {
      entry = λ sid byte less small. omega (arith, states, (entry-all sid byte (omega (arith, less, has.counted)) small).0);
      entry_near = λ sid byte less small. omega (arith, depth-same (row_entry_at new sid byte), depth-same sid, (entry-all sid byte (omega (arith, less, has.counted)) small).1);
      dead_stays = has.dead;
      link = λ sid past less. absurd (omega (arith, past, less, has.counted, linked-two));
      lower = λ sid some less. (let root : sid ≡ 1 = omega (arith, some, less, linked-two) in omega (arith, ap (link_at new) root, root-link, some));
      link_nearer = λ sid past less. absurd (omega (arith, past, less, has.counted, linked-two));
    };
  }

  module _ (p : Patterns) (names : List (Option (List ℕ))) (kind_is : p.kind ≡ walk.kind) (of : AreOfTrie p names owns t) where
    back-is : IsStateNamed names (cond (is_cut p []) None (Some [])) walk.back
    back-is =
        subst (λ (b : Bool). IsStateNamed names (cond b None (Some [])) walk.back) (sym (is_cut-root p))
        (subst (λ (n : ℕ). IsStateNamed names (cond (ends_here p []) None (Some [])) n)
        (ap (λ (b : Bool). cond b 0 1)
        (ap (λ (k : MatchKind). is_leftmost k && not (is_empty (own_matches p []))) kind_is
        ∙ ap (λ (l : List ℕ). is_leftmost walk.kind && not (is_empty l)) (sym (of.owns.own 1 [] of.levels.root)))
        ∙ sym is_walk.back)
        (back-named p names of.levels.root))

    root-row : (byte : ℕ) → byte < 256 → IsStateNamed names (follow p No (Some []) (folded p byte)) (row_entry_at new 1 byte)
    root-row byte small =
        elim (child-cases p names t of.levels of.case_is 1 byte [] of.levels.root small) [
          | inl to ↦
              (let at_child : row_entry_at new 1 byte ≡ to.1.0 = has.root byte small ∙ ap (λ (o : Option ℕ). told_else o walk.back) to.1.1 in
              subst (λ (n : ℕ). IsStateNamed names (follow p No (Some []) (folded p byte)) n) (sym at_child)
              (subst (λ (s : Option (List ℕ)). IsStateNamed names s to.1.0) (sym (follow-node p No [] (folded p byte) to.0)) to.1.2))
          | inr none ↦
              (let at_back : row_entry_at new 1 byte ≡ walk.back = has.root byte small ∙ ap (λ (o : Option ℕ). told_else o walk.back) none.1 in
              subst (λ (n : ℕ). IsStateNamed names (follow p No (Some []) (folded p byte)) n) (sym at_back)
              (subst (λ (s : Option (List ℕ)). IsStateNamed names s walk.back) (sym (follow-root p (folded p byte) none.0)) back-is))
        ]

    dead-row : (byte : ℕ) (state : Option (List ℕ)) → byte < 256 → IsStateNamed names state 0 → IsStateNamed names (follow p No state (folded p byte)) (row_entry_at new 0 byte)
    dead-row byte None small is = has.dead byte small
    dead-row byte (Some w) small is = (let clash : None ≡ Some w = sym of.levels.dead ∙ is in cc)

    root-any : (byte : ℕ) (state : Option (List ℕ)) → byte < 256 → IsStateNamed names state 1 → IsStateNamed names (follow p No state (folded p byte)) (row_entry_at new 1 byte)
    root-any byte None small is = absurd (omega (arith, is))
    root-any byte (Some w) small is =
        subst (λ (s : Option (List ℕ)). IsStateNamed names (follow p No s (folded p byte)) (row_entry_at new 1 byte)) (sym of.levels.root ∙ is) (root-row byte small)

    links-begun : AreLinked p names new
    links-begun = record {
      links = λ i word less named nonempty.
          elim (cases_eq i 0) [
            | inl dead ↦ (let clash : None ≡ Some word = sym of.levels.dead ∙ sym (ap (named_word names) dead) ∙ named in cc)
            | inr other ↦
                (let root : i ≡ 1 = omega (arith, less, linked-two, other) in
                let both : Some word ≡ Some [] = sym named ∙ ap (named_word names) root ∙ of.levels.root in
                absurd (nonempty (let same : word ≡ [] = cc in same)))
          ];
      rows = λ i byte state less small named.
          elim (cases_eq i 0) [
            | inl dead ↦
                subst (λ (n : ℕ). IsStateNamed names (follow p No state (folded p byte)) (row_entry_at new n byte)) (sym dead) (dead-row byte state small (subst (λ (n : ℕ). IsStateNamed names state n) dead named))
            | inr other ↦
                (let root : i ≡ 1 = omega (arith, less, has.counted, other) in
                subst (λ (n : ℕ). IsStateNamed names (follow p No state (folded p byte)) (row_entry_at new n byte)) (sym root) (root-any byte state small (subst (λ (n : ℕ). IsStateNamed names state n) root named)))
          ];
    }

  of-old : (p : Patterns) (names : List (Option (List ℕ))) → AreOfTrie p names owns new → AreOfTrie p names owns t
  of-old p names of = of_trie-same new t (trie-back t new has.trie) p names owns of

  pub begun : AreLinkedTo walk.kind owns own 2 new
  begun = record {
    can = can-begun;
    levels = in_levels-same t new has.trie levels;
    linked = linked-two;
    nearer = λ sid deep less. absurd (omega (arith, deep, less));
    within = at.within;
    passed = λ p names kind_is of. passed-more owns 0 own 1 at (passed-none p names owns of.owns) of.owns.rising;
    links = λ p names kind_is of. links-begun p names kind_is (of-old p names of);
  }
