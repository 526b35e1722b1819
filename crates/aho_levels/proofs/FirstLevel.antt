-- The patterns at the root, before any byte.
use Rattle.std.proofs.Common.{◌≡◌, ◌∙◌, sym, ap, subst, ℕ, zero, suc, ◌+◌, ◌<◌, true, List, [], length, drop, get_or, arith}
use Rattle.std.specs.Prelude.{Some}
use Rattle.std.specs.List.{All}
use Rattle.std.proofs.lemmas.List.{drop-drop, get_or-drop, get_or-map}
use Rattle.std.proofs.lemmas.List.Elements.{All-nil}
use Rattle.std.proofs.lemmas.List.FromFn.{get_or-range_with_len, length-range_with_len}
use Rattle.std.proofs.lemmas.List.Sorted.{Contains-permutation}
use Rattle.aho_core.specs.Patterns.{Patterns, numbers}
use Rattle.aho_core.specs.Trie.{is_node}
use Rattle.aho_laws.proofs.Kept.{is_node-root}
use Rattle.aho_levels.proofs.Settling.{all-settled}
use Rattle.aho_levels.specs.Building.{AreItems, IsUnderway}
use Rattle.aho_levels.specs.Growing.{AreNodeNames, HasLonger, IsArrived, IsLevel, IsSettling, IsTree, first_names, item_numbers}
use Rattle.aho_levels.specs.Meaning.{IsFolded, named_word}
use Rattle.aho_levels.specs.declared.order.Item.{Item}
use Rattle.aho_levels.specs.declared.tree.Tree.{Tree}
use Rattle.aho_levels.specs.declared.trie.Ends.{Ends}
use Rattle.aho_levels.specs.declared.trie.Own.{Own}

-- an item that is read where two lists are the same from a place on
pub same-at : {X : Type 0} (xs ys : List X) (i : ℕ) (x : X) → drop i xs ≡ drop i ys → x ≡ get_or xs i x → x ≡ get_or ys i x
same-at xs ys i x same read =
    let whole : i + 0 ≡ i = omega arith in
    read ∙ ap (λ (n : ℕ). get_or xs n x) (sym whole) ∙ sym (get_or-drop i xs 0 x) ∙ ap (λ (l : List _). get_or l 0 x) same ∙ get_or-drop i ys 0 x ∙ ap (λ (n : ℕ). get_or ys n x) whole

pub drop-same : {X : Type 0} (xs ys : List X) (i : ℕ) → drop i xs ≡ drop i ys → drop (i + 1) xs ≡ drop (i + 1) ys
drop-same xs ys i same = sym (drop-drop 1 i xs) ∙ ap (drop 1) same ∙ drop-drop 1 i ys

pub number-at : (items : List Item) (i : ℕ) (item : Item) → i < length items → item ≡ get_or items i item → get_or (item_numbers items) i 0 ≡ item.number
number-at items i item within read = get_or-map (λ (it : Item). it.number) items i item 0 within ∙ ap (λ (it : Item). it.number) (sym read)

-- the names of the dead state and the root
first-words : (i : ℕ) (w : List ℕ) → named_word first_names i ≡ Some w → [] ≡ w
first-words zero w e = cc
first-words (suc zero) w e = cc
first-words (suc (suc i)) w e = cc

pub first-settling : (p : Patterns) (text : List ℕ) (owns : List Own) (passed : ℕ) → owns ≡ [] → IsSettling p 0 text first_names owns passed [] []
first-settling p text owns passed none =
    subst (λ (os : List Own). IsSettling p 0 text first_names os passed [] []) (sym none)
    (record {
      owns_are = All-nil _;
      ended = λ k lt kept short. absurd (omega (arith, short));
      ends = All-nil _;
      goes_on = All-nil _;
      reached = All-nil _;
      kept_are = All-nil _;
      longer = All-nil _;
      passed_are = All-nil _;
      first = λ is. All-nil _;
    })

module _ (p : Patterns) (text : List ℕ) (items : List Item) (are : AreItems p 1 text items) where
  pub first-arrived : (i : ℕ) (item : Item) → i < length items → item ≡ get_or items i item → IsArrived p 0 first_names text item
  first-arrived i item within read =
      let placed = are.placed i item within in
      record {
        underway = subst (IsUnderway p 0 text) (sym read) placed.1;
        named = ap (named_word first_names) (ap (λ (it : Item). it.state) read ∙ placed.0);
        unbegun = λ j first before kept begins. omega arith;
      }

  all-arrived : HasLonger p 0 (item_numbers items)
  all-arrived k lt kept long =
      Contains-permutation (numbers p) (item_numbers items) k are.all
      (k, omega (arith, lt, length-range_with_len 0 (length p.words)), get_or-range_with_len 0 (length p.words) k k lt ∙ (let same : 0 + k ≡ k = omega arith in same))

  nodes-first : AreNodeNames p first_names
  nodes-first i w e =
      let none = first-words i w e in
      (subst (λ (u : List ℕ). is_node p u ≡ true) none (is_node-root p), subst (All (IsFolded p)) none (All-nil (IsFolded p)))

  pub first-level : (tree : Tree) (ends : Ends) (kept : List Item) → IsTree first_names tree → IsSettling p 0 text first_names ends.owns.items ends.passed (item_numbers items) kept → IsLevel p 0 text tree ends kept
  first-level tree ends kept is settling =
      all-settled p 0 text first_names tree ends (item_numbers items) kept is nodes-first (λ w node short. absurd (omega (arith, short))) all-arrived are.folded settling
