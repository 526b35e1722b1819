-- A level: one pattern after another is led a byte further.
use Rattle.std.proofs.Common.{◌≡◌, ◌∙◌, sym, ap, subst, inl, inr, ℕ, ◌+◌, ◌-◌, ◌<◌, ◌≤◌, Bool, true, List, [], ◌∷◌, ◌++◌, length, take, drop, get_or, arith}
use Rattle.std.specs.Prelude.{Option, Some}
use Rattle.std.specs.List.{All}
use Rattle.std.proofs.lemmas.List.{drop-drop, drop-take, get_or-drop, get_or-take, length-map, length-take-le, take_all, take_more}
use Rattle.std.proofs.lemmas.List.Elements.{All-nil, All-push, All-weaker}
use Rattle.aho_core.specs.Patterns.{Patterns}
use Rattle.aho_core.specs.Trie.{is_kept, is_node, pattern_word}
use Rattle.aho_core.specs.declared.search.MatchKind.TheVariants.{LeftmostFirst}
use Rattle.aho_laws.proofs.Begins.{Begins, begins_shorter}
use Rattle.aho_laws.proofs.Kept.{is_node-from, keeper}
use Rattle.aho_levels.proofs.FirstLevel.{number-at}
use Rattle.aho_levels.proofs.Settling.{all-settled, settled-in, settling-stays, take-begins}
use Rattle.aho_levels.specs.Building.{IsUnderway}
use Rattle.aho_levels.specs.Growing.{IsArrived, IsLedToState, IsLevel, IsOpen, IsSettling, IsStepping, IsTree, KeepsItem, SettlesItem, item_numbers}
use Rattle.aho_levels.specs.Meaning.{IsFolded, named_word}
use Rattle.aho_levels.specs.declared.order.Item.{Item}
use Rattle.aho_levels.specs.declared.tree.Tree.{Tree}
use Rattle.aho_levels.specs.declared.trie.Ends.{Ends}

module _ (p : Patterns) (depth : ℕ) (text : List ℕ) where
  pub stepping-first : (tree : Tree) (ends : Ends) (items : List Item) → IsLevel p depth text tree ends items → IsStepping p depth text tree ends items 0 []
  stepping-first tree ends items level = record {
    names = level.names;
    tree_is = level.tree_is;
    nodes = level.nodes;
    reached = level.reached;
    settling = record {
      owns_are = level.owns;
      ended = level.ended;
      ends = All-nil _;
      goes_on = All-nil _;
      reached = All-nil _;
      kept_are = All-nil _;
      longer = All-nil _;
      passed_are = All-nil _;
      first = λ is. All-nil _;
    };
    waiting = level.open_ones;
  }

  pub stepping-last : (old tree : Tree) (first ends : Ends) (items kept : List Item) (place : ℕ) → length items ≤ place → IsLevel p depth text old first items → IsStepping p depth text tree ends items place kept → IsLevel p (depth + 1) text tree ends kept
  stepping-last old tree first ends items kept place all level are =
      all-settled p (depth + 1) text are.names tree ends (item_numbers items) kept are.tree_is are.nodes are.reached level.further level.folded
      (subst (λ (ns : List ℕ). IsSettling p (depth + 1) text are.names ends.owns.items ends.passed ns kept) (take_all place (item_numbers items) (omega (arith, all, length-map items (λ (item : Item). item.number)))) are.settling)

  module _ (names : List (Option (List ℕ))) (item : Item) (is : IsOpen p depth names text item) where
    word : List ℕ
    word = pattern_word p item.number

    -- it has a byte more
    pub longer-by : depth < length (pattern_word p item.number)
    longer-by = omega (arith, is.arrived.underway.whole, is.longer)

    pub front-length : length (take depth (pattern_word p item.number)) + 1 ≡ depth + 1
    front-length = omega (arith, length-take-le depth (pattern_word p item.number) (omega (arith, longer-by)))

    pub at-within : item.at < length text
    at-within = omega (arith, is.longer, is.arrived.underway.within)

    pub byte-is : get_or text item.at 0 ≡ get_or (pattern_word p item.number) depth 0
    byte-is =
        let here : item.at + 0 ≡ item.at = omega arith in
        let there : depth + 0 ≡ depth = omega arith in
        ap (λ (n : ℕ). get_or text n 0) (sym here)
        ∙ sym (get_or-drop item.at text 0 0)
        ∙ sym (get_or-take (item.end - item.at) (drop item.at text) 0 0 (omega (arith, is.longer)))
        ∙ ap (λ (xs : List ℕ). get_or xs 0 0) is.arrived.underway.bytes
        ∙ get_or-drop depth (pattern_word p item.number) 0 0
        ∙ ap (λ (n : ℕ). get_or (pattern_word p item.number) n 0) there

    pub front-more : (byte : ℕ) → byte ≡ get_or text item.at 0 → take depth (pattern_word p item.number) ++ byte ∷ [] ≡ take (depth + 1) (pattern_word p item.number)
    front-more byte byte_at = ap (λ (b : ℕ). take depth (pattern_word p item.number) ++ b ∷ []) (byte_at ∙ byte-is) ∙ sym (take_more (pattern_word p item.number) depth 0 longer-by)

    -- a pattern that is not left out yet leads to nodes
    pub front-node : is_node p (take (depth + 1) (pattern_word p item.number)) ≡ true
    front-node =
        let t = keeper p item.number in
        let inside : t.who < length p.words = elim t.which [ inl same ↦ omega (arith, same, is.arrived.underway.numbered) | inr less ↦ omega (arith, less.1, is.arrived.underway.numbered) ] in
        let long : depth + 1 ≤ length (pattern_word p t.who) =
        elim t.which [
          | inl same ↦ omega (arith, ap (λ (k : ℕ). length (pattern_word p k)) same, longer-by)
          | inr less ↦ omega (arith, is.unbegun t.who less.0 less.1 t.kept t.begins_it)
        ] in
        is_node-from p (take (depth + 1) (pattern_word p item.number)) t.who inside t.kept
        (begins_shorter (take (depth + 1) (pattern_word p item.number)) (pattern_word p t.who) (pattern_word p item.number) (take-begins (depth + 1) (pattern_word p item.number)) t.begins_it
        (omega (arith, length-take-le (depth + 1) (pattern_word p item.number) (omega (arith, longer-by)), long)))

    pub led-underway : (further : Item) → further.at ≡ item.at + 1 → further.end ≡ item.end → further.number ≡ item.number → IsUnderway p (depth + 1) text further
    led-underway further at_is end_is number_is = record {
      numbered = omega (arith, number_is, was.numbered);
      ordered = omega (arith, at_is, end_is, is.longer);
      within = omega (arith, end_is, was.within);
      whole = ap (λ (k : ℕ). length (pattern_word p k)) number_is ∙ omega (arith, was.whole, at_is, end_is, is.longer);
      bytes =
          ap (λ (n : ℕ). take n (drop further.at text)) (let left : further.end - further.at ≡ item.end - item.at - 1 = omega (arith, at_is, end_is, is.longer) in left)
          ∙ ap (λ (n : ℕ). take (item.end - item.at - 1) (drop n text)) at_is
          ∙ ap (take (item.end - item.at - 1)) (sym (drop-drop 1 item.at text))
          ∙ sym (drop-take 1 (item.end - item.at - 1) (drop item.at text))
          ∙ ap (λ (n : ℕ). drop 1 (take n (drop item.at text))) (let left : 1 + (item.end - item.at - 1) ≡ item.end - item.at = omega (arith, is.longer) in left)
          ∙ ap (drop 1) was.bytes
          ∙ drop-drop 1 depth (pattern_word p item.number)
          ∙ ap (λ (k : ℕ). drop (depth + 1) (pattern_word p k)) (sym number_is);
    }
      where
        was : IsUnderway p depth text item
        was = is.arrived.underway

  -- the next item of a level
  pub next-waits : (tree : Tree) (ends : Ends) (items : List Item) (index : ℕ) (kept : List Item) (item : Item) → index < length items → item ≡ get_or items index item
      → (are : IsStepping p depth text tree ends items index kept) → IsOpen p depth are.names text item
  next-waits tree ends items index kept item within read are = subst (IsOpen p depth are.names text) (sym read) (are.waiting index item within)

  module _ (tree later : Tree) (ends new : Ends) (items : List Item) (index kept next : ℕ) (held after : List Item) (item further : Item) (byte sid : ℕ) (going : Bool) where
    pub stepping-next : index < length items → item ≡ get_or items index item → All (IsFolded p) text → byte ≡ get_or text item.at 0
        → further.state ≡ sid → further.at ≡ item.at + 1 → further.end ≡ item.end → further.number ≡ item.number
        → ((names : List (Option (List ℕ))) (w : List ℕ) → IsTree names tree → named_word names item.state ≡ Some w → length w + 1 ≡ depth + 1 → IsLedToState names (w ++ byte ∷ []) sid later)
        → SettlesItem p.kind further going ends new → KeepsItem going further kept next held after
        → IsStepping p depth text tree ends items index (take kept held) → IsStepping p depth text later new items (index + 1) (take next after)
    stepping-next within read folds byte_at state_is at_is end_is number_is led settles keeps are = record {
      names = to.names;
      tree_is = to.tree_is;
      nodes = λ i w e. elim (to.others i w e) [ inl before ↦ are.nodes i w before | inr here ↦ (ap (is_node p) (here ∙ front) ∙ front-node are.names item waits, subst (All (IsFolded p)) (sym here) folds-front) ];
      reached = λ w node short. let t = are.reached w node short in (t.0, to.stays t.0 w t.1);
      settling = settled-in p (depth + 1) text to.names ends new (item_numbers items) index kept next held after further going
          (omega (arith, within, length-map items (λ (it : Item). it.number))) (number-at items index item within read ∙ sym number_is)
          (settling-stays p (depth + 1) text are.names to.names ends.owns.items ends.passed (take index (item_numbers items)) (take kept held) to.stays are.settling)
          arrived settles keeps;
      waiting = All-weaker (IsOpen p depth are.names text) (IsOpen p depth to.names text)
          (λ it o. record {
            arrived = record { underway = o.arrived.underway; named = to.stays it.state (take depth (pattern_word p it.number)) o.arrived.named; unbegun = o.arrived.unbegun };
            longer = o.longer;
            unbegun = o.unbegun;
          })
          items are.waiting;
    }
      where
        waits : IsOpen p depth are.names text item
        waits = subst (IsOpen p depth are.names text) (sym read) (are.waiting index item within)

        to : IsLedToState are.names (take depth (pattern_word p item.number) ++ byte ∷ []) sid later
        to = led are.names (take depth (pattern_word p item.number)) are.tree_is waits.arrived.named (front-length are.names item waits)

        front : take depth (pattern_word p item.number) ++ byte ∷ [] ≡ take (depth + 1) (pattern_word p item.number)
        front = front-more are.names item waits byte byte_at

        folds-front : All (IsFolded p) (take depth (pattern_word p item.number) ++ byte ∷ [])
        folds-front =
            All-push (IsFolded p) (take depth (pattern_word p item.number)) byte (are.nodes item.state (take depth (pattern_word p item.number)) waits.arrived.named).1
            (subst (IsFolded p) (sym byte_at) (folds item.at 0 (at-within are.names item waits)))

        arrived : IsArrived p (depth + 1) to.names text further
        arrived = record {
          underway = led-underway are.names item waits further at_is end_is number_is;
          named = ap (named_word to.names) state_is ∙ to.named ∙ ap Some front ∙ ap (λ (k : ℕ). Some (take (depth + 1) (pattern_word p k))) (sym number_is);
          unbegun = subst (λ (k : ℕ). (i : ℕ) → p.kind ≡ LeftmostFirst → i < k → is_kept p i ≡ true → Begins (pattern_word p i) (pattern_word p k) → depth + 1 ≤ length (pattern_word p i)) (sym number_is) waits.unbegun;
        }
