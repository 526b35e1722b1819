-- One pattern more that comes to its state at a depth, and what there is once all have come.
use Rattle.std.proofs.Common.{◌≡◌, ◌≢◌, ◌∙◌, sym, refl, ap, subst, inl, inr, ℕ, ◌+◌, ◌<◌, ◌≤◌, Bool, true, false, cond, List, [], ◌∷◌, ◌++◌, length, map, take, drop, get_or, arith}
use Rattle.std.specs.Prelude.{Option, Some}
use Rattle.std.specs.List.{All, Contains}
use Rattle.std.proofs.lemmas.Bool.{cases_Bool, cases_eq, cases_lt}
use Rattle.std.proofs.lemmas.List.{append-nil, get_or-map, length-map, length-take-le, map_push, take-append-drop, take_all, take_at, take_more}
use Rattle.std.proofs.lemmas.List.Elements.{All-contains, All-push, All-weaker, Contains-append_left, Contains-push}
use Rattle.aho_core.specs.Patterns.{Patterns}
use Rattle.aho_core.specs.Trie.{is_kept, is_node, pattern_word}
use Rattle.aho_core.specs.declared.search.MatchKind.TheVariants.{LeftmostFirst}
use Rattle.aho_laws.proofs.Begins.{Begins, begins_length}
use Rattle.aho_laws.proofs.ByLinks.{left_out_by_kept, left_out_from}
use Rattle.aho_laws.proofs.Kept.{is_node-true}
use Rattle.aho_levels.specs.Growing.{AddsOwn, AreNodeNames, HasLonger, HasShorter, IsArrived, IsLevel, IsOpen, IsOwnOf, IsSettling, IsTree, KeepsItem, Passes, ReachesBelow, SettlesItem, item_numbers, own_numbers, own_of}
use Rattle.aho_levels.specs.Meaning.{ComesBefore, IsFolded, IsLess, named_word}
use Rattle.aho_levels.specs.declared.order.Item.{Item}
use Rattle.aho_levels.specs.declared.tree.Tree.{Tree}
use Rattle.aho_levels.specs.declared.trie.Ends.{Ends}
use Rattle.aho_levels.specs.declared.trie.Own.{Own}

-- no word comes before itself
not-less : (w : List ℕ) → IsLess w w → ⊥
not-less [] less = less
not-less (x ∷ w) (inl less) = absurd (omega (arith, less))
not-less (x ∷ w) (inr same) = not-less w same.1

not-above : (w : List ℕ) → ComesBefore w w → ⊥
not-above w (inl less) = absurd (omega (arith, less))
not-above w (inr same) = not-less w same.1

-- a word has one state
pub one-state : (names : List (Option (List ℕ))) (tree : Tree) → IsTree names tree → (i j : ℕ) (w : List ℕ) → named_word names i ≡ Some w → named_word names j ≡ Some w → i ≡ j
one-state names tree is i j w first second =
    elim (cases_lt i j) [
      | inl less ↦ absurd (not-above w (is.ordered i j w w less first second))
      | inr more ↦
          elim (cases_lt j i) [
            | inl less ↦ absurd (not-above w (is.ordered j i w w less second first))
            | inr same ↦ omega (arith, more, same)
          ]
    ]

-- what begins a word is its front of that length
pub begins-take : (u w : List ℕ) → Begins u w → take (length u) w ≡ u
begins-take u w b = ap (take (length u)) (sym b.1) ∙ take_at u b.0 (length u) refl

pub take-begins : (n : ℕ) (w : List ℕ) → Begins (take n w) w
take-begins n w = (drop n w, take-append-drop n w)

-- an element of a list under a map
pub from-numbers : {X : Type 0} (f : X → ℕ) (P : X → Type 0) (xs : List X) (k : ℕ) → All P xs → Contains (map f xs) k → (x : X) × P x × (f x ≡ k)
from-numbers f P [] k all c = absurd (omega (arith, c.1))
from-numbers f P (x ∷ xs) k all c =
    let lt : c.0 < length (x ∷ xs) = omega (arith, c.1, length-map (x ∷ xs) f) in
    (get_or (x ∷ xs) c.0 x, all c.0 x lt, sym (get_or-map f (x ∷ xs) c.0 x k lt) ∙ c.2)

module _ (p : Patterns) (depth : ℕ) (text : List ℕ) (names : List (Option (List ℕ))) where
  -- a pattern that ends here is kept
  ends-kept : (item : Item) → IsArrived p depth names text item → length (pattern_word p item.number) ≤ depth → is_kept p item.number ≡ true
  ends-kept item here short =
      elim (cases_Bool (is_kept p item.number)) [
        | inl kept ↦ kept
        | inr unkept ↦
            (let t = left_out_by_kept p item.number unkept in
            absurd (omega (arith, here.unbegun t.1.0 t.0 t.1.1 t.1.2 t.1.3, t.1.4, short)))
      ]

  module _ (old new : Ends) (arrived : List ℕ) (kept : List Item) (item : Item) (are : IsSettling p depth text names old.owns.items old.passed arrived kept) (here : IsArrived p depth names text item) where
    reached-now : All (λ (k : ℕ). (i : ℕ) × (named_word names i ≡ Some (take depth (pattern_word p k)))) (arrived ++ item.number ∷ [])
    reached-now = All-push (λ (k : ℕ). (i : ℕ) × (named_word names i ≡ Some (take depth (pattern_word p k)))) arrived item.number are.reached (item.state, here.named)

    -- it ends
    pub settled-end : item.at ≡ item.end → AddsOwn (own_of item) old new → IsSettling p depth text names new.owns.items new.passed (arrived ++ item.number ∷ []) kept
    settled-end at_end added = record {
      owns_are = subst (All (IsOwnOf p names)) (sym added.owns) (All-push (IsOwnOf p names) old.owns.items (own_of item) are.owns_are own_is);
      ended = λ k lt is_kept_k short. more k (are.ended k lt is_kept_k short);
      ends = All-push (λ (k : ℕ). is_kept p k ≡ true → length (pattern_word p k) ≤ depth → Contains (own_numbers new.owns.items) k) arrived item.number
          (All-weaker (λ (k : ℕ). is_kept p k ≡ true → length (pattern_word p k) ≤ depth → Contains (own_numbers old.owns.items) k) (λ (k : ℕ). is_kept p k ≡ true → length (pattern_word p k) ≤ depth → Contains (own_numbers new.owns.items) k) (λ k f is_kept_k short. more k (f is_kept_k short)) arrived are.ends)
          (λ is_kept_k short. subst (λ (ns : List ℕ). Contains ns item.number) (sym numbers_are) (Contains-push (own_numbers old.owns.items) item.number));
      goes_on = All-push (λ (k : ℕ). is_kept p k ≡ true → depth < length (pattern_word p k) → Contains (item_numbers kept) k) arrived item.number are.goes_on (λ is_kept_k long. absurd (omega (arith, long, length_is)));
      reached = reached-now;
      kept_are = are.kept_are;
      longer = are.longer;
      passed_are = subst (λ (q : ℕ). All (λ (it : Item). it.state ≤ q) kept) (sym added.passed) are.passed_are;
      first = λ is. firsts is;
    }
      where
        length_is : length (pattern_word p item.number) ≡ depth
        length_is = omega (arith, here.underway.whole, at_end)

        own_is : IsOwnOf p names (own_of item)
        own_is = record {
          numbered = here.underway.numbered;
          kept = ends-kept item here (omega (arith, length_is));
          named = here.named ∙ ap Some (take_all depth (pattern_word p item.number) (omega (arith, length_is)));
        }

        numbers_are : own_numbers new.owns.items ≡ own_numbers old.owns.items ++ item.number ∷ []
        numbers_are = ap own_numbers added.owns ∙ map_push (λ (own : Own). own.number) old.owns.items (own_of item)

        more : (k : ℕ) → Contains (own_numbers old.owns.items) k → Contains (own_numbers new.owns.items) k
        more k c = subst (λ (ns : List ℕ). Contains ns k) (sym numbers_are) (Contains-append_left (own_numbers old.owns.items) (item.number ∷ []) k c)

        firsts : p.kind ≡ LeftmostFirst → All (λ (it : Item). All (λ (own : Own). own.state ≡ it.state → it.number < own.number) new.owns.items) kept
        firsts is = λ n d lt.
            subst (All (λ (own : Own). own.state ≡ (get_or kept n d).state → (get_or kept n d).number < own.number)) (sym added.owns)
            (All-push (λ (own : Own). own.state ≡ (get_or kept n d).state → (get_or kept n d).number < own.number) old.owns.items (own_of item) (are.first is n d lt)
            (λ same. absurd (omega (arith, same, are.passed_are n d lt, added.unpassed))))

    -- it goes on
    module _ (going : Bool) (further : item.at ≢ item.end) (passes : Passes p.kind item going old new) where
      longer-is : item.at < item.end
      longer-is = omega (arith, further, here.underway.ordered)

      length-more : depth < length (pattern_word p item.number)
      length-more = omega (arith, here.underway.whole, longer-is)

      same-numbers : (k : ℕ) → Contains (own_numbers old.owns.items) k → Contains (own_numbers new.owns.items) k
      same-numbers k c = subst (λ (owns : List Own). Contains (own_numbers owns) k) (sym passes.owns) c

      passed-now : All (λ (it : Item). it.state ≤ new.passed) kept
      passed-now = All-weaker (λ (it : Item). it.state ≤ old.passed) (λ (it : Item). it.state ≤ new.passed) (λ it le. omega (arith, le, passes.risen, passes.passed)) kept are.passed_are

      ends-now : All (λ (k : ℕ). is_kept p k ≡ true → length (pattern_word p k) ≤ depth → Contains (own_numbers new.owns.items) k) (arrived ++ item.number ∷ [])
      ends-now =
          All-push (λ (k : ℕ). is_kept p k ≡ true → length (pattern_word p k) ≤ depth → Contains (own_numbers new.owns.items) k) arrived item.number
          (All-weaker (λ (k : ℕ). is_kept p k ≡ true → length (pattern_word p k) ≤ depth → Contains (own_numbers old.owns.items) k) (λ (k : ℕ). is_kept p k ≡ true → length (pattern_word p k) ≤ depth → Contains (own_numbers new.owns.items) k) (λ k f is_kept_k short. same-numbers k (f is_kept_k short)) arrived are.ends)
          (λ is_kept_k short. absurd (omega (arith, short, length-more)))

      -- and is kept
      pub settled-kept : going ≡ true → IsSettling p depth text names new.owns.items new.passed (arrived ++ item.number ∷ []) (kept ++ item ∷ [])
      settled-kept yes_it = record {
        owns_are = subst (All (IsOwnOf p names)) (sym passes.owns) are.owns_are;
        ended = λ k lt is_kept_k short. same-numbers k (are.ended k lt is_kept_k short);
        ends = ends-now;
        goes_on = All-push (λ (k : ℕ). is_kept p k ≡ true → depth < length (pattern_word p k) → Contains (item_numbers (kept ++ item ∷ [])) k) arrived item.number
            (All-weaker (λ (k : ℕ). is_kept p k ≡ true → depth < length (pattern_word p k) → Contains (item_numbers kept) k) (λ (k : ℕ). is_kept p k ≡ true → depth < length (pattern_word p k) → Contains (item_numbers (kept ++ item ∷ [])) k)
            (λ k f is_kept_k long. subst (λ (ns : List ℕ). Contains ns k) (sym numbers_are) (Contains-append_left (item_numbers kept) (item.number ∷ []) k (f is_kept_k long))) arrived are.goes_on)
            (λ is_kept_k long. subst (λ (ns : List ℕ). Contains ns item.number) (sym numbers_are) (Contains-push (item_numbers kept) item.number));
        reached = reached-now;
        kept_are = All-push (IsArrived p depth names text) kept item are.kept_are here;
        longer = All-push (λ (it : Item). it.at < it.end) kept item are.longer longer-is;
        passed_are = All-push (λ (it : Item). it.state ≤ new.passed) kept item passed-now (omega (arith, passes.passed));
        first = λ is.
            subst (λ (owns : List Own). All (λ (it : Item). All (λ (own : Own). own.state ≡ it.state → it.number < own.number) owns) (kept ++ item ∷ [])) (sym passes.owns)
            (All-push (λ (it : Item). All (λ (own : Own). own.state ≡ it.state → it.number < own.number) old.owns.items) kept item (are.first is) (passes.first yes_it is));
      }
        where
          numbers_are : item_numbers (kept ++ item ∷ []) ≡ item_numbers kept ++ item.number ∷ []
          numbers_are = map_push (λ (it : Item). it.number) kept item

      -- or is left out
      pub settled-dropped : going ≡ false → IsSettling p depth text names new.owns.items new.passed (arrived ++ item.number ∷ []) kept
      settled-dropped no_it = record {
        owns_are = subst (All (IsOwnOf p names)) (sym passes.owns) are.owns_are;
        ended = λ k lt is_kept_k short. same-numbers k (are.ended k lt is_kept_k short);
        ends = ends-now;
        goes_on = All-push (λ (k : ℕ). is_kept p k ≡ true → depth < length (pattern_word p k) → Contains (item_numbers kept) k) arrived item.number are.goes_on (λ is_kept_k long. absurd (out is_kept_k));
        reached = reached-now;
        kept_are = are.kept_are;
        longer = are.longer;
        passed_are = passed-now;
        first = λ is.
            subst (λ (owns : List Own). All (λ (it : Item). All (λ (own : Own). own.state ≡ it.state → it.number < own.number) owns) kept) (sym passes.owns) (are.first is);
      }
        where
          out : is_kept p item.number ≡ true → ⊥
          out is_kept_it =
              let t = passes.dropped no_it in
              let own = t.1.0 in
              let o = All-contains (IsOwnOf p names) old.owns.items own are.owns_are t.1.1 in
              let words : Some (pattern_word p own.number) ≡ Some (take depth (pattern_word p item.number)) = sym o.named ∙ ap (named_word names) t.1.2 ∙ here.named in
              let word : pattern_word p own.number ≡ take depth (pattern_word p item.number) = cc in
              let short : length (pattern_word p own.number) ≡ depth = ap length word ∙ length-take-le depth (pattern_word p item.number) (omega (arith, length-more)) in
              let begins : Begins (pattern_word p own.number) (pattern_word p item.number) = subst (λ (u : List ℕ). Begins u (pattern_word p item.number)) (sym word) (take-begins depth (pattern_word p item.number)) in
              let before : own.number < item.number =
              elim (cases_eq own.number item.number) [
                | inl same ↦ absurd (omega (arith, ap (λ (k : ℕ). length (pattern_word p k)) same, short, length-more))
                | inr other ↦ omega (arith, other, t.1.3)
              ] in
              let clash : true ≡ false = sym is_kept_it ∙ left_out_from p own.number item.number t.0 before begins (omega (arith, short, length-more)) in
              cc

  -- in either case
  pub settled : (old new : Ends) (arrived : List ℕ) (kept : List Item) (item : Item) (going : Bool) → IsSettling p depth text names old.owns.items old.passed arrived kept → IsArrived p depth names text item → SettlesItem p.kind item going old new
      → IsSettling p depth text names new.owns.items new.passed (arrived ++ item.number ∷ []) (kept ++ cond going (item ∷ []) [])
  settled old new arrived kept item going are here (inl ended) =
      subst (IsSettling p depth text names new.owns.items new.passed (arrived ++ item.number ∷ [])) (sym (ap (λ (b : Bool). kept ++ cond b (item ∷ []) []) ended.1 ∙ append-nil kept))
      (settled-end old new arrived kept item are here ended.0 ended.2)
  settled old new arrived kept item going are here (inr further) =
      elim (cases_Bool going) [
        | inl goes ↦
            subst (IsSettling p depth text names new.owns.items new.passed (arrived ++ item.number ∷ [])) (sym (ap (λ (b : Bool). kept ++ cond b (item ∷ []) []) goes))
            (settled-kept old new arrived kept item are here going further.0 further.1 goes)
        | inr out ↦
            subst (IsSettling p depth text names new.owns.items new.passed (arrived ++ item.number ∷ [])) (sym (ap (λ (b : Bool). kept ++ cond b (item ∷ []) []) out ∙ append-nil kept))
            (settled-dropped old new arrived kept item are here going further.0 further.1 out)
      ]

  -- as the items stand in memory
  pub settled-in : (old new : Ends) (numbers : List ℕ) (index kept next : ℕ) (items later : List Item) (item : Item) (going : Bool) → index < length numbers → get_or numbers index 0 ≡ item.number
      → IsSettling p depth text names old.owns.items old.passed (take index numbers) (take kept items) → IsArrived p depth names text item → SettlesItem p.kind item going old new → KeepsItem going item kept next items later
      → IsSettling p depth text names new.owns.items new.passed (take (index + 1) numbers) (take next later)
  settled-in old new numbers index kept next items later item going within number_is are here settles keeps =
      subst (IsSettling p depth text names new.owns.items new.passed (take (index + 1) numbers)) (sym keeps.front)
      (subst (λ (ns : List ℕ). IsSettling p depth text names new.owns.items new.passed ns (take kept items ++ cond going (item ∷ []) [])) (sym (take_more numbers index 0 within ∙ ap (λ (k : ℕ). take index numbers ++ k ∷ []) number_is))
      (settled old new (take index numbers) (take kept items) item going are here settles))

  -- more names change nothing
  pub settling-stays : (later : List (Option (List ℕ))) (owns : List Own) (passed : ℕ) (arrived : List ℕ) (kept : List Item) → ((i : ℕ) (w : List ℕ) → named_word names i ≡ Some w → named_word later i ≡ Some w)
      → IsSettling p depth text names owns passed arrived kept → IsSettling p depth text later owns passed arrived kept
  settling-stays later owns passed arrived kept stays are = record {
    owns_are = All-weaker (IsOwnOf p names) (IsOwnOf p later) (λ own o. record { numbered = o.numbered; kept = o.kept; named = stays own.state (pattern_word p own.number) o.named }) owns are.owns_are;
    ended = are.ended;
    ends = are.ends;
    goes_on = are.goes_on;
    reached = All-weaker (λ (k : ℕ). (i : ℕ) × (named_word names i ≡ Some (take depth (pattern_word p k)))) (λ (k : ℕ). (i : ℕ) × (named_word later i ≡ Some (take depth (pattern_word p k)))) (λ k t. (t.0, stays t.0 (take depth (pattern_word p k)) t.1)) arrived are.reached;
    kept_are = All-weaker (IsArrived p depth names text) (IsArrived p depth later text) (λ item a. record { underway = a.underway; named = stays item.state (take depth (pattern_word p item.number)) a.named; unbegun = a.unbegun }) kept are.kept_are;
    longer = are.longer;
    passed_are = are.passed_are;
    first = are.first;
  }

  -- once all have come
  pub all-settled : (tree : Tree) (ends : Ends) (arrived : List ℕ) (kept : List Item) → IsTree names tree → AreNodeNames p names → ReachesBelow p depth names → HasLonger p depth arrived → All (IsFolded p) text
      → IsSettling p depth text names ends.owns.items ends.passed arrived kept → IsLevel p depth text tree ends kept
  all-settled tree ends arrived kept is nodes below all folds are = record {
    names = names;
    tree_is = is;
    nodes = nodes;
    reached = λ w node short. elim (cases_lt (length w) depth) [ inl less ↦ below w node less | inr ge ↦ at_depth w node (omega (arith, short, ge)) ];
    owns = are.owns_are;
    ended = ended-now;
    open_ones = λ n d lt. open-now (get_or kept n d) (are.kept_are n d lt) (are.longer n d lt) (λ first_is. are.first first_is n d lt);
    further = λ k lt is_kept_k long. All-contains (λ (i : ℕ). is_kept p i ≡ true → depth < length (pattern_word p i) → Contains (item_numbers kept) i) arrived k are.goes_on (all k lt is_kept_k (omega (arith, long))) is_kept_k (omega (arith, long));
    folded = folds;
  }
    where
      ended-now : HasShorter p (depth + 1) (own_numbers ends.owns.items)
      ended-now k lt is_kept_k short =
          elim (cases_lt (length (pattern_word p k)) depth) [
            | inl less ↦ are.ended k lt is_kept_k less
            | inr ge ↦ All-contains (λ (i : ℕ). is_kept p i ≡ true → length (pattern_word p i) ≤ depth → Contains (own_numbers ends.owns.items) i) arrived k are.ends (all k lt is_kept_k ge) is_kept_k (omega (arith, short))
          ]

      at_depth : (w : List ℕ) → is_node p w ≡ true → length w ≡ depth → (i : ℕ) × (named_word names i ≡ Some w)
      at_depth [] node deep = (1, is.root)
      at_depth (x ∷ w) node deep =
          let t = is_node-true p x w node in
          let there = All-contains (λ (k : ℕ). (i : ℕ) × (named_word names i ≡ Some (take depth (pattern_word p k)))) arrived t.0 are.reached (all t.0 t.1 t.2 (omega (arith, deep, begins_length (x ∷ w) (pattern_word p t.0) t.3))) in
          (there.0, there.1 ∙ ap Some (ap (λ (n : ℕ). take n (pattern_word p t.0)) (sym deep) ∙ begins-take (x ∷ w) (pattern_word p t.0) t.3))

      open-now : (item : Item) → IsArrived p depth names text item → item.at < item.end → (p.kind ≡ LeftmostFirst → All (λ (own : Own). own.state ≡ item.state → item.number < own.number) ends.owns.items) → IsOpen p depth names text item
      open-now item here long first = record {
        arrived = here;
        longer = long;
        unbegun = λ i first_is before is_kept_i begins.
            elim (cases_lt depth (length (pattern_word p i))) [
              | inl more ↦ omega (arith, more)
              | inr le ↦
                  (let deep : length (pattern_word p i) ≡ depth = omega (arith, le, here.unbegun i first_is before is_kept_i begins) in
                  let o = from-numbers (λ (own : Own). own.number) (λ (own : Own). IsOwnOf p names own × (own.state ≡ item.state → item.number < own.number)) ends.owns.items i
                  (λ n d lt. (are.owns_are n d lt, first first_is n d lt))
                  (ended-now i (omega (arith, before, here.underway.numbered)) is_kept_i (omega (arith, deep))) in
                  let word : pattern_word p o.0.number ≡ take depth (pattern_word p item.number) =
                  ap (pattern_word p) o.2 ∙ sym (begins-take (pattern_word p i) (pattern_word p item.number) begins) ∙ ap (λ (n : ℕ). take n (pattern_word p item.number)) deep in
                  let state : o.0.state ≡ item.state = one-state names tree is o.0.state item.state (take depth (pattern_word p item.number)) (o.1.0.named ∙ ap Some word) here.named in
                  absurd (omega (arith, o.1.1 state, o.2, before)))
            ];
      }
