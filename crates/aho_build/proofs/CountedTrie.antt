-- The trie with its states in order and its tables counted: one byte more, one pattern more.
use Rattle.std.proofs.Common.{◌≡◌, ◌≢◌, ℕ, ◌+◌, ◌-◌, ◌<◌, ◌≤◌, Bool, true, false, not, ◌&&◌, cond, nat_eq, nat_lt, List, [], ◌∷◌, ◌++◌, length, get_or, take, Option, Some, None, refl, sym, ap, subst, ◌∙◌, inl, inr, arith}
use Rattle.std.proofs.Math.ListN.{set}
use Rattle.std.proofs.lemmas.Bool.{cases_Bool, cases_eq, cases_lt, lt-ltb, or_cases, MatchBool-at_true, MatchBool-at_false}
use Rattle.std.proofs.lemmas.Bool.Decides.{nat_tests}
use Rattle.std.proofs.lemmas.List.{get_or_default, get_or_push, get_or_past, length_push, length-map, length-set, length-take-le}
use Rattle.std.proofs.lemmas.List.Sums.{sum_by-append}
use Rattle.std.specs.Prelude.{count_by, sum_by}
use Rattle.std.specs.List.{range_with_len}
use Rattle.aho_core.specs.Among.{is_node_among}
use Rattle.aho_core.specs.Bytes.{folded, folded_word, opposite, folded_by}
use Rattle.aho_core.specs.Patterns.{Patterns}
use Rattle.aho_core.specs.Trie.{begins, is_kept, pattern_word}
use Rattle.aho_build.specs.TrieGrowth.{Grows, HasChild, ListsMore, EndsAt, missing_in, missing_both}
use Rattle.aho_build.specs.Trie.{AreListed, HoldsFirst, HoldsWith, longer, missing_at, IsTrie, IsTrieOf, IsTrieWith, names_before, names_of}
use Rattle.aho_build.specs.StateNames.{name_at}
use Rattle.aho_build.specs.Sizes.{kept_before, nodes_before, transitions_for, bytes_leading_to, nodes_with, HasNodes}
use Rattle.aho_table.specs.Table.{State, new_state, state_at, next_in, transition_at, lists_byte, lists_transition, IsRising, push_match, transitions_count, matches_count}
use Rattle.aho_build.proofs.NamesOfTries.{name_at-below}
use Rattle.aho_build.proofs.PatternAdded.{IsTrieWith-end, IsTrieOf-left_out, IsTrieWith-back}
use Rattle.aho_build.proofs.OneWordMore.{AreFirst-four}
use Rattle.aho_build.proofs.BytesAdded.{words_with, IsTrieWith-child, IsTrieWith-start, not_longer, folded_word-take-more}
use Rattle.aho_build.proofs.LeadingBytes.{leading_count}
use Rattle.aho_build.proofs.NodesInOrder.{nodes_with-none, nodes_with-new, nodes_with-there, nodes_with-node, nodes_before-kept, nodes_before-left_out, kept_before-kept, kept_before-left_out, names_of-push}
use Rattle.aho_table.proofs.States.{part-set, transitions_count-set, matches_count-set}

-- what holds of the first states' names
apart_unnamed : (names : List (Option (List ℕ))) (state i : ℕ) (word : List ℕ) → name_at names state ≡ Some word → name_at names i ≡ None → i ≢ state
apart_unnamed names state i word at none e = let clash : Some word ≡ None = sym at ∙ ap (name_at names) (sym e) ∙ none in cc

late_state : (names : List (Option (List ℕ))) (state x : ℕ) (word : List ℕ) → name_at names state ≡ Some (x ∷ word) → name_at names 0 ≡ None → name_at names 1 ≡ None
    → name_at names 2 ≡ Some [] → name_at names 3 ≡ None → 4 ≤ state
late_state names state x word at dead fail root anchored =
    let a = apart_unnamed names state 0 (x ∷ word) at dead in
    let b = apart_unnamed names state 1 (x ∷ word) at fail in
    let c : 2 ≢ state = λ e. let clash : Some (x ∷ word) ≡ Some [] = sym at ∙ ap (name_at names) (sym e) ∙ root in cc in
    let d = apart_unnamed names state 3 (x ∷ word) at anchored in
    elim (cases_lt state 4) [ inr late ↦ late | inl early ↦ absurd (omega (arith, a, b, c, d)) ]

opposite-small : (byte : ℕ) → byte < 256 → opposite byte < 256
opposite-small byte small = grind (arith, nat_tests)

opposite-folds : (byte : ℕ) → folded_by true (opposite byte) ≡ folded_by true byte
opposite-folds byte = grind (arith, nat_tests)

-- the lists after one state more
module _ (ignore_case : Bool) (parent byte depth : ℕ) (old new : List State) (grows : Grows ignore_case parent byte depth old new) (lists : ListsMore ignore_case parent byte old new) where
  full_after : (i other : ℕ) → i < length old → lists_byte old i other ≡ true → lists_byte new i other ≡ true
  full_after i other below was =
      elim (cases_eq i parent) [
        | inl here ↦ ap (λ (n : ℕ). lists_byte new n other) here ∙ lists.listed_more other (ap (λ (n : ℕ). lists_byte old n other) (sym here) ∙ was)
        | inr there ↦ lists.listed_old i other below there ∙ was
      ]

  leading_after : 4 ≤ length old → AreListed old → (i other : ℕ) → 4 ≤ i → other < 256 → lists_byte new i other ≡ true → next_in new i other ≢ 1
  leading_after four listed i other late small is one =
      elim (cases_eq i (length old)) [
        | inl last ↦ (let clash : false ≡ true = sym (ap (λ (n : ℕ). lists_byte new n other) last ∙ lists.listed_new other) ∙ is in cc)
        | inr not_last ↦
            elim (cases_lt i (length old)) [
              | inr past ↦
                  (let none : lists_byte new i other ≡ false = ap (λ (r : State). lists_transition r.transitions other) (get_or_past new i (new_state 0) (omega (arith, past, not_last, grows.sized))) in
                  let clash : false ≡ true = sym none ∙ is in
                  cc)
              | inl below ↦
                  elim (cases_eq i parent) [
                    | inr there ↦
                        listed.leading i other late small (sym (lists.listed_old i other below there) ∙ is) (sym (grows.transition_old i other below there) ∙ one)
                    | inl here ↦
                        elim (cases_eq (folded_by ignore_case other) (folded_by ignore_case byte)) [
                          | inl same ↦ omega (arith, four, grows.transition_byte other small same, ap (λ (n : ℕ). next_in new n other) here, one)
                          | inr apart ↦
                              listed.leading i other late small
                              (ap (λ (n : ℕ). lists_byte old n other) here ∙ sym (lists.listed_other other apart) ∙ ap (λ (n : ℕ). lists_byte new n other) (sym here) ∙ is)
                              (ap (λ (n : ℕ). next_in old n other) here ∙ sym (grows.transition_other other small apart) ∙ ap (λ (n : ℕ). next_in new n other) (sym here) ∙ one)
                        ]
                  ]
            ]
      ]

  AreListed-grows : 4 ≤ length old → parent ≢ 1 → AreListed old → AreListed new
  AreListed-grows four apart listed = record {
    rising = lists.rising listed.rising;
    dead_full = λ other small. full_after 0 other (omega (arith, four)) (listed.dead_full other small);
    root_full = λ other small. full_after 2 other (omega (arith, four)) (listed.root_full other small);
    anchored_full = λ other small. full_after 3 other (omega (arith, four)) (listed.anchored_full other small);
    fail_none = λ other. lists.listed_old 1 other (omega (arith, four)) (λ e. apart (sym e)) ∙ listed.fail_none other;
    leading = leading_after four listed;
  }

-- the entries into a new node
module _ (p : Patterns) (is_word : List ℕ → Bool) (names : List (Option (List ℕ))) (states : List State) (trie : IsTrie p is_word 1 names states) (listed : AreListed states)
    (state byte : ℕ) (small : byte < 256) where
  missing_none : (other : ℕ) → lists_byte states state other ≡ true → missing_in states state other ≡ 0
  missing_none other is = ap (λ (b : Bool). cond b 0 1) is

  missing_one : (word : List ℕ) (x other : ℕ) → name_at names state ≡ Some (x ∷ word) → is_word (longer p (x ∷ word) other) ≡ false → other < 256 → missing_in states state other ≡ 1
  missing_one word x other at absent tiny =
      let late = late_state names state x word at trie.dead trie.fail trie.root trie.anchored in
      let one : next_in states state other ≡ 1 =
      MatchBool-at_false (name_at names (next_in states state other) ≡ Some (longer p (x ∷ word) other)) (next_in states state other ≡ missing_at 1 (x ∷ word)) absent (trie.transitions state (x ∷ word) other at tiny) in
      elim (cases_Bool (lists_byte states state other)) [
        | inl is ↦ absurd (listed.leading state other late tiny is one)
        | inr none ↦ ap (λ (b : Bool). cond b 0 1) none
      ]

  missing-root : name_at names state ≡ Some [] → missing_both p.ignore_case states state byte ≡ transitions_for p (longer p [] byte)
  missing-root at =
      let here : state ≡ 2 = trie.unique state 2 [] at trie.root in
      let full = λ (other : ℕ) (tiny : other < 256). missing_none other (ap (λ (n : ℕ). lists_byte states n other) here ∙ listed.root_full other tiny) in
      ap (λ (n : ℕ). n + cond (p.ignore_case && not (nat_eq (opposite byte) byte)) (missing_in states state (opposite byte)) 0) (full byte small)
      ∙ ap (λ (n : ℕ). 0 + cond (p.ignore_case && not (nat_eq (opposite byte) byte)) n 0) (full (opposite byte) (opposite-small byte small))
      ∙ nothing (p.ignore_case && not (nat_eq (opposite byte) byte))
    where
      nothing : (b : Bool) → 0 + cond b 0 0 ≡ 0
      nothing true = refl
      nothing false = refl

  bytes_leading_to-longer : (word : List ℕ) → bytes_leading_to p (longer p word byte) ≡ 1 + cond (p.ignore_case && not (nat_eq (opposite byte) byte)) 1 0
  bytes_leading_to-longer word =
      let last : get_or (longer p word byte) (length (longer p word byte) - 1) 0 ≡ folded p byte =
      get_or_push word (folded p byte) 0 (length (longer p word byte) - 1) (omega (arith, length_push word (folded p byte))) in
      ap (λ (n : ℕ). count_by (λ other. nat_eq (folded p other) n) (range_with_len 0 256)) last ∙ leading_count p.ignore_case byte small

  missing-longer : (x : ℕ) (word : List ℕ) → name_at names state ≡ Some (x ∷ word) → is_word (longer p (x ∷ word) byte) ≡ false
      → missing_both p.ignore_case states state byte ≡ transitions_for p (longer p (x ∷ word) byte)
  missing-longer x word at absent =
      let long : nat_lt 1 (length (longer p (x ∷ word) byte)) ≡ true = lt-ltb 1 (length (longer p (x ∷ word) byte)) (omega (arith, length_push word (folded p byte))) in
      ap (λ (n : ℕ). n + cond (p.ignore_case && not (nat_eq (opposite byte) byte)) (missing_in states state (opposite byte)) 0) (missing_one word x byte at absent small)
      ∙ ap (λ (n : ℕ). 1 + n) (other_case p.ignore_case refl)
      ∙ sym (bytes_leading_to-longer (x ∷ word))
      ∙ ap (λ (b : Bool). cond b (bytes_leading_to p (longer p (x ∷ word) byte)) 0) (sym long)
    where
      other_case : (b : Bool) → p.ignore_case ≡ b → cond (b && not (nat_eq (opposite byte) byte)) (missing_in states state (opposite byte)) 0 ≡ cond (b && not (nat_eq (opposite byte) byte)) 1 0
      other_case false e = refl
      other_case true e =
          let folds : folded p (opposite byte) ≡ folded p byte = ap (λ (b : Bool). folded_by b (opposite byte)) e ∙ opposite-folds byte ∙ ap (λ (b : Bool). folded_by b byte) (sym e) in
          let absent_too : is_word (longer p (x ∷ word) (opposite byte)) ≡ false = ap (λ (n : ℕ). is_word ((x ∷ word) ++ n ∷ [])) folds ∙ absent in
          ap (λ (n : ℕ). cond (not (nat_eq (opposite byte) byte)) n 0) (missing_one word x (opposite byte) at absent_too (opposite-small byte small))

  pub missing-entries : (word : List ℕ) → name_at names state ≡ Some word → is_word (longer p word byte) ≡ false → missing_both p.ignore_case states state byte ≡ transitions_for p (longer p word byte)
  missing-entries [] at absent = missing-root at
  missing-entries (x ∷ word) at absent = missing-longer x word at absent

HasNodes-push : (p : Patterns) (words : List (List ℕ)) (word : List ℕ) (kept : ℕ) (old new : List State) → length new ≡ length old + 1 → transitions_count new ≡ transitions_count old + transitions_for p word
    → matches_count new ≡ matches_count old → HasNodes p words kept old → HasNodes p (words ++ word ∷ []) kept new
HasNodes-push p words word kept old new sized more same has = record {
  state_count = omega (arith, sized, has.state_count, length_push words word);
  transitions = by (transitions_for p) more has.transitions;
  matches = same ∙ has.matches;
}
  where
    by : (f : List ℕ → ℕ) → transitions_count new ≡ transitions_count old + f word → transitions_count old ≡ 769 + sum_by f words → transitions_count new ≡ 769 + sum_by f (words ++ word ∷ [])
    by f e was = omega (arith, e, was, sum_by-append f words (word ∷ []))

module _ (p : Patterns) (number : ℕ) where
  abbrev names_with : List ℕ → List (Option (List ℕ))
  names_with more = names_of (nodes_with p number more)

  -- no bytes of a pattern yet
  pub HoldsWith-start : (states : List State) → HoldsFirst p number states → HoldsWith p number [] states
  HoldsWith-start states holds = record {
    trie = subst (λ (words : List (List ℕ)). IsTrieWith p number [] (names_of words) states) (sym (nodes_with-none p number)) (IsTrieWith-start p number (names_before p number) states holds.trie);
    counted = subst (λ (words : List (List ℕ)). HasNodes p words (length (kept_before p number)) states) (sym (nodes_with-none p number))
        (record { state_count = holds.counted.state_count; transitions = holds.counted.transitions; matches = holds.counted.matches });
    listed = holds.listed;
  }

  -- one byte more, by which a state is reached that was there
  there-child : (more : List ℕ) (byte sid : ℕ) (names' : List (Option (List ℕ))) (old new : List State) → is_node_among p number (longer p more byte) ≡ true
      → HoldsWith p number more old → IsTrieWith p number (longer p more byte) names' new → name_at names' sid ≡ Some (longer p more byte) → names' ≡ names_with more → new ≡ old
      → HoldsWith p number (longer p more byte) new × (name_at (names_with (longer p more byte)) sid ≡ Some (longer p more byte))
  there-child more byte sid names' old new node holds trie held named same =
      let words : nodes_with p number (longer p more byte) ≡ nodes_with p number more = nodes_with-there p number more (folded p byte) node in
      let names_are : names' ≡ names_with (longer p more byte) = named ∙ ap names_of (sym words) in (
        record {
          trie = subst (λ (names : List (Option (List ℕ))). IsTrieWith p number (longer p more byte) names new) names_are trie;
          counted = subst (λ (states : List State). HasNodes p (nodes_with p number (longer p more byte)) (length (kept_before p number)) states) (sym same)
              (subst (λ (w : List (List ℕ)). HasNodes p w (length (kept_before p number)) old) (sym words) holds.counted);
          listed = subst AreListed (sym same) holds.listed;
        },
        ap (λ (names : List (Option (List ℕ))). name_at names sid) (sym names_are) ∙ held,
      )

  -- and one by which a new state is
  new-child : (more : List ℕ) (state byte sid : ℕ) (names' : List (Option (List ℕ))) (old new : List State) → byte < 256 → is_node_among p number (longer p more byte) ≡ false
      → HoldsWith p number more old → name_at (names_with more) state ≡ Some more
      → IsTrieWith p number (longer p more byte) names' new → name_at names' sid ≡ Some (longer p more byte)
      → names' ≡ names_with more ++ Some (longer p more byte) ∷ [] → Grows p.ignore_case state byte (length more + 1) old new → ListsMore p.ignore_case state byte old new
      → HoldsWith p number (longer p more byte) new × (name_at (names_with (longer p more byte)) sid ≡ Some (longer p more byte))
  new-child more state byte sid names' old new small no_node holds at trie held named grows lists =
      let words : nodes_with p number (longer p more byte) ≡ nodes_with p number more ++ longer p more byte ∷ [] = nodes_with-new p number more (folded p byte) no_node in
      let names_are : names' ≡ names_with (longer p more byte) = named ∙ sym (names_of-push (nodes_with p number more) (longer p more byte)) ∙ ap names_of (sym words) in
      let absent : words_with p number more (longer p more byte) ≡ false =
      elim (cases_Bool (words_with p number more (longer p more byte))) [
        | inr none ↦ none
        | inl some ↦
            elim (or_cases (is_node_among p number (longer p more byte)) (begins (longer p more byte) more) some) [
              | inl node ↦ (let clash : true ≡ false = sym node ∙ no_node in cc)
              | inr front ↦ absurd (not_longer p number more byte front)
            ]
      ] in
      let entries = missing-entries p (words_with p number more) (names_with more) old holds.trie.trie holds.listed state byte small more at absent in (
        record {
          trie = subst (λ (names : List (Option (List ℕ))). IsTrieWith p number (longer p more byte) names new) names_are trie;
          counted = subst (λ (w : List (List ℕ)). HasNodes p w (length (kept_before p number)) new) (sym words)
              (HasNodes-push p (nodes_with p number more) (longer p more byte) (length (kept_before p number)) old new grows.sized
              (lists.transitions_more holds.listed.rising ∙ ap (λ (n : ℕ). transitions_count old + n) entries) lists.matches_same holds.counted);
          listed = AreListed-grows p.ignore_case state byte (length more + 1) old new grows lists (AreFirst-four (names_with more) old holds.trie.first)
              (λ e. let clash : Some more ≡ None = sym at ∙ ap (name_at (names_with more)) e ∙ holds.trie.trie.fail in cc) holds.listed;
        },
        ap (λ (names : List (Option (List ℕ))). name_at names sid) (sym names_are) ∙ held,
      )

  HoldsWith-child : (more : List ℕ) (state byte sid : ℕ) (old new : List State) → byte < 256 → HoldsWith p number more old → name_at (names_with more) state ≡ Some more
      → HasChild p.ignore_case state byte (length more + 1) old new sid
      → HoldsWith p number (longer p more byte) new × (name_at (names_with (longer p more byte)) sid ≡ Some (longer p more byte))
  HoldsWith-child more state byte sid old new small holds at child =
      let grown = IsTrieWith-child p number more (names_with more) old new state byte sid small holds.trie at child in
      elim (cases_Bool (is_node_among p number (longer p more byte))) [
        | inl node ↦
            (let same = MatchBool-at_true ((grown.0 ≡ names_with more) × (new ≡ old))
            ((grown.0 ≡ names_with more ++ Some (longer p more byte) ∷ []) × Grows p.ignore_case state byte (length more + 1) old new × ListsMore p.ignore_case state byte old new) node grown.3 in
            there-child more byte sid grown.0 old new node holds grown.1 grown.2 same.0 same.1)
        | inr no_node ↦
            (let more_of = MatchBool-at_false ((grown.0 ≡ names_with more) × (new ≡ old))
            ((grown.0 ≡ names_with more ++ Some (longer p more byte) ∷ []) × Grows p.ignore_case state byte (length more + 1) old new × ListsMore p.ignore_case state byte old new) no_node grown.3 in
            new-child more state byte sid grown.0 old new small no_node holds at grown.1 grown.2 more_of.0 more_of.1 more_of.2)
      ]

  -- where the walk has passed nodes alone, nothing was added
  pub HoldsWith-back : (more : List ℕ) (states : List State) → is_node_among p number more ≡ true → HoldsWith p number more states → HoldsFirst p number states
  HoldsWith-back more states node holds =
      let words : nodes_with p number more ≡ nodes_before p number = nodes_with-node p number more node in
      let has : HasNodes p (nodes_before p number) (length (kept_before p number)) states = subst (λ (w : List (List ℕ)). HasNodes p w (length (kept_before p number)) states) words holds.counted in
      record {
        trie = subst (λ (w : List (List ℕ)). IsTrieOf p number (names_of w) states) words (IsTrieWith-back p number more (names_with more) states node holds.trie);
        counted = record { state_count = has.state_count; transitions = has.transitions; matches = has.matches };
        listed = holds.listed;
      }

  -- a pattern that is left out changes nothing
  pub HoldsFirst-left_out : (states : List State) → is_kept p number ≡ false → HoldsFirst p number states → HoldsFirst p (number + 1) states
  HoldsFirst-left_out states left holds =
      let words : nodes_before p (number + 1) ≡ nodes_before p number = nodes_before-left_out p number left in
      record {
        trie = subst (λ (w : List (List ℕ)). IsTrieOf p (number + 1) (names_of w) states) (sym words) (IsTrieOf-left_out p number (names_before p number) states left holds.trie);
        counted = record {
          state_count = holds.counted.state_count ∙ ap (λ (w : List (List ℕ)). 4 + length w) (sym words);
          transitions = holds.counted.transitions ∙ ap (λ (w : List (List ℕ)). 769 + sum_by (transitions_for p) w) (sym words);
          matches = holds.counted.matches ∙ ap (λ (ks : List ℕ). 1 + length ks) (sym (kept_before-left_out p number left));
        };
        listed = holds.listed;
      }

-- only the transitions matter
pub AreListed-states : (old new : List State) → ((i : ℕ) → (state_at new i).transitions ≡ (state_at old i).transitions) → AreListed old → AreListed new
AreListed-states old new same listed = record {
  rising = λ i. subst IsRising (sym (same i)) (listed.rising i);
  dead_full = λ byte small. ap (λ (transitions : List (ℕ × ℕ)). lists_transition transitions byte) (same 0) ∙ listed.dead_full byte small;
  root_full = λ byte small. ap (λ (transitions : List (ℕ × ℕ)). lists_transition transitions byte) (same 2) ∙ listed.root_full byte small;
  anchored_full = λ byte small. ap (λ (transitions : List (ℕ × ℕ)). lists_transition transitions byte) (same 3) ∙ listed.anchored_full byte small;
  fail_none = λ byte. ap (λ (transitions : List (ℕ × ℕ)). lists_transition transitions byte) (same 1) ∙ listed.fail_none byte;
  leading = λ i byte late small is one.
      listed.leading i byte late small
      (ap (λ (transitions : List (ℕ × ℕ)). lists_transition transitions byte) (sym (same i)) ∙ is)
      (ap (λ (transitions : List (ℕ × ℕ)). transition_at transitions byte) (sym (same i)) ∙ one);
}

module _ (p : Patterns) (number : ℕ) where
  -- the pattern's last state lists the pattern
  pub HoldsFirst-end : (sid : ℕ) (states new : List State) → is_kept p number ≡ true → HoldsWith p number (pattern_word p number) states
      → name_at (names_of (nodes_with p number (pattern_word p number))) sid ≡ Some (pattern_word p number) → new ≡ push_match states sid number → HoldsFirst p (number + 1) new
  HoldsFirst-end sid states new kept holds at new_is =
      let names : List (Option (List ℕ)) = names_of (nodes_with p number (pattern_word p number)) in
      let words : nodes_before p (number + 1) ≡ nodes_with p number (pattern_word p number) = nodes_before-kept p number kept in
      let below : sid < length states = omega (arith, name_at-below names sid (pattern_word p number) at, holds.trie.trie.sized) in
      let state : State = record (state_at states sid) { matches = (state_at states sid).matches ++ number ∷ [] } in
      let old_is : state_at states sid ≡ get_or states sid (state_at states sid) = get_or_default states sid (new_state 0) (state_at states sid) below in
      let transitions : transitions_count (set states sid state) ≡ transitions_count states = omega (arith, transitions_count-set states sid state (state_at states sid) below old_is) in
      let matches : matches_count (set states sid state) ≡ matches_count states + 1 =
      omega (arith, matches_count-set states sid state (state_at states sid) below old_is, length_push (state_at states sid).matches number) in
      record {
        trie = subst (λ (w : List (List ℕ)). IsTrieOf p (number + 1) (names_of w) new) (sym words) (IsTrieWith-end p number sid names states new kept holds.trie at new_is);
        counted = record {
          state_count = ap length new_is ∙ length-set states sid state ∙ holds.counted.state_count ∙ ap (λ (w : List (List ℕ)). 4 + length w) (sym words);
          transitions = ap transitions_count new_is ∙ transitions ∙ holds.counted.transitions ∙ ap (λ (w : List (List ℕ)). 769 + sum_by (transitions_for p) w) (sym words);
          matches = ap matches_count new_is ∙ matches ∙ omega (arith, holds.counted.matches, ap length (kept_before-kept p number kept), length_push (kept_before p number) number);
        };
        listed = subst AreListed (sym new_is) (AreListed-states states (set states sid state) (part-set (λ (r : State). r.transitions) states sid state below refl) holds.listed);
      }

-- where a pattern ends there is a state
pub EndsAt-below : (p : Patterns) (number sid : ℕ) (states : List State) → EndsAt p number states (Some sid) → sid < length states
EndsAt-below p number sid states ends =
    omega (arith, name_at-below (names_of (nodes_with p number (pattern_word p number))) sid (pattern_word p number) ends.2, ends.1.trie.trie.sized)

-- one byte more of a pattern
pub HoldsWith-byte : (p : Patterns) (number : ℕ) (word : List ℕ) (i state sid : ℕ) (old new : List State) → i < length word → get_or word i 0 < 256
    → HoldsWith p number (folded_word p (take i word)) old → name_at (names_of (nodes_with p number (folded_word p (take i word)))) state ≡ Some (folded_word p (take i word))
    → HasChild p.ignore_case state (get_or word i 0) (i + 1) old new sid
    → HoldsWith p number (folded_word p (take (i + 1) word)) new
    × (name_at (names_of (nodes_with p number (folded_word p (take (i + 1) word)))) sid ≡ Some (folded_word p (take (i + 1) word)))
HoldsWith-byte p number word i state sid old new below small holds at child =
    let more : List ℕ = folded_word p (take i word) in
    let long : i + 1 ≡ length more + 1 = ap (λ (n : ℕ). n + 1) (sym (length-take-le i word (omega arith)) ∙ sym (length-map (take i word) (folded p))) in
    let here : HasChild p.ignore_case state (get_or word i 0) (length more + 1) old new sid = subst (λ (n : ℕ). HasChild p.ignore_case state (get_or word i 0) n old new sid) long child in
    subst (λ (w : List ℕ). HoldsWith p number w new × (name_at (names_of (nodes_with p number w)) sid ≡ Some w))
    (sym (folded_word-take-more p word i below))
    (HoldsWith-child p number more state (get_or word i 0) sid old new small holds at here)
