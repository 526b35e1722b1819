-- A pattern's bytes are added one by one.
use Rattle.std.proofs.Common.{◌≡◌, ℕ, ◌+◌, ◌<◌, ◌≤◌, Bool, true, false, ◌||◌, nat_eq, List, [], ◌∷◌, ◌++◌, length, get_or, take, Option, Some, None, MatchBool, bytes_eq, eq-eqb, refl, sym, ap, subst, ◌∙◌, inl, inr, arith}
use Rattle.std.proofs.lemmas.Bool.{cases_Bool, eqb-true, or_cases, or_parts, MatchBool-at_true, MatchBool-at_false}
use Rattle.std.proofs.lemmas.List.{take_more, map-append, length_push}
use Rattle.aho_core.specs.Among.{is_node_among, own_among}
use Rattle.aho_core.specs.Bytes.{folded, folded_word}
use Rattle.aho_core.specs.Patterns.{Patterns}
use Rattle.aho_core.specs.Trie.{begins}
use Rattle.aho_laws.proofs.Begins.{begins-true, begins_length}
use Rattle.aho_build.proofs.Child.{MatchBool-from_true}
use Rattle.aho_build.specs.TrieGrowth.{Grows, HasChild, ListsMore}
use Rattle.aho_table.specs.Table.{State, next_in}
use Rattle.aho_build.specs.StateNames.{name_at}
use Rattle.aho_build.specs.Trie.{longer, missing_at, AreFirst, IsTrie, ListsByWord, IsTrieWith, IsTrieOf}
use Rattle.aho_build.proofs.NamesOfTries.{name_at-push_new}
use Rattle.aho_build.proofs.OneWordMore.{also, also-same, also-other, word_cases, AreFirst-four, AreFirst-grows, IsTrie-grows, ListsByWord-grows, folded_word-longer}
use Rattle.aho_build.proofs.Nodes.{begins-more, is_node_among-start, own_among-absent}

-- only the words matter that the case rule leaves as they are
pub IsTrie-same : (p : Patterns) (f g : List ℕ → Bool) (at_root : ℕ) (names : List (Option (List ℕ))) (table : List State)
    → ((word : List ℕ) → folded_word p word ≡ word → f word ≡ g word) → IsTrie p f at_root names table → IsTrie p g at_root names table
IsTrie-same p f g at_root names table same trie = record {
  sized = trie.sized;
  dead = trie.dead;
  fail = trie.fail;
  anchored = trie.anchored;
  complete = trie.complete;
  dead_loop = trie.dead_loop;
  root = trie.root;
  unique = trie.unique;
  words = λ i word e. (sym (same word (trie.words i word e).1) ∙ (trie.words i word e).0, (trie.words i word e).1);
  closed = λ word byte plain h. sym (same word plain) ∙ trie.closed word byte plain (same (longer p word byte) (folded_word-longer p word byte plain) ∙ h);
  depths = trie.depths;
  transitions = λ i word byte e small.
      subst (λ (b : Bool). MatchBool b (name_at names (next_in table i byte) ≡ Some (longer p word byte)) (next_in table i byte ≡ missing_at at_root word))
      (same (longer p word byte) (folded_word-longer p word byte (trie.words i word e).1)) (trie.transitions i word byte e small);
  reached = trie.reached;
}

MatchBool-from_false : {b : Bool} (P Q : Type 0) → b ≡ false → Q → MatchBool b P Q
MatchBool-from_false P Q e h = subst (λ (x : Bool). MatchBool x P Q) (sym e) h

missing-nonempty : (at_root : ℕ) (word : List ℕ) → missing_at 1 word ≡ 1
missing-nonempty at_root [] = refl
missing-nonempty at_root (byte ∷ word) = refl

module _ (p : Patterns) (number : ℕ) where
  abbrev pub words_with : List ℕ → List ℕ → Bool
  words_with more word = is_node_among p number word || begins word more

  or_assoc : (a b c : Bool) → ((a || b) || c) ≡ (a || (b || c))
  or_assoc true b c = refl
  or_assoc false b c = refl

  words_with-more : (more word : List ℕ) (byte : ℕ) → also (words_with more) (longer p more byte) word ≡ words_with (longer p more byte) word
  words_with-more more word byte =
      or_assoc (is_node_among p number word) (begins word more) (bytes_eq word (longer p more byte))
      ∙ ap (λ (b : Bool). is_node_among p number word || b) (sym (begins-more more word (folded p byte)))

  absorbed : (more word : List ℕ) (byte : ℕ) → words_with more (longer p more byte) ≡ true → words_with more word ≡ also (words_with more) (longer p more byte) word
  absorbed more word byte there =
      elim (word_cases word (longer p more byte)) [
        | inl same ↦ ap (words_with more) same ∙ there ∙ sym (also-same (words_with more) (longer p more byte) word same)
        | inr other ↦ sym (also-other (words_with more) (longer p more byte) word other)
      ]

  -- what one byte more changes: nothing where its word is a node of an earlier pattern
  abbrev pub Extends : List ℕ → ℕ → ℕ → List (Option (List ℕ)) → List (Option (List ℕ)) → List State → List State → Type 0
  Extends more state byte names names' old new =
      MatchBool
      (is_node_among p number (longer p more byte))
      ((names' ≡ names) × (new ≡ old))
      ((names' ≡ names ++ Some (longer p more byte) ∷ []) × Grows p.ignore_case state byte (length more + 1) old new × ListsMore p.ignore_case state byte old new)

  pub not_longer : (more : List ℕ) (byte : ℕ) → begins (longer p more byte) more ≡ true → ⊥
  not_longer more byte front =
      omega (arith, begins_length (longer p more byte) more (begins-true (longer p more byte) more front), length_push more (folded p byte))

  -- one byte more
  pub IsTrieWith-child : (more : List ℕ) (names : List (Option (List ℕ))) (old new : List State) (state byte sid : ℕ) → byte < 256
      → IsTrieWith p number more names old → name_at names state ≡ Some more
      → HasChild p.ignore_case state byte (length more + 1) old new sid
      → (names' : List (Option (List ℕ))) × IsTrieWith p number (longer p more byte) names' new × (name_at names' sid ≡ Some (longer p more byte))
      × Extends more state byte names names' old new
  IsTrieWith-child more names old new state byte sid small with_more at child =
      let trie = with_more.trie in
      let four : 4 ≤ length old = AreFirst-four names old with_more.first in
      let transition = trie.transitions state more byte at small in
      elim (cases_Bool (words_with more (longer p more byte))) [
        | inl there ↦
            (let leads : name_at names (next_in old state byte) ≡ Some (longer p more byte) =
            MatchBool-at_true (name_at names (next_in old state byte) ≡ Some (longer p more byte)) (next_in old state byte ≡ missing_at 1 more) there transition in
            let not_fail : nat_eq (next_in old state byte) 1 ≡ false =
            elim (cases_Bool (nat_eq (next_in old state byte) 1)) [
              | inl is_one ↦ (let clash : Some (longer p more byte) ≡ None = sym leads ∙ ap (name_at names) (eqb-true (next_in old state byte) 1 is_one) ∙ trie.fail in cc)
              | inr not_one ↦ not_one
            ] in
            let was : (sid ≡ next_in old state byte) × (new ≡ old) =
            MatchBool-at_false ((sid ≡ length old) × Grows p.ignore_case state byte (length more + 1) old new × ListsMore p.ignore_case state byte old new) ((sid ≡ next_in old state byte) × (new ≡ old)) not_fail child in
            let same : (word : List ℕ) → folded_word p word ≡ word → words_with more word ≡ words_with (longer p more byte) word =
            λ word plain. absorbed more word byte there ∙ words_with-more more word byte in
            let node : is_node_among p number (longer p more byte) ≡ true =
            elim (or_cases (is_node_among p number (longer p more byte)) (begins (longer p more byte) more) there) [ inl node ↦ node | inr front ↦ absurd (not_longer more byte front) ] in (
              names,
              record {
                trie = subst (λ (t : List State). IsTrie p (words_with (longer p more byte)) 1 names t) (sym was.1)
                    (IsTrie-same p (words_with more) (words_with (longer p more byte)) 1 names old same trie);
                lists = subst (λ (t : List State). ListsByWord names (own_among p number) t) (sym was.1) with_more.lists;
                first = subst (AreFirst names) (sym was.1) with_more.first;
              },
              ap (name_at names) was.0 ∙ leads,
              MatchBool-from_true ((names ≡ names) × (new ≡ old))
                  ((names ≡ names ++ Some (longer p more byte) ∷ []) × Grows p.ignore_case state byte (length more + 1) old new × ListsMore p.ignore_case state byte old new) node (refl, was.1),
            ))
        | inr absent ↦
            (let is_one : next_in old state byte ≡ 1 =
            MatchBool-at_false (name_at names (next_in old state byte) ≡ Some (longer p more byte)) (next_in old state byte ≡ missing_at 1 more) absent transition ∙ missing-nonempty 1 more in
            let was : (sid ≡ length old) × Grows p.ignore_case state byte (length more + 1) old new × ListsMore p.ignore_case state byte old new =
            MatchBool-at_true ((sid ≡ length old) × Grows p.ignore_case state byte (length more + 1) old new × ListsMore p.ignore_case state byte old new) ((sid ≡ next_in old state byte) × (new ≡ old)) (eq-eqb (next_in old state byte) 1 is_one) child in
            let no_node = (or_parts (is_node_among p number (longer p more byte)) (begins (longer p more byte) more) absent).0 in
            let none = own_among-absent p number (longer p more byte) no_node in (
              names ++ Some (longer p more byte) ∷ [],
              record {
                trie = IsTrie-same p (also (words_with more) (longer p more byte)) (words_with (longer p more byte)) 1 (names ++ Some (longer p more byte) ∷ []) new
                    (λ word plain. words_with-more more word byte)
                    (IsTrie-grows p (words_with more) 1 names old new state byte more trie at absent was.1 small four);
                lists = ListsByWord-grows p (words_with more) 1 names old new state byte more trie at absent was.1 small four (own_among p number) with_more.lists none;
                first = AreFirst-grows p (words_with more) 1 names old new state byte more trie at absent was.1 small four with_more.first;
              },
              ap (name_at (names ++ Some (longer p more byte) ∷ [])) (was.0 ∙ sym trie.sized) ∙ name_at-push_new names (Some (longer p more byte)),
              MatchBool-from_false ((names ++ Some (longer p more byte) ∷ [] ≡ names) × (new ≡ old))
                  ((names ++ Some (longer p more byte) ∷ [] ≡ names ++ Some (longer p more byte) ∷ []) × Grows p.ignore_case state byte (length more + 1) old new × ListsMore p.ignore_case state byte old new)
                  no_node (refl, was.1, was.2),
            ))
      ]

  -- a pattern begins with none of its bytes
  pub IsTrieWith-start : (names : List (Option (List ℕ))) (table : List State) → IsTrieOf p number names table → IsTrieWith p number [] names table
  IsTrieWith-start names table of = record {
    trie = IsTrie-same p (is_node_among p number) (words_with []) 1 names table
        (λ word plain. sym (is_node_among-start p number word)) of.trie;
    lists = of.lists;
    first = of.first;
  }

-- the first bytes of a word, one more of them
pub folded_word-take-more : (p : Patterns) (word : List ℕ) (i : ℕ) → i < length word
    → folded_word p (take (i + 1) word) ≡ longer p (folded_word p (take i word)) (get_or word i 0)
folded_word-take-more p word i below =
    ap (folded_word p) (take_more word i 0 below) ∙ map-append (folded p) (take i word) (get_or word i 0 ∷ [])
