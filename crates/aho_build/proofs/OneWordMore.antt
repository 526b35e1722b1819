-- A trie with one more word.
use Rattle.std.proofs.Common.{◌≡◌, ℕ, ◌+◌, ◌<◌, ◌≤◌, ◌≢◌, ◌⊎◌, Bool, true, false, ◌||◌, List, [], ◌∷◌, ◌++◌, length, Option, Some, None, MatchBool, refl, sym, ap, subst, ◌∙◌, inl, inr, arith}
use Rattle.std.proofs.lemmas.Bool.{cases_eq, cases_lt, cases_Bool}
use Rattle.std.proofs.lemmas.Bool.Decides.{nat_tests}
use Rattle.std.proofs.lemmas.List.{get_or_append_left, get_or_past, length_push, same_from_push, map-append}
use Rattle.std.specs.Prelude.{bytes_eq}
use Rattle.std.proofs.lemmas.Slice.Eq.{bytes_eq-Decides}
use Rattle.aho_core.specs.Bytes.{folded, folded_word, folded_by}
use Rattle.aho_table.specs.Table.{State, new_state, next_in, fail_in, depth_in, matches_in}
use Rattle.aho_core.specs.Patterns.{Patterns}
use Rattle.aho_build.specs.TrieGrowth.{Grows}
use Rattle.aho_build.specs.StateNames.{name_at}
use Rattle.aho_build.specs.Trie.{longer, missing_at, IsTrie, ListsByWord, AreFirst}
use Rattle.aho_build.proofs.NamesOfTries.{name_at-push_old, name_at-push_new, name_at-of_push, name_at-below}

-- one more word
abbrev pub also : (List ℕ → Bool) → List ℕ → List ℕ → Bool
also is_word new word = is_word word || bytes_eq word new

pub word_cases : (u v : List ℕ) → (u ≡ v) ⊎ (u ≢ v)
word_cases u v =
    elim (cases_Bool (bytes_eq u v)) [
      | inl same ↦ inl ((bytes_eq-Decides u v).0 same)
      | inr other ↦ inr (λ e. let clash : true ≡ false = sym ((bytes_eq-Decides u v).1 e) ∙ other in cc)
    ]

or_true : (b c : Bool) → c ≡ true → (b || c) ≡ true
or_true true c e = refl
or_true false c e = e

pub or_false : (b c : Bool) → c ≡ false → (b || c) ≡ b
or_false true c e = refl
or_false false c e = e

pub also-same : (is_word : List ℕ → Bool) (new word : List ℕ) → word ≡ new → also is_word new word ≡ true
also-same is_word new word e = or_true (is_word word) (bytes_eq word new) ((bytes_eq-Decides word new).1 e)

pub also-other : (is_word : List ℕ → Bool) (new word : List ℕ) → word ≢ new → also is_word new word ≡ is_word word
also-other is_word new word ne =
    elim (cases_Bool (bytes_eq word new)) [
      | inl same ↦ absurd (ne ((bytes_eq-Decides word new).0 same))
      | inr other ↦ or_false (is_word word) (bytes_eq word new) other
    ]

also-old : (is_word : List ℕ → Bool) (new word : List ℕ) → is_word word ≡ true → also is_word new word ≡ true
also-old is_word new word e = ap (λ (b : Bool). b || bytes_eq word new) e

folded-folded : (p : Patterns) (byte : ℕ) → folded p (folded p byte) ≡ folded p byte
folded-folded p byte = by p.ignore_case byte
  where
    by : (b : Bool) (x : ℕ) → folded_by b (folded_by b x) ≡ folded_by b x
    by false x = refl
    by true x = grind (arith, nat_tests)

-- a folded byte is a byte
pub folded-small : (p : Patterns) (byte : ℕ) → byte < 256 → folded p byte < 256
folded-small p byte small = by p.ignore_case byte small
  where
    by : (b : Bool) (x : ℕ) → x < 256 → folded_by b x < 256
    by false x lt = lt
    by true x lt = grind (arith, nat_tests)

pub folded_word-longer : (p : Patterns) (word : List ℕ) (byte : ℕ) → folded_word p word ≡ word → folded_word p (longer p word byte) ≡ longer p word byte
folded_word-longer p word byte e =
    map-append (folded p) word (folded p byte ∷ [])
    ∙ ap (λ (l : List ℕ). l ++ folded p (folded p byte) ∷ []) e
    ∙ ap (λ (n : ℕ). word ++ n ∷ []) (folded-folded p byte)

missing_at-longer : (at_root : ℕ) (p : Patterns) (word : List ℕ) (byte : ℕ) → missing_at at_root (longer p word byte) ≡ 1
missing_at-longer at_root p [] byte = refl
missing_at-longer at_root p (x ∷ word) byte = refl

longer-ne : (p : Patterns) (word : List ℕ) (byte : ℕ) → longer p word byte ≢ word
longer-ne p word byte e = omega (arith, ap length e, length_push word (folded p byte))

abbrev TransitionFact : Bool → List (Option (List ℕ)) → ℕ → List ℕ → ℕ → Type 0
TransitionFact b names next word missing = MatchBool b (name_at names next ≡ Some word) (next ≡ missing)

transition_more : (b : Bool) (names : List (Option (List ℕ))) (new : Option (List ℕ)) (next : ℕ) (word : List ℕ) (missing : ℕ)
    → TransitionFact b names next word missing → TransitionFact b (names ++ new ∷ []) next word missing
transition_more true names new next word missing h = name_at-push_old names new next word h
transition_more false names new next word missing h = h

transition_moved : (b b' : Bool) (names : List (Option (List ℕ))) (next next' : ℕ) (word : List ℕ) (missing : ℕ) → b' ≡ b → next' ≡ next
    → TransitionFact b names next word missing → TransitionFact b' names next' word missing
transition_moved b b' names next next' word missing e f h =
    subst (λ (x : Bool). TransitionFact x names next' word missing) (sym e) (subst (λ (n : ℕ). TransitionFact b names n word missing) (sym f) h)

transition_there : (b : Bool) (names : List (Option (List ℕ))) (next : ℕ) (word : List ℕ) (missing : ℕ) → b ≡ true → name_at names next ≡ Some word → TransitionFact b names next word missing
transition_there b names next word missing e h = subst (λ (x : Bool). TransitionFact x names next word missing) (sym e) h

transition_missing : (b : Bool) (names : List (Option (List ℕ))) (next : ℕ) (word : List ℕ) (missing : ℕ) → b ≡ false → next ≡ missing → TransitionFact b names next word missing
transition_missing b names next word missing e h = subst (λ (x : Bool). TransitionFact x names next word missing) (sym e) h

module _ (p : Patterns) (is_word : List ℕ → Bool) (at_root : ℕ) (names : List (Option (List ℕ))) (old new : List State) (parent byte : ℕ) (word : List ℕ)
    (trie : IsTrie p is_word at_root names old) (at : name_at names parent ≡ Some word) (fresh : is_word (longer p word byte) ≡ false)
    (grows : Grows p.ignore_case parent byte (length word + 1) old new) (small : byte < 256) (four : 4 ≤ length old) where
  abbrev the_new : List ℕ
  the_new = longer p word byte

  abbrev the_names : List (Option (List ℕ))
  the_names = names ++ Some the_new ∷ []

  folded_small : folded p byte < 256
  folded_small = folded-small p byte small

  unnamed_apart : (i : ℕ) → name_at names i ≡ None → i ≢ parent
  unnamed_apart i none e = let f : Some word ≡ None = sym at ∙ ap (name_at names) (sym e) ∙ none in cc

  first_name : (i : ℕ) → i < 4 → name_at the_names i ≡ name_at names i
  first_name i less = get_or_append_left names (Some the_new ∷ []) None i (omega (arith, less, four, trie.sized))

  not_named : (i : ℕ) → name_at names i ≡ Some the_new → ⊥
  not_named i e = let clash : true ≡ false = sym (trie.words i the_new e).0 ∙ fresh in cc

  grown_unique : (i j : ℕ) (u : List ℕ) → name_at the_names i ≡ Some u → name_at the_names j ≡ Some u → i ≡ j
  grown_unique i j u e f =
      elim (name_at-of_push names the_new i u e) [
        | inl a ↦
            elim (name_at-of_push names the_new j u f) [
              | inl b ↦ trie.unique i j u a.1 b.1
              | inr b ↦ absurd (not_named i (subst (λ (l : List ℕ). name_at names i ≡ Some l) b.1 a.1))
            ]
        | inr a ↦
            elim (name_at-of_push names the_new j u f) [
              | inl b ↦ absurd (not_named j (subst (λ (l : List ℕ). name_at names j ≡ Some l) a.1 b.1))
              | inr b ↦ a.0 ∙ sym b.0
            ]
      ]

  grown_words : (i : ℕ) (u : List ℕ) → name_at the_names i ≡ Some u → (also is_word the_new u ≡ true) × (folded_word p u ≡ u)
  grown_words i u e =
      elim (name_at-of_push names the_new i u e) [
        | inl a ↦ (also-old is_word the_new u (trie.words i u a.1).0, (trie.words i u a.1).1)
        | inr a ↦ (also-same is_word the_new u a.1, subst (λ (l : List ℕ). folded_word p l ≡ l) (sym a.1) (folded_word-longer p word byte (trie.words parent word at).1))
      ]

  grown_closed : (u : List ℕ) (x : ℕ) → folded_word p u ≡ u → also is_word the_new (longer p u x) ≡ true → also is_word the_new u ≡ true
  grown_closed u x plain h =
      elim (word_cases (longer p u x) the_new) [
        | inl same ↦ also-old is_word the_new u (subst (λ (l : List ℕ). is_word l ≡ true) (sym (same_from_push u word (folded p x) (folded p byte) same).0) (trie.words parent word at).0)
        | inr other ↦ also-old is_word the_new u (trie.closed u x plain (sym (also-other is_word the_new (longer p u x) other) ∙ h))
      ]

  grown_complete : (i : ℕ) → 4 ≤ i → i < length new → (u : List ℕ) × (name_at the_names i ≡ Some u)
  grown_complete i late below =
      elim (cases_eq i (length old)) [
        | inl last ↦ (the_new, ap (name_at the_names) (last ∙ sym trie.sized) ∙ name_at-push_new names (Some the_new))
        | inr earlier ↦ (let was = trie.complete i late (omega (arith, grows.sized)) in (was.0, name_at-push_old names (Some the_new) i was.0 was.1))
      ]

  grown_depths : (i : ℕ) (u : List ℕ) → name_at the_names i ≡ Some u → depth_in new i ≡ length u
  grown_depths i u e =
      elim (name_at-of_push names the_new i u e) [
        | inl a ↦ grows.depth_old i (omega (arith, a.0, trie.sized)) ∙ trie.depths i u a.1
        | inr a ↦ ap (depth_in new) (a.0 ∙ trie.sized) ∙ grows.depth_new ∙ sym (length_push word (folded p byte)) ∙ ap length (sym a.1)
      ]

  grown_transitions : (i : ℕ) (u : List ℕ) (x : ℕ) → name_at the_names i ≡ Some u → x < 256
      → TransitionFact (also is_word the_new (longer p u x)) the_names (next_in new i x) (longer p u x) (missing_at at_root u)
  grown_transitions i u x e small_x =
      elim (name_at-of_push names the_new i u e) [
        | inl a ↦
            elim (word_cases (longer p u x) the_new) [
              | inl same ↦
                  (let parts = same_from_push u word (folded p x) (folded p byte) same in
                  let here : i ≡ parent = trie.unique i parent word (subst (λ (l : List ℕ). name_at names i ≡ Some l) parts.0 a.1) at in
                  let leads : next_in new i x ≡ length names = ap (λ (n : ℕ). next_in new n x) here ∙ grows.transition_byte x small_x parts.1 ∙ sym trie.sized in
                  transition_there (also is_word the_new (longer p u x)) the_names (next_in new i x) (longer p u x) (missing_at at_root u)
                  (also-same is_word the_new (longer p u x) same)
                  (ap (name_at the_names) leads ∙ name_at-push_new names (Some the_new) ∙ ap (λ (l : List ℕ). Some l) (sym same)))
              | inr other ↦
                  (let kept : next_in new i x ≡ next_in old i x =
                  elim (cases_eq i parent) [
                    | inl here ↦
                        (let same_word : u ≡ word = (let f : Some u ≡ Some word = sym a.1 ∙ ap (name_at names) here ∙ at in cc) in
                        let apart : folded p x ≢ folded p byte = λ f. other (ap (λ (l : List ℕ). l ++ folded p x ∷ []) same_word ∙ ap (λ (n : ℕ). word ++ n ∷ []) f) in
                        ap (λ (n : ℕ). next_in new n x) here ∙ grows.transition_other x small_x apart ∙ ap (λ (n : ℕ). next_in old n x) (sym here))
                    | inr there ↦ grows.transition_old i x (omega (arith, a.0, trie.sized)) there
                  ] in
                  transition_moved (is_word (longer p u x)) (also is_word the_new (longer p u x)) the_names (next_in old i x) (next_in new i x) (longer p u x) (missing_at at_root u)
                  (also-other is_word the_new (longer p u x) other) kept
                  (transition_more (is_word (longer p u x)) names (Some the_new) (next_in old i x) (longer p u x) (missing_at at_root u) (trie.transitions i u x a.1 small_x)))
            ]
        | inr a ↦
            (let plain : folded_word p u ≡ u = (grown_words i u e).1 in
            let not_new : longer p u x ≢ the_new = λ f. longer-ne p u x (f ∙ sym a.1) in
            let none : is_word (longer p u x) ≡ false =
            elim (cases_Bool (is_word (longer p u x))) [
              | inl there ↦ (let clash : true ≡ false = sym (trie.closed u x plain there) ∙ ap is_word a.1 ∙ fresh in cc)
              | inr absent ↦ absent
            ] in
            transition_missing (also is_word the_new (longer p u x)) the_names (next_in new i x) (longer p u x) (missing_at at_root u)
            (also-other is_word the_new (longer p u x) not_new ∙ none)
            (ap (λ (n : ℕ). next_in new n x) (a.0 ∙ trie.sized) ∙ grows.transition_new x ∙ sym (missing_at-longer at_root p word byte) ∙ ap (missing_at at_root) (sym a.1)))
      ]

  grown_reached : (i : ℕ) (u : List ℕ) (x : ℕ) → name_at the_names i ≡ Some (u ++ x ∷ [])
      → (j : ℕ) × (name_at the_names j ≡ Some u) × (x < 256) × (folded p x ≡ x) × (next_in new j x ≡ i)
  grown_reached i u x e =
      elim (name_at-of_push names the_new i (u ++ x ∷ []) e) [
        | inl a ↦
            (let from = trie.reached i u x a.1 in
            let j_below : from.0 < length old = omega (arith, name_at-below names from.0 u from.1, trie.sized) in
            let kept : next_in new from.0 x ≡ next_in old from.0 x =
            elim (cases_eq from.0 parent) [
              | inl here ↦
                  (let same_word : u ≡ word = (let f : Some u ≡ Some word = sym from.1 ∙ ap (name_at names) here ∙ at in cc) in
                  let apart : folded p x ≢ folded p byte = λ f.
                  not_named i (a.1 ∙ ap (λ (l : List ℕ). Some (l ++ x ∷ [])) same_word ∙ ap (λ (n : ℕ). Some (word ++ n ∷ [])) (sym from.3 ∙ f)) in
                  ap (λ (n : ℕ). next_in new n x) here ∙ grows.transition_other x from.2 apart ∙ ap (λ (n : ℕ). next_in old n x) (sym here))
              | inr there ↦ grows.transition_old from.0 x j_below there
            ] in
            (from.0, name_at-push_old names (Some the_new) from.0 u from.1, from.2, from.3, kept ∙ from.4))
        | inr a ↦
            (let parts = same_from_push u word x (folded p byte) a.1 in
            let same_byte : folded p x ≡ folded p byte = ap (folded p) parts.1 ∙ folded-folded p byte in
            let is_small : x < 256 = subst (λ (n : ℕ). n < 256) (sym parts.1) folded_small in (
              parent,
              name_at-push_old names (Some the_new) parent u (at ∙ ap (λ (l : List ℕ). Some l) (sym parts.0)),
              is_small,
              same_byte ∙ sym parts.1,
              grows.transition_byte x is_small same_byte ∙ sym trie.sized ∙ sym a.0,
            ))
      ]

  -- the trie has the one more word
  pub IsTrie-grows : IsTrie p (also is_word the_new) at_root the_names new
  IsTrie-grows = record {
    sized = length_push names (Some the_new) ∙ ap (λ (n : ℕ). n + 1) trie.sized ∙ sym grows.sized;
    dead = first_name 0 (omega arith) ∙ trie.dead;
    fail = first_name 1 (omega arith) ∙ trie.fail;
    anchored = first_name 3 (omega arith) ∙ trie.anchored;
    complete = grown_complete;
    dead_loop = λ x tiny. grows.transition_old 0 x (omega (arith, four)) (unnamed_apart 0 trie.dead) ∙ trie.dead_loop x tiny;
    root = name_at-push_old names (Some the_new) 2 [] trie.root;
    unique = grown_unique;
    words = grown_words;
    closed = grown_closed;
    depths = grown_depths;
    transitions = grown_transitions;
    reached = grown_reached;
  }

  pub ListsByWord-grows : (list_of : List ℕ → List ℕ) → ListsByWord names list_of old → list_of the_new ≡ [] → ListsByWord the_names list_of new
  ListsByWord-grows list_of lists none i u e =
      elim (name_at-of_push names the_new i u e) [
        | inl a ↦ grows.matches_old i (omega (arith, a.0, trie.sized)) ∙ lists i u a.1
        | inr a ↦ ap (matches_in new) (a.0 ∙ trie.sized) ∙ grows.matches_new ∙ sym none ∙ ap list_of (sym a.1)
      ]

  unnamed_transition : (i x : ℕ) → i < 4 → name_at names i ≡ None → next_in new i x ≡ next_in old i x
  unnamed_transition i x less none = grows.transition_old i x (omega (arith, less, four)) (unnamed_apart i none)

  -- and the first states stay as they were
  pub AreFirst-grows : AreFirst names old → AreFirst the_names new
  AreFirst-grows first = record {
    dead_fail = grows.fail_old 0 (omega (arith, four)) ∙ first.dead_fail;
    dead_matches = grows.matches_old 0 (omega (arith, four)) ∙ first.dead_matches;
    dead_depth = grows.depth_old 0 (omega (arith, four)) ∙ first.dead_depth;
    fail_fail = grows.fail_old 1 (omega (arith, four)) ∙ first.fail_fail;
    fail_matches = grows.matches_old 1 (omega (arith, four)) ∙ first.fail_matches;
    fail_depth = grows.depth_old 1 (omega (arith, four)) ∙ first.fail_depth;
    anchored_fail = grows.fail_old 3 (omega (arith, four)) ∙ first.anchored_fail;
    anchored_matches = grows.matches_old 3 (omega (arith, four)) ∙ first.anchored_matches;
    anchored_depth = grows.depth_old 3 (omega (arith, four)) ∙ first.anchored_depth;
    anchored_next = λ x tiny. unnamed_transition 3 x (omega arith) trie.anchored ∙ first.anchored_next x tiny;
    unlinked = λ i u e.
        elim (name_at-of_push names the_new i u e) [
          | inl a ↦ grows.fail_old i (omega (arith, a.0, trie.sized)) ∙ first.unlinked i u a.1
          | inr a ↦ ap (fail_in new) (a.0 ∙ trie.sized) ∙ grows.fail_new
        ];
  }

-- the anchored start is there, since its link is
pub AreFirst-four : (names : List (Option (List ℕ))) (states : List State) → AreFirst names states → 4 ≤ length states
AreFirst-four names states first =
    elim (cases_lt 3 (length states)) [
      | inl there ↦ omega arith
      | inr past ↦ absurd (omega (arith, first.anchored_fail, ap (λ (r : State). r.fail) (get_or_past states 3 (new_state 0) past)))
    ]
