-- The names of states: which state has one, names after one more was given, and a trie by what its names say.
use Rattle.std.proofs.Common.{◌≡◌, ℕ, ◌<◌, ◌≢◌, ◌⊎◌, Bool, List, [], ◌∷◌, ◌++◌, length, Option, Some, None, MatchBool, refl, sym, ap, subst, ◌∙◌, inl, inr, arith}
use Rattle.std.proofs.lemmas.Bool.{cases_lt, cases_eq}
use Rattle.std.proofs.lemmas.List.{get_or_append_left, get_or_push, get_or_past, length_push}
use Rattle.aho_core.specs.Patterns.{Patterns}
use Rattle.aho_table.specs.Table.{State, next_in, depth_in}
use Rattle.aho_build.specs.StateNames.{name_at}
use Rattle.aho_build.specs.Trie.{longer, missing_at, IsTrie}

-- a state that is named is there
pub name_at-below : (names : List (Option (List ℕ))) (i : ℕ) (word : List ℕ) → name_at names i ≡ Some word → i < length names
name_at-below names i word e =
    elim (cases_lt i (length names)) [ inl below ↦ below | inr past ↦ (let none = get_or_past names i None past in cc) ]

-- a name after one more was given
pub name_at-push_old : (names : List (Option (List ℕ))) (name : Option (List ℕ)) (i : ℕ) (word : List ℕ) → name_at names i ≡ Some word
    → name_at (names ++ name ∷ []) i ≡ Some word
name_at-push_old names name i word e =
    elim (cases_lt i (length names)) [
      | inl below ↦ get_or_append_left names (name ∷ []) None i below ∙ e
      | inr past ↦ (let none = get_or_past names i None past in cc)
    ]

pub name_at-push_new : (names : List (Option (List ℕ))) (name : Option (List ℕ)) → name_at (names ++ name ∷ []) (length names) ≡ name
name_at-push_new names name = get_or_push names name None (length names) refl

pub name_at-of_push : (names : List (Option (List ℕ))) (new : List ℕ) (i : ℕ) (word : List ℕ) → name_at (names ++ Some new ∷ []) i ≡ Some word
    → ((i < length names) × (name_at names i ≡ Some word)) ⊎ ((i ≡ length names) × (word ≡ new))
name_at-of_push names new i word e =
    elim (cases_lt i (length names)) [
      | inl below ↦ inl (below, sym (get_or_append_left names (Some new ∷ []) None i below) ∙ e)
      | inr past ↦
          elim (cases_eq i (length names)) [
            | inl same ↦ inr (same, (let new_is = get_or_push names (Some new) None i (sym same) in cc))
            | inr ne ↦ (let none : name_at (names ++ Some new ∷ []) i ≡ None = get_or_past (names ++ Some new ∷ []) i None (omega (arith, length_push names (Some new))) in cc)
          ]
    ]

module _ (p : Patterns) (f : List ℕ → Bool) (at_root : ℕ) (names : List (Option (List ℕ))) where
  pub named_below : (states : List State) → IsTrie p f at_root names states → (i : ℕ) (word : List ℕ) → name_at names i ≡ Some word → i < length states
  named_below states trie i word e = omega (arith, name_at-below names i word e, trie.sized)

  -- a state that is named is not the fail state
  pub named_ne_fail : (states : List State) → IsTrie p f at_root names states → (i : ℕ) (word : List ℕ) → name_at names i ≡ Some word → i ≢ 1
  named_ne_fail states trie i word e one = let clash : Some word ≡ None = sym e ∙ ap (name_at names) one ∙ trie.fail in cc

  -- a table with the same transitions and depths is the same trie
  pub IsTrie-table : (old new : List State) → length new ≡ length old → ((i byte : ℕ) → next_in new i byte ≡ next_in old i byte) → ((i : ℕ) → depth_in new i ≡ depth_in old i)
      → IsTrie p f at_root names old → IsTrie p f at_root names new
  IsTrie-table old new size transitions depths trie = record {
    sized = trie.sized ∙ sym size;
    dead = trie.dead;
    fail = trie.fail;
    root = trie.root;
    anchored = trie.anchored;
    complete = λ i past below. trie.complete i past (omega arith);
    dead_loop = λ byte tiny. transitions 0 byte ∙ trie.dead_loop byte tiny;
    unique = trie.unique;
    words = trie.words;
    closed = trie.closed;
    depths = λ i word e. depths i ∙ trie.depths i word e;
    transitions = λ i word byte e small.
        subst (λ (n : ℕ). MatchBool (f (longer p word byte)) (name_at names n ≡ Some (longer p word byte)) (n ≡ missing_at at_root word))
        (sym (transitions i byte)) (trie.transitions i word byte e small);
    reached = λ i word byte e. let from = trie.reached i word byte e in (from.0, from.1, from.2, from.3, transitions from.0 byte ∙ from.4);
  }
