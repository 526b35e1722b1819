-- The starts list a pattern exactly where one is empty.
use Rattle.std.proofs.Common.{◌≡◌, ℕ, Bool, true, List, [], ◌∷◌, length, get_or, nat_lt, refl, sym, ap, subst, ◌∙◌, inl, inr, arith}
use Rattle.std.specs.Prelude.{Option}
use Rattle.std.proofs.lemmas.Bool.{cases_Bool, lt-ltb}
use Rattle.std.proofs.lemmas.List.Folds.{Any-from_list_any, list_any_at}
use Rattle.std.proofs.lemmas.List.{nil_from_length}
use Rattle.aho_core.specs.MatchList.{own_matches}
use Rattle.aho_core.specs.Patterns.{Patterns, pattern_at}
use Rattle.aho_core.specs.Trie.{pattern_word}
use Rattle.aho_laws.proofs.Kept.{own-first, left_out}
use Rattle.aho_laws.proofs.Stands.{length-pattern_word}
use Rattle.aho_prefilter.specs.Prefilter.{has_empty, is_empty}
use Rattle.aho_table.specs.Table.{State, matches_in}
use Rattle.aho_build.specs.declared.special.Special.{Special}
use Rattle.aho_build.specs.Automaton.{IsAutomaton}
use Rattle.aho_build.specs.Shuffled.{IsInOrder, starts_match}

module _ (p : Patterns) where
  is_empty-none : (word : List ℕ) → length word ≡ 0 → is_empty word ≡ true
  is_empty-none [] e = refl
  is_empty-none (x ∷ word) e = absurd (omega arith)

  none-is_empty : (word : List ℕ) → is_empty word ≡ true → word ≡ []
  none-is_empty [] e = refl
  none-is_empty (x ∷ word) e = cc

  by_own : (ks : List ℕ) → own_matches p [] ≡ ks → nat_lt 0 (length ks) ≡ has_empty p
  by_own (k ∷ ks) own =
      let t = own-first p [] k ks own in
      let empty = is_empty-none (pattern_at p k) (sym (length-pattern_word p k) ∙ ap length t.2) in
      lt-ltb 0 (length (k ∷ ks)) (omega arith) ∙ sym (list_any_at is_empty p.words k [] t.0 empty)
  by_own [] own =
      elim (cases_Bool (has_empty p)) [
        | inl some ↦
            (let found = Any-from_list_any is_empty p.words some in
            let k = found.0 in
            let is = none-is_empty found.1 found.4 in
            let at : pattern_at p k ≡ [] = ap (get_or p.words k) (sym is) ∙ found.3 ∙ is in
            let whole = nil_from_length (pattern_word p k) (length-pattern_word p k ∙ ap length at) in
            let earlier = (left_out p [] k own found.2 whole).1 in
            absurd (omega (arith, earlier.3)))
        | inr none ↦ sym none
      ]

  pub own_matches-empty : nat_lt 0 (length (own_matches p [])) ≡ has_empty p
  own_matches-empty = by_own (own_matches p []) refl

module _ (skips : Bool) (special : Special) (p : Patterns) (names : List (Option (List ℕ))) (states : List State) (a : IsAutomaton special p names states)
    (order : IsInOrder (starts_match special states) skips special (matches_in states)) where
  pub IsInOrder-empty : IsInOrder (has_empty p) skips special (matches_in states)
  IsInOrder-empty =
      subst (λ (empty : Bool). IsInOrder empty skips special (matches_in states)) (ap (λ (ks : List ℕ). nat_lt 0 (length ks)) a.anchored.matches ∙ own_matches-empty p) order
