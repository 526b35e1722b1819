-- Walks over the matches of a line: what is made of those that are left.
use Rattle.std.proofs.Common.{◌≡◌, ◌⊎◌, ◌↔◌, ℕ, ◌+◌, List, [], ◌∷◌, ◌++◌, Some, true, false, map, sym, ap, ◌∙◌, append_assoc, subst, inl, inr}
use Rattle.std.proofs.lemmas.Bool.{false≢true}
use Rattle.regex.specs.Patterns.{Match, Re, find_all, span}
use Rattle.regex.specs.Search.{matches_after, next_match}
use Rattle.regex.proofs.SearchLemmas.{matches_after_bytes, matches_after_some}
use Rattle.secret_rules.specs.MarkLists.{HasOneOpen}
use Rattle.secret_rules.specs.Standing.{StandsFrom}
use Rattle.secret_rules.specs.declared.marks.Mark.{Mark}

-- the matches that are left behind one
pub matches_after-next : (re : Re) (line : List ℕ) (after : ℕ) (m : Match) (whole : ℕ × ℕ) → next_match false re line after ≡ Some m → whole ≡ span m
    → matches_after false re line after ≡ m ∷ matches_after false re line (whole.1 + 1)
matches_after-next re line after m whole next is =
    matches_after_some re line false after m next ∙ ap (λ (r : ℕ × ℕ). m ∷ matches_after false re line (r.1 + 1)) (sym is)

-- what a list of matches is made to is added match by match
module _ (F : List Match → List Mark) where
  pub added-first : (re : Re) (line : List ℕ) (old : List Mark) → old ++ F (matches_after false re line 0) ≡ old ++ F (find_all re line)
  added-first re line old = ap (λ ms. old ++ F ms) (matches_after_bytes re line)

  pub added-next : (A : List Mark) (ms rest : List Match) (m : Match) (old new total : List Mark) → ms ≡ m ∷ rest → F (m ∷ rest) ≡ A ++ F rest
      → old ++ F ms ≡ total → new ≡ old ++ A → new ++ F rest ≡ total
  added-next A ms rest m old new total list one so_far is =
      ap (λ n. n ++ F rest) is ∙ append_assoc old A (F rest) ∙ sym (ap (λ more. old ++ more) (ap F list ∙ one)) ∙ so_far

-- whether one is open
module _ (text line : List ℕ) where
  pub open-next : (A B : Type 0) (m : Match) (ms rest : List Match) (total : Type 0) → ms ≡ m ∷ rest
      → ((A ⊎ HasOneOpen text line (map span ms)) ↔ total) → (B ↔ (A ⊎ (¬ (StandsFrom text line (span m).1)))) → (B ⊎ HasOneOpen text line (map span rest)) ↔ total
  open-next A B m ms rest total list so_far now =
      let far : (A ⊎ HasOneOpen text line (map span (m ∷ rest))) ↔ total = subst (λ (xs : List Match). (A ⊎ HasOneOpen text line (map span xs)) ↔ total) list so_far in (
        λ is. far.0 (there is),
        λ is. back (far.1 is),
      )
    where
      there : (B ⊎ HasOneOpen text line (map span rest)) → A ⊎ HasOneOpen text line (map span (m ∷ rest))
      there (inr later) = inr (inr later)
      there (inl here) = elim (now.0 here) [ inl a ↦ inl a | inr stands ↦ inr (inl stands) ]

      back : (A ⊎ HasOneOpen text line (map span (m ∷ rest))) → B ⊎ HasOneOpen text line (map span rest)
      back (inl a) = inl (now.1 (inl a))
      back (inr (inl stands)) = inl (now.1 (inr stands))
      back (inr (inr later)) = inr later

  -- none is open yet where none was passed
  pub open-first : (re : Re) → ((false ≡ true) ⊎ HasOneOpen text line (map span (matches_after false re line 0))) ↔ HasOneOpen text line (map span (find_all re line))
  open-first re = subst (λ (ms : List Match). ((false ≡ true) ⊎ HasOneOpen text line (map span ms)) ↔ HasOneOpen text line (map span (find_all re line)))
      (sym (matches_after_bytes re line))
      (λ is. elim is [ inl never ↦ absurd (false≢true never) | inr open_one ↦ open_one ], λ open_one. inr open_one)

  -- and where all were passed one was
  pub open-last : (A : Type 0) (ms : List Match) (total : Type 0) → ms ≡ [] → ((A ⊎ HasOneOpen text line (map span ms)) ↔ total) → A ↔ total
  open-last A ms total none so_far =
      let far : (A ⊎ ⊥) ↔ total = subst (λ (xs : List Match). (A ⊎ HasOneOpen text line (map span xs)) ↔ total) none so_far in
      (λ a. far.0 (inl a), λ is. elim (far.1 is) [ inl a ↦ a | inr never ↦ absurd never ])
