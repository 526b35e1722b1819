-- The links, rows and lists of a state, from those of shorter words.
use Rattle.std.proofs.Common.{◌≡◌, ℕ, Bool, true, false, cond, List, [], ◌∷◌, ◌++◌, refl, sym, subst, ◌∙◌, ap}
use Rattle.std.specs.Prelude.{Option, Some, None}
use Rattle.aho_core.specs.Failure.{failure_of, is_cut}
use Rattle.aho_core.specs.MatchList.{matches_of, own_matches}
use Rattle.aho_core.specs.Patterns.{Patterns}
use Rattle.aho_core.specs.Step.{follow}
use Rattle.aho_core.specs.Trie.{is_node}
use Rattle.aho_core.specs.declared.search.Anchored.TheVariants.{No}
use Rattle.aho_laws.proofs.ByLinks.{ends_here, failure-first, failure-next, is_cut-next, is_cut-root, matches-next}
use Rattle.aho_laws.proofs.StepLaw.{follow-failure, follow-node}
use Rattle.aho_levels.specs.Meaning.{IsStateNamed, named_word}

-- the dead state where the walk ends, and else this one
abbrev dead_if : Bool → Option (List ℕ) → Option (List ℕ)
dead_if ends other = cond ends None other

module _ (p : Patterns) (names : List (Option (List ℕ))) where
  -- the dead state where the walk ends here, and else this one
  named-cond : (ends : Bool) (other : Option (List ℕ)) (sid : ℕ) → IsStateNamed names other sid → IsStateNamed names (cond ends None other) (cond ends 0 sid)
  named-cond true other sid is = refl
  named-cond false other sid is = is

  -- where the root's own list ends the walk, nothing that starts later is looked for
  pub back-named : named_word names 1 ≡ Some [] → IsStateNamed names (cond (ends_here p []) None (Some [])) (cond (ends_here p []) 0 1)
  back-named root = named-cond (ends_here p []) (Some []) 1 root

  -- a word of one byte leads back to the root
  pub link-first : (x back : ℕ) → IsStateNamed names (cond (ends_here p []) None (Some [])) back → IsStateNamed names (failure_of p (x ∷ [])) (cond (ends_here p (x ∷ [])) 0 back)
  link-first x back is =
      subst (λ (s : Option (List ℕ)). IsStateNamed names s (cond (ends_here p (x ∷ [])) 0 back)) (sym whole)
      (named-cond (ends_here p (x ∷ [])) (cond (ends_here p []) None (Some [])) back is)
    where
      both : (cut ends : Bool) → dead_if (cond cut true ends) (Some []) ≡ dead_if ends (dead_if cut (Some []))
      both true true = refl
      both true false = refl
      both false true = refl
      both false false = refl

      whole : failure_of p (x ∷ []) ≡ cond (ends_here p (x ∷ [])) None (cond (ends_here p []) None (Some []))
      whole =
          failure-first p x
          ∙ ap (λ (b : Bool). cond b None (Some [])) (is_cut-next p [] x)
          ∙ both (is_cut p []) (ends_here p (x ∷ []))
          ∙ ap (λ (b : Bool). cond (ends_here p (x ∷ [])) None (cond b None (Some []))) (is_cut-root p)

  -- a longer one where its last byte leads from the link of the word before it
  pub link-further : (y : ℕ) (u : List ℕ) (x next : ℕ) → IsStateNamed names (follow p No (failure_of p (y ∷ u)) x) next
      → IsStateNamed names (failure_of p (y ∷ u ++ x ∷ [])) (cond (ends_here p (y ∷ u ++ x ∷ [])) 0 next)
  link-further y u x next is =
      subst (λ (s : Option (List ℕ)). IsStateNamed names s (cond (ends_here p (y ∷ u ++ x ∷ [])) 0 next)) (sym (failure-next p y u x))
      (named-cond (ends_here p (y ∷ u ++ x ∷ [])) (follow p No (failure_of p (y ∷ u)) x) next is)

  -- an entry of a row: the child, or that of the link's row
  pub entry-child : (w : List ℕ) (x child : ℕ) → is_node p (w ++ x ∷ []) ≡ true → named_word names child ≡ Some (w ++ x ∷ []) → IsStateNamed names (follow p No (Some w) x) child
  entry-child w x child node is = subst (λ (s : Option (List ℕ)). IsStateNamed names s child) (sym (follow-node p No w x node)) is

  pub entry-linked : (y : ℕ) (u : List ℕ) (x entry : ℕ) → is_node p (y ∷ u ++ x ∷ []) ≡ false → IsStateNamed names (follow p No (failure_of p (y ∷ u)) x) entry
      → IsStateNamed names (follow p No (Some (y ∷ u)) x) entry
  entry-linked y u x entry other is = subst (λ (s : Option (List ℕ)). IsStateNamed names s entry) (sym (follow-failure p y u x other)) is

-- a list: the state's own patterns, and then what its link lists
pub list-next : (p : Patterns) (y : ℕ) (u own linked : List ℕ) → own ≡ own_matches p (y ∷ u) → linked ≡ matches_of p (failure_of p (y ∷ u)) → own ++ linked ≡ matches_of p (Some (y ∷ u))
list-next p y u own linked is further = ap (λ (xs : List ℕ). xs ++ linked) is ∙ ap (λ (xs : List ℕ). own_matches p (y ∷ u) ++ xs) further ∙ sym (matches-next p y u)
