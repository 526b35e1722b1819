-- Which of the operands are searched.
use Rattle.acgrep.proofs.Common.{Ways, cases_Bool, common_steps, is_input, name_bytes, or_input}
use Rattle.std.proofs.Common.{◌++◌, ◌∙◌, ◌∷◌, ◌≡◌, ◌⊎◌, Bool, Bor, List, None, Option, Some, [], ap, append-nil, append_assoc, arith, false, inl, inr, length, refl, subst, sym, true, ℕ}
use Rattle.std.specs.Prelude.{◌||◌, IfSome, not}
use Rattle.acgrep.specs.Arguments.{Said, ways_by}
use Rattle.acgrep.specs.Folders.{AreChosen, Chooses, IsKept, IsUnknown, Tree, is_folder, is_passed, kept_of, missed_of}
use Rattle.acgrep.specs.Listed.{listed_bytes}
use Rattle.acgrep.specs.Rules.{RuleSaid, is_left_out}
use Rattle.acgrep.specs.Runs.{AreReached, chooses}
use Rattle.acgrep.specs.declared.folders.Kind.{Kind}
use Rattle.acgrep.specs.declared.walk.Found.{Found}

-- those of the names so far were put down: whichever of the others are searched, those behind them are
pub record AreSoFar (tree : Tree) (rules : List RuleSaid) (ways : Ways) (all rest : List (List ℕ)) (found : Found) : Type 0 where
  pub leads : (others : List (List ℕ)) → AreChosen tree rules ways rest others → AreChosen tree rules ways all (listed_bytes found.names.items ++ others)
  pub none : missed_of found.unread.items ≡ []

module _ (tree : Tree) (rules : List RuleSaid) (ways : Ways) (all : List (List ℕ)) where
  pub chosen-more : (name : List ℕ) (names : List (List ℕ)) (old new : Found) → AreSoFar tree rules ways all (name ∷ names) old → Chooses tree rules ways name old new
      → AreSoFar tree rules ways all names new
  chosen-more name names old new so_far step = record {
    leads = λ others are.
        let here = so_far.leads (kept_of name step.kept ++ others) (step.kept, others, step.is, are, refl) in
        let same : listed_bytes old.names.items ++ (kept_of name step.kept ++ others) ≡ listed_bytes new.names.items ++ others =
        sym (append_assoc (listed_bytes old.names.items) (kept_of name step.kept) others) ∙ ap (λ (l : List (List ℕ)). l ++ others) (sym step.names) in
        subst (λ (l : List (List ℕ)). AreChosen tree rules ways all l) same here;
    none = ap (λ u. missed_of u.items) step.unread ∙ so_far.none;
  }

  pub chosen-end : (rest : List (Bor (List ℕ))) (found : Found) → length rest ≡ 0 → AreSoFar tree rules ways all (name_bytes rest) found → AreChosen tree rules ways all (listed_bytes found.names.items)
  chosen-end [] found gone so_far = subst (λ (l : List (List ℕ)). AreChosen tree rules ways all l) (append-nil (listed_bytes found.names.items)) (so_far.leads [] refl)
  chosen-end (name ∷ names) found gone so_far = absurd (omega (arith, gone))

-- where there are no rules, and none is passed over for what it is, all are searched
module _ (tree : Tree) (rules : List RuleSaid) (ways : Ways) (none : chooses rules ways ≡ false) where
  none_left : (kind : Kind) (name : List ℕ) → not (is_passed ways kind || is_left_out rules (is_folder kind) true name) ≡ true
  none_left kind name = grind (arith, common_steps)

  is_chosen : (name : List ℕ) (kept : Bool) → IsKept tree rules ways name kept → kept ≡ true
  is_chosen name kept is = grind (arith, common_steps)

  -- so none has to be looked at
  pub all_kept : (name : List ℕ) → IsKept tree rules ways name true
  all_kept name = elim (cases_Bool (is_input name)) [ inl input ↦ rw input refl | inr other ↦ rw other (looked (tree.kinds true name) refl) ]
    where
      looked : (known : Option Kind) → tree.kinds true name ≡ known
          → (IsUnknown tree true name × (true ≡ true)) ⊎ ((kind : Kind) × IfSome (tree.kinds true name) (λ known. kind ≡ known) × (true ≡ not (is_passed ways kind || is_left_out rules (is_folder kind) true name)))
      looked None is = inl (inl is, refl)
      looked (Some kind) is = inr (kind, rw is refl, sym (none_left kind name))

  all_chosen : (names files : List (List ℕ)) → AreChosen tree rules ways names files → files ≡ names
  all_chosen [] files is = is
  all_chosen (name ∷ names) files (kept, others, is, more, same) =
      same ∙ ap (λ (b : Bool). kept_of name b ++ others) (is_chosen name kept is) ∙ ap (λ (l : List (List ℕ)). name ∷ l) (all_chosen names others more)

-- those that were chosen are the files of a search that enters no folder
pub reached-chosen : (tree : Tree) (given : Said) (names files unread : List (List ℕ)) → given.flags.recursive ≡ false → AreChosen tree given.rules (ways_by given.flags) (or_input names) files
    → unread ≡ [] → AreReached tree given names files unread
reached-chosen tree given names files unread plain chosen whole = elim (cases_Bool (chooses given.rules (ways_by given.flags))) [
  | inl some ↦ rw plain (rw some chosen, whole)
  | inr none ↦ rw plain (rw none (all_chosen tree given.rules (ways_by given.flags) none (or_input names) files chosen), whole)
]
