-- The texts of the files of rules, one after another, and the rules that they hold.
use Rattle.acgrep.proofs.Common.{IsOneOf, cases_Bool, get_or}
use Rattle.std.proofs.Common.{◌++◌, ◌<◌, ◌∙◌, ◌∷◌, ◌≡◌, List, Option, [], ap, arith, false, inl, inr, length, refl, suc, sym, true, zero, ℕ}
use Rattle.acgrep.specs.Loading.{AreTexts, IsTextOfRule}
use Rattle.acgrep.specs.Rules.{RuleSaid, expanded, glob_before, glob_of_line, is_from_file, is_space, rule_before, rules_by, rules_said}
use Rattle.acgrep.specs.Runs.{AreRules, AreRulesOf}
use Rattle.acgrep.specs.Told.{rule_files}
use Rattle.acgrep.specs.declared.rules.Rule.{Rule}

module _ (holds : List ℕ → Option (List ℕ)) where
  -- the rules of a text
  rules_of_text : (rule : RuleSaid) (left left' : Option (List ℕ)) (text : List ℕ) → IsTextOfRule holds rule left left' text → AreRulesOf holds rule left left' (rules_by rule text)
  rules_of_text rule left left' text is =
      elim (cases_Bool (is_from_file rule.sense)) [
        | inl file ↦ rw file (record { text = text; is = rw file at is; are = refl })
        | inr glob ↦ rw glob ((rw glob at is).0, refl)
      ]

  -- and of all
  rules_of_texts : (rules : List RuleSaid) (left left' : Option (List ℕ)) (texts : List (List ℕ)) → AreTexts holds rules left left' texts → AreRules holds rules left left' (expanded rules texts)
  rules_of_texts [] left left' texts are = (are.0, refl)
  rules_of_texts (rule ∷ rules) left left' texts (between, first, others, cut, (text, alone, is), are) =
      rw (cut ∙ ap (λ (l : List (List ℕ)). l ++ others) alone) (between, rules_by rule text, expanded rules others, refl, rules_of_text rule left between text is, rules_of_texts rules between left' others are)

  -- texts that were read, and what was put together of them
  pub rules_read : (given slice all : List RuleSaid) (texts found : List (List ℕ)) (left left' : Option (List ℕ)) → slice ≡ given → found ≡ texts → AreTexts holds slice left left' texts
      → all ≡ expanded slice found → AreRules holds given left left' all
  rules_read given slice all texts found left left' same alike are is = rw same at (rw (ap (expanded slice) (sym alike) ∙ sym is) at (rules_of_texts _ _ _ _ are))

-- the file of a rule is one of those of all
pub file_among : (rules : List Rule) (i : ℕ) (d : Rule) → i < length rules → is_from_file (get_or rules i d).sense ≡ true → IsOneOf (get_or rules i d).glob.now (rule_files (rules_said rules))
file_among [] i d lt file = absurd (omega (arith, lt))
file_among (rule ∷ rules) zero d lt file = rw file (inl refl)
file_among (rule ∷ rules) (suc i) d lt file =
    let later = file_among rules i d (omega (arith, lt)) file in
    elim (cases_Bool (is_from_file rule.sense)) [ inl own ↦ rw own (inr later) | inr glob ↦ rw glob later ]

-- without a text no rule is there
pub expanded_none : (rules : List RuleSaid) → expanded rules [] ≡ []
expanded_none [] = refl
expanded_none (rule ∷ rules) = refl

-- that of a glob stands before others
pub rule_front : (glob : List ℕ) (rules : List RuleSaid) → rule_before glob rules ≡ rule_before glob [] ++ rules
rule_front [] rules = refl
rule_front (byte ∷ bytes) rules = refl

-- white space at the end of a line is passed over
pub trimmed_space : (line : List ℕ) (byte : ℕ) → is_space byte ≡ true → glob_of_line (line ++ (byte ∷ [])) ≡ glob_of_line line
trimmed_space [] byte space = rw space refl
trimmed_space (first ∷ line) byte space = ap (glob_before first) (trimmed_space line byte space)

-- and any other byte ends it
pub trimmed_end : (line : List ℕ) (byte : ℕ) → is_space byte ≡ false → glob_of_line (line ++ (byte ∷ [])) ≡ line ++ (byte ∷ [])
trimmed_end [] byte other = rw other refl
trimmed_end (first ∷ line) byte other = ap (glob_before first) (trimmed_end line byte other) ∙ kept_some first line byte
  where
    kept_some : (first : ℕ) (line : List ℕ) (byte : ℕ) → glob_before first (line ++ (byte ∷ [])) ≡ first ∷ (line ++ (byte ∷ []))
    kept_some first [] byte = refl
    kept_some first (next ∷ line) byte = refl
