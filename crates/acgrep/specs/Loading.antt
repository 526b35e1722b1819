-- What a source adds to the patterns that were read before.
use Rattle.acgrep.specs.Common.{Readers}
use Rattle.std.specs.Prelude.{◌++◌, ◌∷◌, ◌≡◌, List, MatchBool, Option, Vec, [], ℕ}
use Rattle.acgrep.specs.Gathered.{AllGive}
use Rattle.acgrep.specs.Lines.{lines}
use Rattle.acgrep.specs.Listed.{listed_bytes}
use Rattle.acgrep.specs.Rules.{RuleSaid, is_from_file, rules_said}
use Rattle.acgrep.specs.Runs.{AreWords, IsTextOf, origins_of}
use Rattle.acgrep.specs.declared.arguments.Source.{Source}
use Rattle.acgrep.specs.declared.open.Open.{Ghosts as Openers}
use Rattle.acgrep.specs.declared.patterns.Keys.{Keys}
use Rattle.acgrep.specs.declared.rules.Rule.{Rule}

-- the text of a file is added to bytes
pub record AddsText (holds : List ℕ → Option (List ℕ)) (name : List ℕ) (left left' : Option (List ℕ)) (old new : List ℕ) : Type 0 where
  pub text : List ℕ
  pub grown : new ≡ old ++ text
  pub is : IsTextOf holds name left left' text

-- the text of the file of a rule, or none for one that is a glob
abbrev pub IsTextOfRule : (List ℕ → Option (List ℕ)) → RuleSaid → (left left' : Option (List ℕ)) → List ℕ → Type 0
IsTextOfRule holds rule left left' text = MatchBool (is_from_file rule.sense) (IsTextOf holds rule.glob left left' text) ((left' ≡ left) × (text ≡ []))

abbrev pub GivesText : (List ℕ → Option (List ℕ)) → RuleSaid → (left left' : Option (List ℕ)) → List (List ℕ) → Type 0
GivesText holds rule left left' texts = (text : List ℕ) × (texts ≡ text ∷ []) × IsTextOfRule holds rule left left' text

-- those of rules, one after another
abbrev pub AreTexts : (List ℕ → Option (List ℕ)) → List RuleSaid → (left left' : Option (List ℕ)) → (texts : List (List ℕ)) → Type 0
AreTexts holds rules left left' texts = AllGive (GivesText holds) rules left left' texts

-- files are opened by one value, and standard input is read from another
module _ {F X R : Type 0} (openers : Openers F X) (readers : Readers R) (files : F) where
  -- the patterns of these sources are read
  abbrev pub ReadsSources : List Source → R → R → Keys → Type 0
  ReadsSources sources input input' keys =
      AreWords (openers.holds files) (origins_of sources) (readers.remaining input) (readers.remaining input') (lines 10 keys.text.items)

  -- the text of a file is added to bytes
  abbrev pub AddsFile : List ℕ → R → R → List ℕ → List ℕ → Type 0
  AddsFile name input input' old new =
      AddsText (openers.holds files) name (readers.remaining input) (readers.remaining input') old new

  -- the texts of the files of rules are read
  abbrev pub ReadsTexts : {Z : Type 0} → List Rule → R → R → List (Vec ℕ Z) → Type 0
  ReadsTexts rules input input' texts =
      AreTexts (openers.holds files) (rules_said rules) (readers.remaining input) (readers.remaining input') (listed_bytes texts)
