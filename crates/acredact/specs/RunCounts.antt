-- How many runs have the number of each pattern and of each rule, file after file, and how that and a summary are told.
use Rattle.acredact.specs.Common.{AreLineRuns, Covering, Errors, Occurrence, Rule, SinkGhosts, stream_lines, Bor}
use Rattle.std.specs.Prelude.{◌≡◌, ℕ, ◌+◌, Bool, MatchBool, true, List, [], Option, drop, length, Some}
use Rattle.secret_rules.specs.LineCovers.{all_of}
use Rattle.acredact.specs.Arguments.{Given, all_given, counts_asked, counts_given}
use Rattle.acredact.specs.Counts.{secret_lines}
use Rattle.acredact.specs.Deeds.{WholeText}
use Rattle.acredact.specs.Reads.{EachGives, OfName}
use Rattle.acredact.specs.Calls.{TellsWhole}
use Rattle.acredact.specs.Summaries.{numbers_text, rules_lent}
use Rattle.acredact.specs.Sums.{sums_of}
use Rattle.acredact.specs.Tables.{Secret, secrets_of}
use Rattle.acredact.specs.Totals.{AreTotals}
use Rattle.acredact.specs.declared.options.Item.{Item}
use Rattle.acredact.specs.declared.rule.Rule.{Rule as PatternRule}
use Rattle.acredact.specs.declared.summary.Volume.{Volume}

-- these are all runs of the lines of a text
abbrev pub AreAllRuns : Covering → (text : List ℕ) → List Occurrence → Type 0
AreAllRuns covering text runs =
    (by_line : List (List Occurrence)) × AreLineRuns covering [] (stream_lines text) by_line × (runs ≡ all_of by_line)

abbrev pub HasRuns : Covering → List Occurrence → (left left' : Option (List ℕ)) → Type 0
HasRuns covering runs left left' = WholeText (λ text. AreAllRuns covering text runs) left left'

-- and these are those of all files, one after another
abbrev pub HaveRuns : (holds : List ℕ → Option (List ℕ)) → Covering
    → List (List ℕ) → List Occurrence → (left left' : Option (List ℕ)) → Type 0
HaveRuns holds covering names runs left left' = EachGives (λ name own. OfName holds name (HasRuns covering own)) names runs left left'

-- what is told of all numbers. A form counts for its pattern, and the counts of rules stand behind those of patterns
abbrev pub all_numbers_text : List Given → List Secret → Option (List Rule) → (counts : List ℕ) → Volume → List ℕ
all_numbers_text given secrets rules counts volume =
    numbers_text given (secret_lines secrets) (sums_of secrets counts) rules (drop (length secrets) counts) volume

-- of a call with rules
abbrev pub run_totals_text : List Given → List Secret → List Rule → (counts : List ℕ) → Volume → List ℕ
run_totals_text given secrets rules counts volume = all_numbers_text given secrets (Some rules) counts volume

-- this may be told where they are asked for
abbrev pub IsRunsLine : List Given → List ℕ → Type 0
IsRunsLine given line =
    (counts_asked given ≡ true) × (secrets : List Secret) × (rules : List Rule) × (counts : List ℕ)
    × (volume : Volume) × (line ≡ run_totals_text given secrets rules counts volume)

module _ {E : Type 0} (K : SinkGhosts E) (given : List Given) (secrets : List Secret) (rules : List Rule) where
  -- where they are asked for, the counts of all runs are told whole, and that so much was read: one for each pattern and for each rule, and
  -- one for lines that are too long; and else nothing is
  pub record TellsRunTotals (asked : Bool) (runs : List Occurrence) (volume : Volume) (errors errors' : Errors E) : Type 0 where
    pub counts : List ℕ
    pub totals : AreTotals (length secrets + length rules + 1) runs counts
    pub told : MatchBool asked (TellsWhole K (run_totals_text given secrets rules counts volume) errors errors') (errors' ≡ errors)

-- the same of what was counted for these rules
abbrev pub counted_text : List Item → List PatternRule → Option (Bor (List Rule)) → (counts : List ℕ) → Volume → List ℕ
counted_text items secrets rules counts volume = all_numbers_text (all_given items) (secrets_of secrets) (rules_lent rules) counts volume

-- and this is it, where it is asked for
abbrev pub IsNumbersLine : List Item → List PatternRule → Option (Bor (List Rule)) → (counts : List ℕ) → Volume → List ℕ → Type 0
IsNumbersLine items secrets rules counts volume line =
    (counts_given items ≡ true) × (line ≡ counted_text items secrets rules counts volume)

abbrev pub TellsAnyCounts : {E : Type 0} → SinkGhosts E → List Item → List PatternRule
    → Option (Bor (List Rule)) → (counts : List ℕ) → Volume → (errors errors' : Errors E) → Type 0
TellsAnyCounts K items secrets rules counts volume errors errors' =
    MatchBool (counts_given items) (TellsWhole K (counted_text items secrets rules counts volume) errors errors') (errors' ≡ errors)
