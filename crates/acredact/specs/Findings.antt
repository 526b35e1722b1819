-- What is told of the runs of lines, by the numbers of patterns and rules.
use Rattle.acredact.specs.Common.{Appends, AreLineRuns, Covering, MayBe, Occurrence, Rule, SinkGhosts, StartsWith, as_shown, stream_lines}
use Rattle.std.specs.Prelude.{◌≡◌, ℕ, ◌+◌, ◌-◌, ◌^◌, min, nat_lt, ◌&&◌, ◌||◌, not, Bool, true, false, List, [], ◌∷◌, ◌++◌, Option, None, Some, codes, decimal, if◌then◌else◌, length, replicate, slice_get, slice_index_or, slice_set, string_bytes}
use Rattle.std.specs.Borrow.{MutBor}
use Rattle.aho_devices.specs.Counts.{AppendsBeginning}
use Rattle.rule_files.specs.Flaws.{name_or_number}
use Rattle.secret_rules.specs.Lines.{Line}
use Rattle.secret_rules.specs.Visits.{AreFirstLines}
use Rattle.acredact.specs.Counts.{counted_more}
use Rattle.acredact.specs.Sums.{counts_for}
use Rattle.acredact.specs.Tables.{Secret, secrets_of}
use Rattle.acredact.specs.declared.legend.Findings.{Findings}
use Rattle.acredact.specs.declared.legend.Legend.{Legend}

-- what the numbers of runs stand for: patterns, rules behind them, and behind these lines with more bytes
pub record Labels : Type 0 where
  pub secrets : List Secret
  pub rules : List Rule
  pub most : ℕ

abbrev pub labels_of : Legend → Labels
labels_of legend = record { secrets = secrets_of legend.secrets.now; rules = legend.rules.now; most = legend.most }

-- how many there are
abbrev pub numbers_in : Labels → ℕ
numbers_in labels = counted_more (min (length labels.secrets + length labels.rules) (2 ^ 64 - 1))

-- a pattern is told by its number from 1 on
abbrev pub given_label : ℕ → List ℕ
given_label number = codes "pattern " ++ decimal (counted_more number)

-- a rule by its name, or by its number where that is empty
abbrev pub rule_label : List ℕ → ℕ → List ℕ
rule_label id number = name_or_number (Some id) (counted_more number)

abbrev pub long_label : ℕ → List ℕ
long_label most = codes "line of more than " ++ (decimal most ++ codes " bytes")

-- what is told of the number of a rule, from 0 on, and of that behind the last
abbrev pub label_behind : ℕ → ℕ → Option Rule → List ℕ
label_behind most number None = long_label most
label_behind most number (Some rule) = rule_label (string_bytes rule.id) number

abbrev pub rule_or_long : Labels → ℕ → List ℕ
rule_or_long labels number = label_behind labels.most number (slice_get labels.rules number)

-- and of any number
abbrev pub label_of : Labels → ℕ → List ℕ
label_of labels number =
    if nat_lt number (length labels.secrets) then given_label number else rule_or_long labels (number - length labels.secrets)

-- a run is told by the number of its pattern, where it is of a form, and else by its own
abbrev pub told_by : ℕ → Option Secret → ℕ
told_by number None = number
told_by number (Some secret) = counts_for number secret

abbrev pub told_for : Labels → ℕ → ℕ
told_for labels number = told_by number (slice_get labels.secrets number)

-- the line that tells of a run: of which file, of which line of it, and what marks it or occurs there
abbrev pub finding_line : Labels → (name : List ℕ) → (line number : ℕ) → List ℕ
finding_line labels name line number = as_shown name ++ (58 ∷ (decimal line ++ (codes ": " ++ (label_of labels number ++ codes "\n"))))

-- a number of which it was not noted that it came
abbrev pub is_new : List Bool → ℕ → Bool
is_new came number = nat_lt number (length came) && not (slice_index_or came number false)

abbrev pub with_new : List Bool → ℕ → List Bool
with_new came number = if is_new came number then slice_set came number true else came

-- what is told by this number
abbrev pub finding_or_none : Labels → (name : List ℕ) → (line : ℕ) → List Bool → ℕ → List ℕ
finding_or_none labels name line came number = if is_new came number then finding_line labels name line number else []

-- a line for each number by which some runs are told, where it first comes
abbrev pub findings_from : Labels → (name : List ℕ) → (line : ℕ) → List Bool → List Occurrence → List ℕ
findings_from labels name line came [] = []
findings_from labels name line came (run ∷ runs) =
    finding_or_none labels name line came (told_for labels run.pattern)
    ++ findings_from labels name line (with_new came (told_for labels run.pattern)) runs

-- those of a line
abbrev pub line_findings : Labels → (name : List ℕ) → (line : ℕ) → List Occurrence → List ℕ
line_findings labels name line runs = findings_from labels name line (replicate (numbers_in labels) false) runs

-- those of lines, from one number on, which stops at the greatest
abbrev pub lines_findings : Labels → (name : List ℕ) → (line : ℕ) → List (List Occurrence) → List ℕ
lines_findings labels name line [] = []
lines_findings labels name line (runs ∷ more) = line_findings labels name line runs ++ lines_findings labels name (counted_more line) more

-- whether there is a run in a line, and in some lines
abbrev pub is_some_run : List Occurrence → Bool
is_some_run [] = false
is_some_run (run ∷ runs) = true

abbrev pub is_some_line : List (List Occurrence) → Bool
is_some_line [] = false
is_some_line (runs ∷ more) = is_some_run runs || is_some_line more

-- the same of what was found by now
abbrev pub findings_of : Findings → List Occurrence → List ℕ
findings_of findings runs = line_findings (labels_of findings.legend) findings.name.now findings.line runs

abbrev pub runs_findings : Findings → List Bool → List Occurrence → List ℕ
runs_findings findings came runs = findings_from (labels_of findings.legend) findings.name.now findings.line came runs

abbrev pub next_finding : Findings → List Bool → ℕ → List ℕ
next_finding findings came number = finding_or_none (labels_of findings.legend) findings.name.now findings.line came number

-- with one more line
abbrev pub findings_behind : Findings → List Occurrence → Findings
findings_behind findings runs = record findings { line = counted_more findings.line; found = findings.found || is_some_run runs }

module _ {W : Type 0} (K : SinkGhosts W) where
  -- the runs of a line were told to the same output
  pub record TellsLine (output output' : MutBor W) (findings findings' : Findings) (runs : List Occurrence) : Type 0 where
    pub same : output'.ghost_name ≡ output.ghost_name
    pub told : Appends (K.taken output.now) (K.taken output'.now) (findings_of findings runs)
    pub behind : findings' ≡ findings_behind findings runs

  -- or a beginning of what tells of them
  pub record StopsTelling (output output' : MutBor W) (findings : Findings) (runs : List Occurrence) : Type 0 where
    pub same : output'.ghost_name ≡ output.ghost_name
    pub begun : AppendsBeginning (K.taken output.now) (K.taken output'.now) (findings_of findings runs)

-- what is looked for in lines, and what is told of the numbers of runs
pub record LineSought : Type 0 where
  pub covering : Covering
  pub labels : Labels

-- a text was given whole: whether something was found, and what was told of it
pub record TellsText (s : LineSought) (name : List ℕ) (found : Bool) (given : List ℕ) (ended : Bool) (part : List ℕ) : Type 0 where
  pub whole : ended ≡ true
  pub runs : List (List Occurrence)
  pub are : AreLineRuns s.covering [] (stream_lines given) runs
  pub found_is : found ≡ is_some_line runs
  pub told : part ≡ lines_findings s.labels name 1 runs

-- these bytes begin what tells of some first lines of whatever the text may be, of which this was given
pub record BeginsFindings (s : LineSought) (name given : List ℕ) (ended : Bool) (part : List ℕ) : Type 0 where
  pub lines : List Line
  pub runs : List (List Occurrence)
  pub are : AreLineRuns s.covering [] lines runs
  pub first : (bytes : List ℕ) → MayBe given ended bytes → AreFirstLines lines (stream_lines bytes)
  pub begins : StartsWith (lines_findings s.labels name 1 runs) part
