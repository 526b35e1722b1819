-- What a run answers.
use Rattle.std.specs.Prelude.{◌≡◌, ◌⊎◌, ℕ, Bool, true, false, ◌+◌, ◌<◌, ◌≤◌, List, [], ◌∷◌, ◌++◌, None, Result, Err, IfErr, IfOk, OnOk, length, map, decimal, codes, if◌then◌else◌}
use Rattle.std.specs.Io.{StartsWith}
use Rattle.std.specs.Io.KnownBytes.{Appends, Consumes, IsAtEnd}
use Rattle.std.specs.List.{flat_map}
use Rattle.std.specs.declared.io.traits.Read.{Ghosts as Readers}
use Rattle.std.specs.declared.io.traits.Write.{Ghosts as Writers}
use Rattle.aho_core.specs.Iteration.{AreFinds}
use Rattle.aho_core.specs.Occurrence.{Occurrence}
use Rattle.aho_core.specs.Overlapping.{all_occurrences}
use Rattle.aho_core.specs.Patterns.{Patterns}
use Rattle.aho_core.specs.Replacement.{replaced}
use Rattle.aho_core.specs.Search.{plain_search}
use Rattle.aho_stream.specs.After.{kept_for}
use Rattle.aho_stream.specs.Replacing.{MayBe, piece_for, replaced_up_to}
use Rattle.aho_devices.specs.Counts.{AppendsBeginning}
use Rattle.aho_devices.specs.declared.adapters.FromRead.{FromRead}
use Rattle.aho_devices.specs.declared.adapters.FromWrite.{FromWrite}
use Rattle.tool_parts.specs.Asked.{Asked, Builds, BuildsReplacing, Replacing, asked_patterns, patterns_to_replace}
use Rattle.tool_parts.specs.Failures.{HasStatus, line_of_failure, LeavesPrinting, LeavesReplacing}
use Rattle.tool_parts.specs.Streams.{Contents, contents, CountsFaults, ReadsToLimit, Unread, Unwritten, WritesBeginning, WritesBytes}
use Rattle.tool_parts.specs.declared.command.Task.{Task}
use Rattle.tool_parts.specs.declared.command.Task.TheVariants.{Find, Overlap}
use Rattle.tool_parts.specs.declared.failure.Failure.{Failure}

-- the matches of a text one after another
abbrev pub AreFindsIn : Patterns → List ℕ → List Occurrence → Type 0
AreFindsIn p text = AreFinds p (plain_search text) None

-- the matches of a text that a task prints, in order: those of an iteration, or all occurrences
abbrev pub AreMatches : Task → Patterns → List ℕ → List Occurrence → Type 0
AreMatches (Find kind ignore_case) p text ms = AreFindsIn p text ms
AreMatches Overlap p text ms = ms ≡ all_occurrences p text 0 (length text)

-- what is printed of a match: `PATTERN START END` and a line end
abbrev pub line_of : Occurrence → List ℕ
line_of m = decimal m.pattern ++ (codes " " ++ (decimal m.start ++ (codes " " ++ (decimal m.end ++ codes "\n"))))

-- one line after another
abbrev pub lines_of : List Occurrence → List ℕ
lines_of ms = flat_map line_of ms

-- whether there is a match
abbrev pub is_any : List Occurrence → Bool
is_any [] = false
is_any (m ∷ ms) = true

-- the status where there is a match, and where there is none
abbrev pub status_of : Bool → ℕ
status_of any = if any then 0 else 1

module _ {W : Type 0} (Writes : Writers W) where
  -- the line of each match is written and nothing else, and this says whether there is one
  abbrev pub PrintsLines : FromWrite W → FromWrite W → List Occurrence → Bool → Type 0
  PrintsLines old new ms any = WritesBytes Writes old new (lines_of ms) × (any ≡ is_any ms)

  -- that is so of the matches that are meant
  pub record Prints (AreMeant : List Occurrence → Type 0) (old new : FromWrite W) (any : Bool) : Type 0 where
    pub matches : List Occurrence
    pub meant : AreMeant matches
    pub printed : WritesBytes Writes old new (lines_of matches)
    pub told : any ≡ is_any matches

  -- that is so of the matches that a task prints
  abbrev pub PrintsAll : Task → Patterns → List ℕ → FromWrite W → FromWrite W → Bool → Type 0
  PrintsAll task p text = Prints (AreMatches task p text)

  -- a beginning of the lines of the matches that are meant is written
  pub record Begun (AreMeant : List Occurrence → Type 0) (old new : FromWrite W) : Type 0 where
    pub matches : List Occurrence
    pub meant : AreMeant matches
    pub begun : WritesBeginning Writes old new (lines_of matches)

  -- so is it of whatever patterns an automaton is of
  abbrev pub PrintsFor : (IsOf : Patterns → Type 0) → (AreMeant : Patterns → List Occurrence → Type 0) → FromWrite W → FromWrite W → Result Bool Failure → Type 0
  PrintsFor IsOf AreMeant old new result = (p : Patterns) → IsOf p → IfOk result (Prints (AreMeant p) old new)

  abbrev pub BegunFor : (IsOf : Patterns → Type 0) → (AreMeant : Patterns → List Occurrence → Type 0) → FromWrite W → FromWrite W → Type 0
  BegunFor IsOf AreMeant old new = (p : Patterns) → IsOf p → Begun (AreMeant p) old new

  -- the line of a failure is written: all of it where no write failed or took nothing, and else a beginning of it
  pub record TellsLine (old new : FromWrite W) (failure : Failure) : Type 0 where
    pub begun : WritesBeginning Writes old new (line_of_failure failure)
    pub whole : new.failures ≡ old.failures → new.empty_writes ≡ old.empty_writes → WritesBytes Writes old new (line_of_failure failure)

  -- the line of a failure of this status is written, and the failure leaves what it should
  pub record TellsFailure (old new : FromWrite W) (status : ℕ) (Left : Failure → Type 0) : Type 0 where
    pub failure : Failure
    pub told : HasStatus status failure
    pub line : TellsLine old new failure
    pub left : Left failure

  -- the failure of such a status is told, and it is that of a device exactly where this device failed
  abbrev pub TellsIfFailed : {R : Type 0} {Reads : Readers R} {V : Type 0} → FromWrite W → FromWrite W → FromRead R Reads → FromRead R Reads → FromWrite V → FromWrite V → ℕ → Type 0
  TellsIfFailed old new input_old input_new output_old output_new status =
      2 ≤ status → TellsFailure old new status (λ failure. CountsFaults {A = Unit {0}} input_old input_new output_old output_new (Err failure))

-- all of the input was read, and these are the matches that are asked for
pub record ReadsMatches (bytes : Contents) (ms : List Occurrence) (asked : Asked) : Type 0 where
  pub text : List ℕ
  pub read : Consumes bytes.left_before bytes.left_after text
  pub ended : IsAtEnd bytes.left_after
  pub right : AreMatches asked.task (asked_patterns asked) text ms

-- the matches are found, the line of each is written and nothing else, and the status says whether there is one
pub record PrintsMatches (bytes : Contents) (status : ℕ) (asked : Asked) : Type 0 where
  pub matches : List Occurrence
  pub found : ReadsMatches bytes matches asked
  pub printed : Appends bytes.held_before bytes.held_after (lines_of matches)
  pub told : status ≡ status_of (is_any matches)

-- the matches are found, and a beginning of their lines is written
pub record BeginsMatches (bytes : Contents) (asked : Asked) : Type 0 where
  pub matches : List Occurrence
  pub found : ReadsMatches bytes matches asked
  pub begun : AppendsBeginning bytes.held_before bytes.held_after (lines_of matches)

-- the end of the input was seen, and the replacement of all of it is written and nothing else
pub record WritesReplacement (bytes : Contents) (asked : Replacing) : Type 0 where
  pub text : List ℕ
  pub read : Consumes bytes.left_before bytes.left_after text
  pub ended : IsAtEnd bytes.left_after
  pub matches : List Occurrence
  pub found : AreFinds (patterns_to_replace asked) (plain_search text) None matches
  pub written : Appends bytes.held_before bytes.held_after (replaced text matches asked.pieces)

-- some of the input was read, and what is written begins the replacement, whatever bytes follow: none once its end was seen
pub record BeginsReplacement (bytes : Contents) (asked : Replacing) : Type 0 where
  pub text : List ℕ
  pub read : Consumes bytes.left_before bytes.left_after text
  pub ended : Bool
  pub at_end : ended ≡ true → IsAtEnd bytes.left_after
  pub written : List ℕ
  pub grown : Appends bytes.held_before bytes.held_after written
  pub beginning : (given : List ℕ) (ms : List Occurrence) → MayBe text ended given
      → AreFinds (patterns_to_replace asked) (plain_search given) None ms → StartsWith (replaced given ms asked.pieces) written

-- and it is the replacement up to a place, whatever bytes follow: no more than the longest pattern has, and at least one, are left
pub record WritesMost (bytes : Contents) (asked : Replacing) : Type 0 where
  pub text : List ℕ
  pub read : Consumes bytes.left_before bytes.left_after text
  pub ended : Bool
  pub at_end : ended ≡ true → IsAtEnd bytes.left_after
  pub place : ℕ
  pub within : place ≤ length text
  pub near : length text ≤ place + kept_for (map length asked.patterns)
  pub written : (given : List ℕ) (ms : List Occurrence) → MayBe text ended given
      → AreFinds (patterns_to_replace asked) (plain_search given) None ms
      → Appends bytes.held_before bytes.held_after (replaced_up_to given place 0 ms (piece_for asked.pieces))

-- nothing was read, or nothing that is asked for is refused by the build
abbrev pub BuildsFirst : {R : Type 0} {Reads : Readers R} → FromRead R Reads → FromRead R Reads → Asked → Type 0
BuildsFirst old new asked = Unread old new ⊎ Builds asked

-- nothing was read, or no pattern is refused by the build
abbrev pub BuildsFirstToReplace : {R : Type 0} {Reads : Readers R} → FromRead R Reads → FromRead R Reads → Replacing → Type 0
BuildsFirstToReplace old new asked = Unread old new ⊎ BuildsReplacing asked

-- of an input and an output, each before a call and after it
module _ {R : Type 0} {Reads : Readers R} {W : Type 0} (Writes : Writers W) (input_old input_new : FromRead R Reads) (output_old output_new : FromWrite W) where
  -- the matches are printed, and this says whether there is one
  abbrev pub PrintsAnswer : Bool → Asked → Type 0
  PrintsAnswer any = PrintsMatches (contents Writes input_old input_new output_old output_new) (status_of any)

  -- the matches are printed where the status tells of no failure
  abbrev pub PrintsIfDone : ℕ → Asked → Type 0
  PrintsIfDone status asked = status < 2 → PrintsMatches (contents Writes input_old input_new output_old output_new) status asked

  -- nothing is written, or a beginning of the lines of the matches
  abbrev pub BeginsIfWritten : Asked → Type 0
  BeginsIfWritten asked = Unwritten output_old output_new ⊎ BeginsMatches (contents Writes input_old input_new output_old output_new) asked

  -- what a failure leaves where matches are asked for
  abbrev pub LeavesMatches : Asked → Failure → Type 0
  LeavesMatches asked = LeavesPrinting
      (Unread input_old input_new)
      (Unwritten output_old output_new)
      (BeginsMatches (contents Writes input_old input_new output_old output_new) asked)

  -- it leaves that, and is told of a device exactly where that device failed
  abbrev pub FailsMatches : Asked → Failure → Type 0
  FailsMatches asked failure = LeavesMatches asked failure × CountsFaults {A = Unit {0}} input_old input_new output_old output_new (Err failure)

  -- a failure leaves that, where there is one
  abbrev pub LeavesIfNotPrinted : {A : Type 0} → Result A Failure → Asked → Type 0
  LeavesIfNotPrinted result asked = IfErr result (LeavesMatches asked)

  -- the replacement is written where the status tells of no failure
  abbrev pub WritesIfDone : ℕ → Replacing → Type 0
  WritesIfDone status asked = status ≡ 0 → WritesReplacement (contents Writes input_old input_new output_old output_new) asked

  -- the replacement is written where there is no failure
  abbrev pub WritesIfOk : {A : Type 0} → Result A Failure → Replacing → Type 0
  WritesIfOk result asked = OnOk result (WritesReplacement (contents Writes input_old input_new output_old output_new) asked)

  -- what a failure leaves where a replacement is asked for
  abbrev pub LeavesReplacement : Replacing → Failure → Type 0
  LeavesReplacement asked = LeavesReplacing
      (Unread input_old input_new × Unwritten output_old output_new)
      (BeginsReplacement (contents Writes input_old input_new output_old output_new) asked)
      (WritesMost (contents Writes input_old input_new output_old output_new) asked)
      (ReadsToLimit (contents Writes input_old input_new output_old output_new))

  -- it leaves that, and is told of a device exactly where that device failed
  abbrev pub FailsReplacement : Replacing → Failure → Type 0
  FailsReplacement asked failure = LeavesReplacement asked failure × CountsFaults {A = Unit {0}} input_old input_new output_old output_new (Err failure)

  -- a failure leaves that, where there is one
  abbrev pub LeavesIfNotReplaced : {A : Type 0} → Result A Failure → Replacing → Type 0
  LeavesIfNotReplaced result asked = IfErr result (LeavesReplacement asked)
