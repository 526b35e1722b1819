-- Why a call ends early, and how that is told.
use Rattle.acredact.specs.Common.{Errors, OtherFailure, Reason, SinkGhosts, TellsBytes}
use Rattle.std.specs.Prelude.{◌≡◌, ◌⊎◌, ℕ, Bool, true, false, List, None, Some, Result, Ok, Err, codes, if◌then◌else◌}
use Rattle.aho_core.specs.Texts.{build_error_text}
use Rattle.rule_files.specs.Flaws.{IsFaultLine}
use Rattle.tool_parts.specs.Failures.{failure_text}
use Rattle.tool_parts.specs.Messages.{Message, reason_text}
use Rattle.tool_parts.specs.declared.failure.Failure.TheVariants.{Write, WriteZero}
use Rattle.acredact.specs.LineFaults.{line_fault_text}
use Rattle.acredact.specs.Messages.{about, alone, line_about, message_about, numbered_line, told_line, unclean_line}
use Rattle.acredact.specs.Mistakes.{mistake_line}
use Rattle.acredact.specs.declared.failure.Failure.{Failure}
use Rattle.acredact.specs.declared.failure.Failure.TheVariants.{NotText, Arguments, Pattern, Unread, Empty, NoValue, ValueForName, ShortKey, Line, Short, Unclean, Counts, Text, Keywords, LineEnd, Other}
use Rattle.acredact.specs.declared.patterns.BadLine.{BadLine}

-- the output failed, or took nothing
abbrev pub is_of_output : OtherFailure → Bool
is_of_output Write = true
is_of_output WriteZero = true
is_of_output other = false

-- the line that tells a failure of the library
abbrev pub IsOtherLine : OtherFailure → List ℕ → Type 0
IsOtherLine other line =
    ((is_of_output other ≡ true) × ((reason : Reason) × (line ≡ line_about (codes "write error") (reason_text reason))))
    ⊎ ((is_of_output other ≡ false) × (line ≡ told_line (alone (failure_text other))))

-- what is told of a line of a file
abbrev pub bad_line : List ℕ → BadLine → Message
bad_line name bad = message_about name (Some bad.number) (line_fault_text bad.fault)

-- the line that tells the number of a pattern that is too short for forms
abbrev pub short_line : ℕ → List ℕ
short_line number = numbered_line (codes ": pattern ") number (codes " has fewer than four bytes: its forms are not redacted\n")

-- the line that tells a failure: of what, and why. Of a pattern it holds nothing, and of a file its name
abbrev pub IsFailureLine : Failure → List ℕ → Type 0
IsFailureLine NotText line = line ≡ told_line (alone (codes "an argument is not UTF-8"))
IsFailureLine (Arguments mistake) line = line ≡ mistake_line mistake
IsFailureLine (Pattern fault) line = line ≡ told_line (about (codes "-e") (line_fault_text fault))
IsFailureLine (Unread name reason) line = line ≡ told_line (about name.now (reason_text reason))
IsFailureLine (Empty name) line = line ≡ told_line (about name.now (codes "no pattern: give --allow-empty to allow it"))
IsFailureLine (NoValue name) line = line ≡ told_line (about name.now (codes "no value: give --allow-empty to pass it over"))
IsFailureLine ValueForName line = line ≡ told_line (alone (codes "option '--env' takes the name of a variable, and this is a value"))
IsFailureLine (ShortKey name) line = line ≡ told_line (about name.now (codes "key of less than 16 bytes"))
IsFailureLine (Line name bad) line = line ≡ told_line (bad_line name.now bad)
IsFailureLine (Short number) line = line ≡ short_line number
IsFailureLine (Unclean unclean) line = line ≡ unclean_line unclean
IsFailureLine Counts line = line ≡ told_line (alone (codes "the counts cannot be written"))
IsFailureLine (Text name fault) line = IsFaultLine (codes "acredact") name.now fault line
IsFailureLine (Keywords error) line = line ≡ told_line (message_about (codes "--rules") None (build_error_text error))
IsFailureLine (LineEnd number) line =
    line ≡ numbered_line (codes ": pattern ") number (codes " holds a line end: it stands in no line, and rules go line by line\n")
IsFailureLine (Other other) line = IsOtherLine other line

-- the status of a redaction, and why it ended early, if it did: then that is told
abbrev pub EndsCall : {E : Type 0} → SinkGhosts E → Result Bool Failure → (status : ℕ) → (errors errors' : Errors E) → Type 0
EndsCall K (Ok all) status errors errors' = (status ≡ (if all then 0 else 2)) × (errors' ≡ errors)
EndsCall K (Err failure) status errors errors' = (status ≡ 2) × ((line : List ℕ) × IsFailureLine failure line × TellsBytes K errors errors' line)
