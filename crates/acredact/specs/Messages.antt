-- The lines on standard error.
use Rattle.acredact.specs.Common.{as_shown}
use Rattle.std.specs.Prelude.{ℕ, List, ◌++◌, Option, None, Some, codes, decimal}
use Rattle.tool_parts.specs.Messages.{Message, message_by}
use Rattle.acredact.specs.declared.clean.Flaw.{Flaw}
use Rattle.acredact.specs.declared.clean.Flaw.TheVariants.{Empty, Pseudonym, Spells}
use Rattle.acredact.specs.declared.clean.Unclean.{Unclean}

-- the line of a message
abbrev pub told_line : Message → List ℕ
told_line message = message_by (codes "acredact") message

-- what it is about, of which line, and why
abbrev pub message_about : List ℕ → Option ℕ → List ℕ → Message
message_about name line cause = record { name = Some (as_shown name); line = line; cause = cause }

-- the same of no line
abbrev pub about : List ℕ → List ℕ → Message
about name cause = message_about name None cause

-- why alone
abbrev pub alone : List ℕ → Message
alone cause = record { name = None; line = None; cause = cause }

abbrev pub line_about : List ℕ → List ℕ → List ℕ
line_about name cause = told_line (about name cause)

-- the line that tells that the output goes to the file of a name
abbrev pub output_line : List ℕ → List ℕ
output_line name = line_about name (codes "input file is also the output")

-- the line that tells that standard input is no file that can be replaced
abbrev pub no_file_line : List ℕ → List ℕ
no_file_line name = line_about name (codes "standard input cannot be replaced")

-- the line that tells that standard output is no file that can be replaced
abbrev pub no_output_line : List ℕ → List ℕ
no_output_line name = line_about name (codes "standard output is no file: leave out --output")

-- the line that tells that the output would replace a file of patterns, rules or a key: its name, and no byte of it
abbrev pub own_list_line : List ℕ → List ℕ
own_list_line name = line_about name (codes "output file also gives patterns, rules or a key")

-- the line that warns that a new file did not get all permissions of its group: its name alone
abbrev pub narrowed_line : List ℕ → List ℕ
narrowed_line name = line_about name (codes "warning: group permissions removed: --keep-mode keeps them, --overwrite keeps every right")

-- the line that names the complete redaction of a file that was overwritten only in part
abbrev pub complete_line : List ℕ → List ℕ
complete_line name = line_about name (codes "this file holds the complete output")

-- the line that tells something of what has a number
abbrev pub numbered_line : (what : List ℕ) → ℕ → (why : List ℕ) → List ℕ
numbered_line what number why = codes "acredact" ++ (what ++ (decimal number ++ why))

-- the line that tells of which pattern the piece is not clean, and why: numbers, and no byte of a pattern or of a piece
abbrev pub flaw_text : Flaw → List ℕ
flaw_text Empty = codes " is empty: what stands beside it can spell a pattern\n"
flaw_text (Spells pattern) = codes " can spell pattern " ++ (decimal pattern ++ codes " with what stands beside it\n")
flaw_text Pseudonym = codes " is a pseudonym: it can spell this pattern with what stands beside it\n"

abbrev pub unclean_line : Unclean → List ℕ
unclean_line unclean = numbered_line (codes ": the replacement of pattern ") unclean.number (flaw_text unclean.flaw)
