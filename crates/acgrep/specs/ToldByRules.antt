-- What is told of a call by rules.
use Rattle.acgrep.specs.Common.{Errors, SinkGhosts}
use Rattle.std.specs.Prelude.{◌≡◌, ◌⊎◌, List, None, Some, codes, ℕ}
use Rattle.aho_core.specs.Texts.{build_error_text}
use Rattle.aho_core.specs.declared.error.BuildError.{BuildError}
use Rattle.rule_files.specs.Flaws.{IsFaultLine, IsFlawedLine}
use Rattle.rule_files.specs.declared.fault.TextFault.{TextFault}
use Rattle.rule_files.specs.declared.flaw.BadRule.{BadRule}
use Rattle.tool_parts.specs.Messages.{message_of}
use Rattle.acgrep.specs.Arguments.{Said}
use Rattle.acgrep.specs.RunsByRules.{unwritten_line}
use Rattle.acgrep.specs.Told.{IsMessage, TellsStatus}
use Rattle.acgrep.specs.declared.options.Shown.TheVariants.{Nothing}

-- a line that tells of rules: why a file gives none, why one cannot be used, or all together, or how many lines are too long
abbrev pub IsRuleLine : List ℕ → Type 0
IsRuleLine line = ((name : List ℕ) × (fault : TextFault) × IsFaultLine (codes "acgrep") name fault line)
    ⊎ (((bad : BadRule) × IsFlawedLine (codes "acgrep") (codes "--rules") bad line)
    ⊎ (((error : BuildError) × (line ≡ message_of (codes "acgrep") (Some (codes "--rules")) None (build_error_text error)))
    ⊎ ((most : ℕ) × (count : ℕ) × (line ≡ unwritten_line most count))))

-- that, or a line of the program's name, a file's name, a line's number and a cause of a fixed set
abbrev pub IsMarkTold : List ℕ → Type 0
IsMarkTold line = ((names : List (List ℕ)) × IsMessage names line) ⊎ IsRuleLine line

-- what is told of such a call, by its status
abbrev pub TellsByRules : {E : Type 0} → SinkGhosts E → Said → ℕ → Errors E → Errors E → Type 0
TellsByRules K given status old new = TellsStatus K IsMarkTold given.flags.no_messages Nothing status old new
