-- What is told of a text that gives no rules, and of a rule that is none.
use Rattle.std.specs.Prelude.{◌≡◌, ℕ, ◌+◌, ◌-◌, ◌^◌, min, List, [], ◌∷◌, ◌++◌, Option, None, Some, codes, decimal, option_map, string_bytes}
use Rattle.tool_parts.specs.Messages.{message_of}
use Rattle.secret_rules.specs.Tables.{key_name}
use Rattle.secret_rules.specs.declared.parsing.Key.{Key}
use Rattle.secret_rules.specs.declared.parsing.Key.TheVariants.{Keywords as KeywordsKey, SecretGroup}
use Rattle.secret_rules.specs.declared.rule.Rule.{Rule as LineRule}
use Rattle.rule_files.specs.Messages.{as_shown, shown_line}
use Rattle.rule_files.specs.declared.fault.TextFault.{TextFault}
use Rattle.rule_files.specs.declared.fault.TextFault.TheVariants.{ByteOrderMark, Utf16, NotText, Toml, NoRule, Rule, OutOfMemory}
use Rattle.rule_files.specs.declared.flaw.BadRule.{BadRule}
use Rattle.rule_files.specs.declared.flaw.RuleFlaw.{RuleFlaw}
use Rattle.rule_files.specs.declared.flaw.RuleFlaw.TheVariants.{Missing, WrongType, EmptyKeyword, LineEnd, Regex, UnknownGroup, TooBig}

-- a rule is told by its name, or by its number in its file where it has none
abbrev pub name_or_number : Option (List ℕ) → ℕ → List ℕ
name_or_number None number = decimal number
name_or_number (Some []) number = decimal number
name_or_number (Some (byte ∷ name)) number = as_shown (byte ∷ name)

abbrev pub name_of_bad : BadRule → List ℕ
name_of_bad bad = name_or_number (option_map string_bytes bad.id) bad.number

-- what belongs at a key
abbrev pub wanted_text : Key → List ℕ
wanted_text KeywordsKey = codes ": an array of strings belongs there"
wanted_text SecretGroup = codes ": a whole number from 0 on belongs there"
wanted_text other = codes ": a string belongs there"

-- why a rule is none. Of an expression it is the place in it, and what the reader of expressions says
abbrev pub IsWhyFlawed : RuleFlaw → List ℕ → Type 0
IsWhyFlawed (Missing key) why = why ≡ codes "no " ++ key_name key
IsWhyFlawed (WrongType key) why = why ≡ key_name key ++ wanted_text key
IsWhyFlawed EmptyKeyword why = why ≡ codes "empty keyword"
IsWhyFlawed LineEnd why = why ≡ codes "a keyword holds a line end, so it stands in no line"
IsWhyFlawed (Regex error) why = (cause : List ℕ) × (why ≡ codes "regex, at byte " ++ (decimal (min (error.span.start + 1) (2 ^ 64 - 1)) ++ (codes ": " ++ cause)))
IsWhyFlawed UnknownGroup why = why ≡ codes "secretGroup: the regex has no such group"
IsWhyFlawed TooBig why = why ≡ codes "regex: too big to be compiled"

-- the line that tells it: of which file and which rule
abbrev pub flawed_line : (program file : List ℕ) → BadRule → (why : List ℕ) → List ℕ
flawed_line program file bad why =
    program ++ (codes ": " ++ (as_shown file ++ (codes ": rule " ++ (name_of_bad bad ++ (codes ": " ++ (why ++ codes "\n"))))))

abbrev pub IsFlawedLine : (program file : List ℕ) → BadRule → List ℕ → Type 0
IsFlawedLine program file bad line = (why : List ℕ) × IsWhyFlawed bad.flaw why × (line ≡ flawed_line program file bad why)

-- this is wrong with the rule of a number
pub record IsBadRuleOf (number : ℕ) (rule : LineRule) (flaw : RuleFlaw) (bad : BadRule) : Type 0 where
  pub numbered : bad.number ≡ number
  pub named : option_map string_bytes bad.id ≡ Some (string_bytes rule.id)
  pub flawed : bad.flaw ≡ flaw

-- a text is no TOML: its line, and what the reader of TOML says
abbrev pub IsNoTomlLine : (program file : List ℕ) → ℕ → List ℕ → Type 0
IsNoTomlLine program file number line = (cause : List ℕ) × (line ≡ shown_line program file (Some number) cause)

-- the line that tells why the text of a file gives no rules
abbrev pub IsFaultLine : (program file : List ℕ) → TextFault → List ℕ → Type 0
IsFaultLine program file ByteOrderMark line = line ≡ shown_line program file (Some 1) (codes "byte order mark: leave it out")
IsFaultLine program file Utf16 line = line ≡ shown_line program file (Some 1) (codes "UTF-16: give UTF-8, or what the files hold")
IsFaultLine program file (NotText number) line = line ≡ shown_line program file (Some number) (codes "not UTF-8")
IsFaultLine program file (Toml number error) line = IsNoTomlLine program file number line
IsFaultLine program file NoRule line = line ≡ shown_line program file None (codes "no [[rules]]")
IsFaultLine program file (Rule bad) line = IsFlawedLine program file bad line
IsFaultLine program file OutOfMemory line = line ≡ message_of program None None (codes "out of memory")
