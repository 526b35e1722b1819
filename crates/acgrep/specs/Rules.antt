-- Which files and folders are left out, by the rules of `--include`, `--exclude` and `--exclude-dir`, and those of the files that
-- `--exclude-from` names.
use Rattle.std.specs.Prelude.{◌&&◌, ◌++◌, ◌+◌, ◌==◌, ◌||◌, ◌∷◌, Bool, List, [], false, if◌then◌else◌, map, nat_le, take, true, ℕ}
use Rattle.acgrep.specs.Globs.{base_name, fits, operand_fits}
use Rattle.acgrep.specs.Lines.{lines}
use Rattle.acgrep.specs.declared.rules.Rule.{Rule}
use Rattle.acgrep.specs.declared.rules.Sense.{Sense}
use Rattle.acgrep.specs.declared.rules.Sense.TheVariants.{Exclude, ExcludeFolder, ExcludeFrom, Include}

-- an option, and its glob, or the name of its file of globs
pub record RuleSaid : Type 0 where
  pub sense : Sense
  pub glob : List ℕ

abbrev pub rule_said : Rule → RuleSaid
rule_said rule = record { sense = rule.sense; glob = rule.glob.now }

abbrev pub rules_said : List Rule → List RuleSaid
rules_said rules = map rule_said rules

-- a glob fits an operand, or what stands behind the last slash of a name below a folder
abbrev pub name_fits : List ℕ → Bool → List ℕ → Bool
name_fits glob given name = if given then operand_fits glob name else fits 0 glob (base_name name name)

abbrev pub is_of_folders : Sense → Bool
is_of_folders ExcludeFolder = true
is_of_folders _ = false

-- a folder is left out that one of its rules fits
abbrev pub leaves_folder : List RuleSaid → Bool → List ℕ → Bool
leaves_folder [] given name = false
leaves_folder (rule ∷ rules) given name = (is_of_folders rule.sense && name_fits rule.glob given name) || leaves_folder rules given name

-- a rule decides of the files that it fits, and all others are as they were
abbrev pub decided_by : Sense → Bool → Bool → Bool
decided_by Include fit left = if fit then false else left
decided_by Exclude fit left = if fit then true else left
decided_by _ fit left = left

abbrev pub after_rule : RuleSaid → Bool → List ℕ → Bool → Bool
after_rule rule given name left = decided_by rule.sense (name_fits rule.glob given name) left

-- so the last rule that fits decides of a file
abbrev pub leaves_file : List RuleSaid → Bool → List ℕ → Bool → Bool
leaves_file [] given name left = left
leaves_file (rule ∷ rules) given name left = leaves_file rules given name (after_rule rule given name left)

-- where none fits, a file is left out if the first rule of files includes others
abbrev pub begins_so : Sense → Bool → Bool
begins_so Include others = true
begins_so Exclude others = false
begins_so _ others = others

abbrev pub begins_by_including : List RuleSaid → Bool
begins_by_including [] = false
begins_by_including (rule ∷ rules) = begins_so rule.sense (begins_by_including rules)

-- a file or a folder of this name is left out; `given` says whether that is an operand
abbrev pub is_left_out : List RuleSaid → (is_folder given : Bool) → List ℕ → Bool
is_left_out rules is_folder given name =
    if is_folder then leaves_folder rules given name else leaves_file rules given name (begins_by_including rules)

-- up to the last byte that is no slash, of bytes before which `passed` stand, of which `kept` are kept
abbrev pub kept_len : (kept passed : ℕ) → List ℕ → ℕ
kept_len kept passed [] = kept
kept_len kept passed (byte ∷ rest) = kept_len (if byte == 47 then kept else passed + 1) (passed + 1) rest

-- a glob without the slashes at its end, but for its first byte
abbrev pub without_slashes : List ℕ → List ℕ
without_slashes [] = []
without_slashes (first ∷ rest) = take (kept_len 1 1 rest) (first ∷ rest)

-- whether the globs of a rule stand in a file
abbrev pub is_from_file : Sense → Bool
is_from_file ExcludeFrom = true
is_from_file _ = false

-- white space: a tab, a newline, a vertical tab, a form feed, a carriage return or a space
abbrev pub is_space : ℕ → Bool
is_space byte = byte == 32 || (nat_le 9 byte && nat_le byte 13)

-- a byte before what is kept of those behind it: where nothing is, it is not kept if it is white space
abbrev pub glob_before : ℕ → List ℕ → List ℕ
glob_before byte [] = if is_space byte then [] else byte ∷ []
glob_before byte (next ∷ rest) = byte ∷ next ∷ rest

-- a line without the white space at its end
abbrev pub glob_of_line : List ℕ → List ℕ
glob_of_line [] = []
glob_of_line (byte ∷ rest) = glob_before byte (glob_of_line rest)

-- a glob is a rule by which files are not searched, if it is not empty
abbrev pub rule_before : List ℕ → List RuleSaid → List RuleSaid
rule_before [] rules = rules
rule_before (byte ∷ bytes) rules = record { sense = Exclude; glob = byte ∷ bytes } ∷ rules

-- the rules of these lines: each is a glob, without the white space at its end
abbrev pub rules_of_lines : List (List ℕ) → List RuleSaid
rules_of_lines [] = []
rules_of_lines (line ∷ rest) = rule_before (glob_of_line line) (rules_of_lines rest)

-- those of the text of a file
abbrev pub rules_in : List ℕ → List RuleSaid
rules_in text = rules_of_lines (lines 10 text)

-- a rule, or those of the text of its file
abbrev pub rules_by : RuleSaid → List ℕ → List RuleSaid
rules_by rule text = if is_from_file rule.sense then rules_in text else rule ∷ []

-- these rules, each with the text of its file
abbrev pub expanded : List RuleSaid → (texts : List (List ℕ)) → List RuleSaid
expanded [] texts = []
expanded (rule ∷ rules) [] = []
expanded (rule ∷ rules) (text ∷ texts) = rules_by rule text ++ expanded rules texts
