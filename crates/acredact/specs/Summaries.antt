-- How much was read and replaced, as lines and as one object of JSON.
use Rattle.acredact.specs.Common.{Bor, Rule, as_shown, flat_map}
use Rattle.std.specs.Prelude.{ℕ, ◌==◌, ◌||◌, List, [], ◌∷◌, ◌++◌, Option, None, Some, codes, decimal, if◌then◌else◌, nat_lt, option_map, string_bytes}
use Rattle.rule_files.specs.Messages.{digits_in}
use Rattle.acredact.specs.Arguments.{Given, has}
use Rattle.acredact.specs.Counts.{counts_text}
use Rattle.acredact.specs.Doubts.{last_of}
use Rattle.acredact.specs.declared.options.Word.TheVariants.{Count, Summary}
use Rattle.acredact.specs.declared.summary.Volume.{Volume}

-- numbers with a comma in front of each
abbrev pub more_listed : List ℕ → List ℕ
more_listed [] = []
more_listed (number ∷ numbers) = codes "," ++ (decimal number ++ more_listed numbers)

-- numbers with commas between them
abbrev pub listed : List ℕ → List ℕ
listed [] = []
listed (number ∷ numbers) = decimal number ++ more_listed numbers

-- how many files and bytes were read, and for each pattern how often its text was written; nothing of its bytes
abbrev pub amounts_text : Volume → (counts : List ℕ) → List ℕ
amounts_text volume counts =
    codes "{\"files\":" ++ (decimal volume.files ++ (codes ",\"bytes\":" ++ (decimal volume.bytes ++ (codes ",\"replacements\":[" ++ (listed counts ++ codes "]")))))

-- the rules of a call with rules
abbrev pub rules_lent : Option (Bor (List Rule)) → Option (List Rule)
rules_lent rules = option_map (λ rules. rules.now) rules

-- the line that tells of a rule: a number and its name, and nothing of what it marks
abbrev pub rule_count_line : ℕ → Rule → List ℕ
rule_count_line count rule = decimal count ++ (codes "\t" ++ (as_shown (string_bytes rule.id) ++ codes "\n"))

abbrev pub rule_counts_text : List Rule → (counts : List ℕ) → List ℕ
rule_counts_text [] counts = []
rule_counts_text (rule ∷ rules) [] = []
rule_counts_text (rule ∷ rules) (count ∷ counts) = rule_count_line count rule ++ rule_counts_text rules counts

-- of a call with rules
abbrev pub rule_counts_of : Option (List Rule) → (counts : List ℕ) → List ℕ
rule_counts_of None counts = []
rule_counts_of (Some rules) counts = rule_counts_text rules counts

-- a byte as it stands within a string of JSON: one below 32 by its number, a quote and a backslash behind a backslash, any other as it is
abbrev pub byte_in_json : ℕ → List ℕ
byte_in_json byte =
    if nat_lt byte 32 then codes "\\u00" ++ digits_in byte
    else if byte == 34 || byte == 92 then 92 ∷ byte ∷ []
    else byte ∷ []

-- bytes as they stand there
abbrev pub bytes_in_json : List ℕ → List ℕ
bytes_in_json bytes = flat_map byte_in_json bytes

-- a rule: its name, and how many runs have its number
abbrev pub rule_object : Rule → ℕ → List ℕ
rule_object rule count =
    codes "{\"id\":\"" ++ (bytes_in_json (string_bytes rule.id) ++ (codes "\",\"runs\":" ++ (decimal count ++ codes "}")))

-- rules with a comma in front of each
abbrev pub more_rules_listed : List Rule → (counts : List ℕ) → List ℕ
more_rules_listed [] counts = []
more_rules_listed (rule ∷ rules) [] = []
more_rules_listed (rule ∷ rules) (count ∷ counts) = codes "," ++ (rule_object rule count ++ more_rules_listed rules counts)

-- rules with commas between them
abbrev pub rules_listed : List Rule → (counts : List ℕ) → List ℕ
rules_listed [] counts = []
rules_listed (rule ∷ rules) [] = []
rules_listed (rule ∷ rules) (count ∷ counts) = rule_object rule count ++ more_rules_listed rules counts

-- of a call with rules: the rules with their counts, and how many lines were too long, the last count, behind those of rules
abbrev pub rules_text : Option (List Rule) → (counts : List ℕ) → List ℕ
rules_text None counts = []
rules_text (Some rules) counts =
    codes ",\"rules\":[" ++ (rules_listed rules counts ++ (codes "],\"long\":" ++ decimal (last_of counts)))

-- all of that. Nothing of what is redacted
abbrev pub summary_text : Volume → (sums : List ℕ) → Option (List Rule) → (counts : List ℕ) → List ℕ
summary_text volume sums rules counts = amounts_text volume sums ++ (rules_text rules counts ++ codes "}\n")

-- the lines of the counts, if they are asked for: those of patterns, and then those of rules
abbrev pub counts_told_by : List Given → (lines sums : List ℕ) → Option (List Rule) → (counts : List ℕ) → List ℕ
counts_told_by given lines sums rules counts =
    if has Count given then counts_text 1 lines sums ++ rule_counts_of rules counts else []

-- the summary, if it is
abbrev pub summary_told_by : List Given → Volume → (sums : List ℕ) → Option (List Rule) → (counts : List ℕ) → List ℕ
summary_told_by given volume sums rules counts = if has Summary given then summary_text volume sums rules counts else []

-- what is told of both
abbrev pub numbers_text : List Given → (lines sums : List ℕ) → Option (List Rule) → (counts : List ℕ) → Volume → List ℕ
numbers_text given lines sums rules counts volume =
    counts_told_by given lines sums rules counts ++ summary_told_by given volume sums rules counts

-- of a call without rules
abbrev pub totals_text : List Given → (lines sums : List ℕ) → Volume → List ℕ
totals_text given lines sums volume = numbers_text given lines sums None [] volume

-- before anything was read
abbrev pub no_volume : Volume
no_volume = record { files = 0; bytes = 0 }
