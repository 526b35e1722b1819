-- How many matches of each pattern were replaced, and how that is told.
use Rattle.std.specs.Prelude.{◌≡◌, ℕ, ◌+◌, ◌-◌, ◌^◌, ◌==◌, min, Bool, List, [], ◌∷◌, ◌++◌, codes, decimal, length, map, replicate, Vec, if◌then◌else◌}
use Rattle.acredact.specs.Tables.{Secret, secrets_of}
use Rattle.acredact.specs.declared.rule.Rule.{Rule}

-- these bytes were put at the end of a text
abbrev pub PutsText : {Z : Type 0} → (text text' : Vec ℕ Z) → List ℕ → Type 0
PutsText text text' bytes = text'.items ≡ text.items ++ bytes

-- one more; a number stops at the greatest
abbrev pub counted_more : ℕ → ℕ
counted_more count = min (count + 1) (2 ^ 64 - 1)

-- before anything was replaced
abbrev pub zeros : Bool → List Rule → List ℕ
zeros counted rules = replicate (if counted then length rules else 0) 0

-- the line of a pattern in its file, or '-e'
abbrev pub place_told : ℕ → List ℕ
place_told line = if line == 0 then codes "-e" else decimal line

-- the line that tells of a pattern: three numbers, and nothing of its bytes
abbrev pub count_line : ℕ → ℕ → ℕ → List ℕ
count_line count number line = decimal count ++ (codes "\t" ++ (decimal number ++ (codes "\t" ++ (place_told line ++ codes "\n"))))

-- those of all patterns, from one number on, by the lines in their files
abbrev pub counts_text : ℕ → (lines counts : List ℕ) → List ℕ
counts_text number [] counts = []
counts_text number (line ∷ lines) [] = []
counts_text number (line ∷ lines) (count ∷ counts) = count_line count number line ++ counts_text (counted_more number) lines counts

abbrev pub secret_lines : List Secret → List ℕ
secret_lines secrets = map (λ secret. secret.line) secrets

abbrev pub lines_of_rules : List Rule → List ℕ
lines_of_rules rules = secret_lines (secrets_of rules)

-- what is told of these rules
abbrev pub counts_told : List Rule → (counts : List ℕ) → List ℕ
counts_told rules counts = counts_text 1 (lines_of_rules rules) counts
