-- Values that are patterns: of variables, of the environment or of a file, and of whole files.
use Rattle.acredact.specs.Common.{Bor, bytes_eq, ends_with_byte, strip_last}
use Rattle.std.specs.Prelude.{◌≡◌, ℕ, ◌+◌, ◌-◌, ◌^◌, ◌||◌, ◌&&◌, not, min, Bool, MatchBool, false, true, List, [], ◌∷◌, ◌++◌, Option, Some, None, if◌then◌else◌, length, nat_eq, option_and_then, option_map, unwrap_or}
use Rattle.std.specs.List.{find, flat_map, list_all, list_any, starts_with}
use Rattle.aho_cover.specs.Words.{is_word_part}
use Rattle.acredact.specs.Forms.{split_first}
use Rattle.acredact.specs.Parts.{GivesPattern}
use Rattle.acredact.specs.Reads.{EachGives}
use Rattle.acredact.specs.Tables.{Secret, stripped_by}
use Rattle.acredact.specs.declared.patterns.BadLine.{BadLine}
use Rattle.acredact.specs.declared.patterns.Form.{Form}
use Rattle.acredact.specs.declared.patterns.LineFault.{LineFault}
use Rattle.acredact.specs.declared.patterns.LineFault.TheVariants.{CarriageReturn, NoEquals, EmptyValue}

-- the bytes of a value, where there is one
abbrev pub lent : Option (Bor (List ℕ)) → Option (List ℕ)
lent value = option_map (λ value. value.now) value

-- letters, digits and '_' call a variable, and with a star behind them several
abbrev pub is_variable_name : List ℕ → Bool
is_variable_name name = list_all is_word_part (strip_last 42 name)

-- a variable has this name, or one that begins so, where a star stands behind it
abbrev pub is_named : (name found : List ℕ) → Bool
is_named name found = if ends_with_byte 42 name then starts_with nat_eq found (strip_last 42 name) else bytes_eq found name

-- a value, where it is asked for
abbrev pub value_if : Bool → List ℕ → Option (List ℕ)
value_if asked value = if asked then Some value else None

-- what stands behind the first equals sign, where there is one
abbrev pub behind_equals : List ℕ → Option (List ℕ)
behind_equals text = option_map (λ (parts : List ℕ × List ℕ). parts.1) (split_first 61 text)

-- the value of an entry of the environment, where it has this name
abbrev pub value_of_entry : (name entry : List ℕ) → Option (List ℕ)
value_of_entry name entry = option_and_then (λ (parts : List ℕ × List ℕ). value_if (is_named name parts.0) parts.1) (split_first 61 entry)

-- whether a text is this value, perhaps with a star behind it
abbrev pub is_value_text : List ℕ → Option (List ℕ) → Bool
is_value_text text None = false
is_value_text text (Some value) = bytes_eq value text || bytes_eq value (strip_last 42 text)

-- whether a text is the value of some entry of the environment, perhaps with a star behind it
abbrev pub is_some_value : List (List ℕ) → List ℕ → Bool
is_some_value entries text = list_any (λ entry. is_value_text text (behind_equals entry)) entries

abbrev pub no_bytes : List ℕ → Bool
no_bytes value = nat_eq (length value) 0

-- the quotes that shells leave out around a value
abbrev pub is_quote : ℕ → Bool
is_quote byte = nat_eq byte 34 || nat_eq byte 39

-- a value without the quotes around it, where it has two equal ones and something between them
abbrev pub unquoted : List ℕ → Option (List ℕ)
unquoted [] = None
unquoted (first ∷ rest) =
    if is_quote first && (ends_with_byte first rest && not (no_bytes (strip_last first rest))) then Some (strip_last first rest) else None

-- a value, and that without quotes
abbrev pub with_inner : List ℕ → Option (List ℕ) → List (List ℕ)
with_inner value None = value ∷ []
with_inner value (Some inner) = value ∷ inner ∷ []

abbrev pub spellings_in : Option (List ℕ) → List (List ℕ)
spellings_in None = []
spellings_in (Some value) = with_inner value (unquoted value)

-- a value more in each way, if there is one
abbrev pub values_with : List (List ℕ) → Option (List ℕ) → List (List ℕ)
values_with values value = values ++ spellings_in value

-- those of the entries of the environment that have a name
abbrev pub values_in_entries : (name : List ℕ) → List (List ℕ) → List (List ℕ)
values_in_entries name entries = flat_map (λ entry. spellings_in (value_of_entry name entry)) entries

-- a line of a file of variables that is blank, or a comment, holds none
abbrev pub is_no_variable : List ℕ → Bool
is_no_variable line = unwrap_or (option_map (λ byte. nat_eq byte 35) (find (λ byte. not (nat_eq byte 32 || nat_eq byte 9)) line)) true

abbrev pub value_in_line : List ℕ → Option (List ℕ)
value_in_line line = if is_no_variable line then None else behind_equals line

-- and those of some lines
abbrev pub values_in_lines : Form → List (List ℕ) → List (List ℕ)
values_in_lines form lines = flat_map (λ line. spellings_in (value_in_line (stripped_by form line))) lines

-- what is wrong with such a line: no equals sign stands in it, or its value is empty and may not be
abbrev pub fault_of_value : (allow_empty : Bool) → Option (List ℕ) → Option LineFault
fault_of_value allow_empty None = Some NoEquals
fault_of_value allow_empty (Some value) = if no_bytes value then (if allow_empty then None else Some EmptyValue) else None

abbrev pub fault_of_line : (allow_empty : Bool) → List ℕ → Option LineFault
fault_of_line allow_empty line =
    if is_no_variable line then None
    else if ends_with_byte 13 line then Some CarriageReturn
    else fault_of_value allow_empty (behind_equals line)

-- the first wrong one, where the lines are numbered from this number on; a number stops at the greatest
abbrev pub bad_or : ℕ → Option LineFault → Option BadLine → Option BadLine
bad_or number None later = later
bad_or number (Some fault) later = Some (record { number = number; fault = fault })

abbrev pub first_fault : (allow_empty : Bool) → Form → ℕ → List (List ℕ) → Option BadLine
first_fault allow_empty form number [] = None
first_fault allow_empty form number (line ∷ lines) =
    bad_or number (fault_of_line allow_empty (stripped_by form line)) (first_fault allow_empty form (min (number + 1) (2 ^ 64 - 1)) lines)

-- the bytes of a whole file, without a line end behind them
abbrev pub whole_in : Form → List ℕ → List ℕ
whole_in form text = stripped_by form (strip_last 10 text)

-- there is no value, or one is empty
abbrev pub lacks_value : List (List ℕ) → Bool
lacks_value values = nat_eq (length values) 0 || list_any no_bytes values

-- and that is not allowed
abbrev pub are_refused : (allow_empty : Bool) → List (List ℕ) → Bool
are_refused allow_empty values = not allow_empty && lacks_value values

-- a value gives what a pattern among the arguments does, and an empty one nothing
abbrev pub GivesValue : (parts : Bool) → List ℕ → List Secret → Type 0
GivesValue parts value secrets = MatchBool (no_bytes value) (secrets ≡ []) (GivesPattern parts value secrets)

abbrev pub GiveEach : (parts : Bool) → List (List ℕ) → List Secret → Type 0
GiveEach parts values secrets = EachGives {S = Unit {0}} (λ value some before after. GivesValue parts value some) values secrets tt tt
