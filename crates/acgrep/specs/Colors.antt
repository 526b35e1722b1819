-- The colours that GREP_COLORS of the environment gives.
use Rattle.acgrep.specs.Common.{bytes_eq, is_ascii_digit}
use Rattle.std.specs.List.{after_first, before_first, position_or_len, slice_split}
use Rattle.std.specs.Prelude.{◌&&◌, ◌==◌, ◌||◌, ◌∷◌, Bool, List, [], codes, false, if◌then◌else◌, length, nat_lt, true, ℕ}
use Rattle.tool_parts.specs.ArgumentForms.{is_equals}
use Rattle.acgrep.specs.declared.colors.Colors.{Colors}

-- the code of each colour, and whether the rest of a line is erased where one begins or ends
pub record Palette : Type 0 where
  pub name : List ℕ
  pub line : List ℕ
  pub offset : List ℕ
  pub separator : List ℕ
  pub selected : List ℕ
  pub beside : List ℕ
  pub erases : Bool

abbrev pub palette_of : Colors → Palette
palette_of colors = record {
  name = colors.name.now;
  line = colors.line.now;
  offset = colors.offset.now;
  separator = colors.separator.now;
  selected = colors.selected.now;
  beside = colors.beside.now;
  erases = colors.erases;
}

-- those where nothing is said of them
abbrev pub usual_colors : Palette
usual_colors = record {
  name = codes "35";
  line = codes "32";
  offset = codes "32";
  separator = codes "36";
  selected = codes "01;31";
  beside = codes "01;31";
  erases = true;
}

-- a code is of digits and semicolons, or empty
abbrev pub is_code_byte : ℕ → Bool
is_code_byte byte = (byte == 59) || is_ascii_digit byte

abbrev pub is_code : List ℕ → Bool
is_code [] = true
is_code (byte ∷ bytes) = is_code_byte byte && is_code bytes

-- a name without a code: `mt` gives the lines around selected ones the colour of those
abbrev pub with_name : List ℕ → Palette → Palette
with_name name colors =
    if bytes_eq name (codes "mt") then record colors { beside = colors.selected }
    else if bytes_eq name (codes "ne") then record colors { erases = false }
    else colors

-- and with one
abbrev pub with_code : (name code : List ℕ) → Palette → Palette
with_code name code colors =
    if bytes_eq name (codes "mt") then record colors { selected = code; beside = code }
    else if bytes_eq name (codes "ms") then record colors { selected = code }
    else if bytes_eq name (codes "mc") then record colors { beside = code }
    else if bytes_eq name (codes "fn") then record colors { name = code }
    else if bytes_eq name (codes "ln") then record colors { line = code }
    else if bytes_eq name (codes "bn") then record colors { offset = code }
    else if bytes_eq name (codes "se") then record colors { separator = code }
    else if bytes_eq name (codes "ne") then record colors { erases = false }
    else colors

-- whether a part has an equals sign
abbrev pub has_code : List ℕ → Bool
has_code part = nat_lt (position_or_len is_equals part) (length part)

-- whether it is wrong: with one it has a name before it, and a code behind it
abbrev pub is_right : List ℕ → Bool
is_right part =
    if has_code part then nat_lt 0 (position_or_len is_equals part) && is_code (after_first is_equals part) else true

-- what a part says; a name that is not known says nothing
abbrev pub with_part : List ℕ → Palette → Palette
with_part part colors =
    if has_code part then with_code (before_first is_equals part) (after_first is_equals part) colors else with_name part colors

-- the parts before the first wrong one say something, one after another
abbrev pub with_parts : List (List ℕ) → Palette → Palette
with_parts [] colors = colors
with_parts (part ∷ parts) colors = if is_right part then with_parts parts (with_part part colors) else colors

-- colons stand between the parts
abbrev pub is_colon : ℕ → Bool
is_colon byte = byte == 58

abbrev pub colors_by : List ℕ → Palette
colors_by text = with_parts (slice_split is_colon text) usual_colors
