-- What is written of a line, with what stands before it.
use Rattle.acgrep.specs.Common.{Appends, Occurrence, Writers, flat_map}
use Rattle.std.specs.Iterator.Runs.{WholeRun}
use Rattle.std.specs.Prelude.{◌%◌, ◌&&◌, ◌++◌, ◌+◌, ◌==◌, ◌^◌, ◌||◌, ◌∷◌, Bool, List, OnOk, Option, Result, [], codes, decimal, if◌then◌else◌, length, nat_le, nat_lt, slice_range, ℕ}
use Rattle.acgrep.specs.declared.colors.Colors.{Colors}
use Rattle.acgrep.specs.declared.print.Place.{Place}
use Rattle.acgrep.specs.declared.print.Style.{Style}

-- what begins a colour of this code, and without one ends each; with it the rest of a line is erased where that is asked for
abbrev pub escape_by : Colors → List ℕ → List ℕ
escape_by colors code = 27 ∷ codes "[" ++ (code ++ (codes "m" ++ (if colors.erases then 27 ∷ codes "[K" else [])))

-- the bytes, in a colour where colours are asked for and this one has a code
abbrev pub painted : Style → List ℕ → List ℕ → List ℕ
painted style code bytes =
    if style.color && nat_lt 0 (length code) then escape_by style.colors code ++ (bytes ++ escape_by style.colors []) else bytes

-- the code of a match: the lines around selected ones have their own
abbrev pub match_code : Style → List ℕ
match_code style = if style.hyphen then style.colors.beside.now else style.colors.selected.now

-- a part of what stands before a line: with a colon behind it, or a hyphen
abbrev pub part_by : Style → List ℕ → List ℕ → List ℕ
part_by style code bytes = painted style code bytes ++ painted style style.colors.separator.now (if style.hyphen then codes "-" else codes ":")

-- the line between lines that do not follow one another
abbrev pub separator_by : Style → List ℕ
separator_by style = painted style style.colors.separator.now style.separator.now ++ codes "\n"

-- a number in the colour of this code
abbrev pub number_by : Style → List ℕ → ℕ → List ℕ
number_by style code number = part_by style code (decimal number)

-- the file's name, and what ends it
abbrev pub name_ended : Style → List ℕ → List ℕ
name_ended style end = painted style style.colors.name.now style.name.now ++ end

-- the file's name, the line's number and an offset, of which each stands there if it is asked for; a name may end in a zero byte
abbrev pub name_part : Style → List ℕ
name_part style =
    if style.with_name then (if style.null then name_ended style (0 ∷ []) else part_by style style.colors.name.now style.name.now) else []

abbrev pub number_if : Bool → Style → List ℕ → ℕ → List ℕ
number_if asked style code number = if asked then number_by style code number else []

-- behind these a tab where it is asked for: where one of them stands there, and what follows is not empty
abbrev pub tab_before : Style → List ℕ → List ℕ
tab_before style bytes = if style.tab && ((style.with_name || (style.number || style.offset)) && nat_lt 0 (length bytes)) then 9 ∷ [] else []

abbrev pub head_of : Style → ℕ → ℕ → List ℕ → List ℕ
head_of style number offset bytes =
    name_part style
    ++ (number_if style.number style style.colors.line.now number ++ (number_if style.offset style style.colors.offset.now offset ++ tab_before style bytes))

-- the number of a line; numbers wrap at 2^64
abbrev pub line_number_at : Place → ℕ
line_number_at place = (place.lines + 1) % 2 ^ 64

-- a line of a file
abbrev pub line_by : Style → Place → List ℕ → List ℕ
line_by style place line = head_of style (line_number_at place) place.bytes line ++ (line ++ (style.ending ∷ []))

-- the number of selected lines
abbrev pub count_by : Style → ℕ → List ℕ
count_by style count = name_part style ++ (decimal count ++ codes "\n")

-- the name of a file, on a line of its own or with a zero byte behind it
abbrev pub file_line : Style → List ℕ
file_line style = name_ended style (if style.null then 0 ∷ [] else codes "\n")

-- the bytes of a range of a line; none where it does not lie in the line
abbrev pub part_of : List ℕ → ℕ → ℕ → List ℕ
part_of line start end = if nat_le start end && nat_le end (length line) then slice_range line start end else []

-- where a match begins in its file; offsets wrap at 2^64
abbrev pub offset_at : Place → ℕ → ℕ
offset_at place start = (place.bytes + start) % 2 ^ 64

-- a match of a line, on a line of its own: nothing of an empty one
abbrev pub match_by : Style → Place → List ℕ → Occurrence → List ℕ
match_by style place line m =
    if m.start == m.end then []
    else head_of style (line_number_at place) (offset_at place m.start) (part_of line m.start m.end)
    ++ (painted style (match_code style) (part_of line m.start m.end) ++ (style.ending ∷ []))

-- one match after another
abbrev pub matches_by : Style → Place → List ℕ → List Occurrence → List ℕ
matches_by style place line ms = flat_map (λ m. match_by style place line m) ms

-- the line up to behind a match, from a place of it on, with the match in colour: nothing of an empty one
abbrev pub colored_by : Style → List ℕ → ℕ → Occurrence → List ℕ
colored_by style line at m =
    if m.start == m.end then [] else part_of line at m.start ++ painted style (match_code style) (part_of line m.start m.end)

-- the place behind it
abbrev pub behind_match : ℕ → Occurrence → ℕ
behind_match at m = if m.start == m.end then at else m.end

-- what stands in the line from a place on, with each of these matches in colour
abbrev pub colored_from : Style → List ℕ → ℕ → List Occurrence → List ℕ
colored_from style line at [] = part_of line at (length line)
colored_from style line at (m ∷ ms) = colored_by style line at m ++ colored_from style line (behind_match at m) ms

-- a line of a file with each of these matches in colour
abbrev pub colored_line_by : Style → Place → List ℕ → List Occurrence → List ℕ
colored_line_by style place line ms = head_of style (line_number_at place) place.bytes line ++ (colored_from style line 0 ms ++ (style.ending ∷ []))

module _ {W : Type 0} (writers : Writers W) (old new : W) where
  -- where a call does not fail these bytes were written, and nothing else
  abbrev pub Puts : {T E : Type 0} → Result T E → List ℕ → Type 0
  Puts result bytes = OnOk result (Appends (writers.contents old) (writers.contents new) bytes)

  -- where it does not, these bytes were written for all matches that an iterator gives
  abbrev pub PutsEach : {S T E : Type 0} → (S → Option Occurrence → S → Type 0) → S → Result T E → (List Occurrence → List ℕ) → Type 0
  PutsEach steps matches result bytes =
      OnOk result (WholeRun steps matches (λ run. Appends (writers.contents old) (writers.contents new) (bytes run.items)))
