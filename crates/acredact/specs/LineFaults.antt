-- Why a line of a file of patterns or of a table holds no secret.
use Rattle.acredact.specs.Common.{ends_with_byte}
use Rattle.std.specs.Prelude.{◌≡◌, ◌≢◌, ◌⊎◌, ℕ, ◌+◌, ◌-◌, ◌^◌, min, Bool, MatchBool, true, false, List, [], ◌∷◌, ◌++◌, Option, Some, None, codes, if◌then◌else◌, length, nat_eq, slice_index}
use Rattle.std.specs.List.{starts_with}
use Rattle.acredact.specs.Tables.{IsWithout, in_table, stripped_by}
use Rattle.acredact.specs.declared.patterns.BadLine.{BadLine}
use Rattle.acredact.specs.declared.patterns.Form.{Form}
use Rattle.acredact.specs.declared.patterns.LineFault.{LineFault}
use Rattle.acredact.specs.declared.patterns.LineFault.TheVariants.{EmptyPattern, NoTab, SecondTab, BadEscape, CarriageReturn, ByteOrderMark, Utf16, ZeroByte, Blank, Quotes, NoEquals, EmptyValue, OutOfMemory}

-- 't', 'n' and a backslash name a byte behind a backslash, and no other byte does
abbrev pub NamesNone : ℕ → Type 0
NamesNone byte = (byte ≢ 116) × (byte ≢ 110) × (byte ≢ 92)

-- a text begins with what stands for no byte in a table: a TAB, or else a line end or a backslash that names no byte; where a text has
-- no byte at a place it counts as 0
abbrev pub IsBadStart : List ℕ → LineFault → Type 0
IsBadStart text SecondTab = slice_index text 0 ≡ 9
IsBadStart text BadEscape = (slice_index text 0 ≡ 10) ⊎ ((slice_index text 0 ≡ 92) × NamesNone (slice_index text 1))
IsBadStart text other = ⊥

-- that is so of a text behind some bytes, or memory runs out
abbrev pub IsTextFault : List ℕ → LineFault → Type 0
IsTextFault text fault =
    (fault ≡ OutOfMemory) ⊎ ((bytes : List ℕ) × (rest : List ℕ) × (text ≡ in_table bytes ++ rest) × IsBadStart rest fault)

-- a line of a file of patterns is empty
abbrev pub IsPlainFault : List ℕ → LineFault → Type 0
IsPlainFault line fault = (fault ≡ OutOfMemory) ⊎ ((fault ≡ EmptyPattern) × (line ≡ []))

-- a line of a table has no TAB, nothing before it, or before or behind it what stands for no byte
abbrev pub IsRowFault : List ℕ → LineFault → Type 0
IsRowFault line fault =
    ((fault ≡ NoTab) × IsWithout 9 line)
    ⊎ ((before : List ℕ) × (behind : List ℕ) × (line ≡ before ++ (9 ∷ behind)) × IsWithout 9 before
    × (((fault ≡ EmptyPattern) × (before ≡ [])) ⊎ (IsTextFault before fault ⊎ IsTextFault behind fault)))

-- why a line holds no secret, where memory does not run out
abbrev pub IsLineFault : Bool → List ℕ → LineFault → Type 0
IsLineFault table line fault = (fault ≡ OutOfMemory) ⊎ MatchBool table (IsRowFault line fault) (IsPlainFault line fault)

-- a byte stands in a text
abbrev pub HasByte : ℕ → List ℕ → Type 0
HasByte byte text = (front : List ℕ) × (rest : List ℕ) × (text ≡ front ++ (byte ∷ rest))

-- and why a line of a file does not
abbrev pub IsLineFaultBy : Form → List ℕ → LineFault → Type 0
IsLineFaultBy form line fault =
    ((fault ≡ CarriageReturn) × (form.table ≡ false) × (ends_with_byte 13 (stripped_by form line) ≡ true))
    ⊎ (((fault ≡ ZeroByte) × HasByte 0 (stripped_by form line))
    ⊎ IsLineFault form.table (stripped_by form line) fault)

-- what is wrong with the beginning of a list: a byte order mark of UTF-8, or one of the two of UTF-16
abbrev pub mark_in : List ℕ → Option LineFault
mark_in text =
    if starts_with nat_eq text (239 ∷ 187 ∷ 191 ∷ []) then Some ByteOrderMark
    else if starts_with nat_eq text (255 ∷ 254 ∷ []) then Some Utf16
    else if starts_with nat_eq text (254 ∷ 255 ∷ []) then Some Utf16
    else None

-- the line of this number among some lines holds no secret for this reason
pub record IsListFault (form : Form) (lines : List (List ℕ)) (bad : BadLine) : Type 0 where
  pub front : List (List ℕ)
  pub line : List ℕ
  pub rest : List (List ℕ)
  pub are : lines ≡ front ++ (line ∷ rest)
  pub number : bad.number ≡ min (length front + 1) (2 ^ 64 - 1)
  pub fault : IsLineFaultBy form line bad.fault

-- what is told of it
abbrev pub line_fault_text : LineFault → List ℕ
line_fault_text EmptyPattern = codes "empty pattern"
line_fault_text NoTab = codes "no TAB"
line_fault_text SecondTab = codes "second TAB: write \\t"
line_fault_text BadEscape = codes "bad escape: write \\t, \\n or \\\\"
line_fault_text CarriageReturn = codes "carriage return at the end of a pattern: give --crlf to leave it out"
line_fault_text ByteOrderMark = codes "byte order mark: leave it out"
line_fault_text Utf16 = codes "UTF-16: give UTF-8, or what the files hold"
line_fault_text ZeroByte = codes "zero byte: is this UTF-16?"
line_fault_text Blank = codes "a blank at an end of the pattern is a part of it"
line_fault_text Quotes = codes "the quotes around the pattern are a part of it"
line_fault_text NoEquals = codes "no equals sign"
line_fault_text EmptyValue = codes "empty value: give --allow-empty to pass it over"
line_fault_text OutOfMemory = codes "out of memory"
