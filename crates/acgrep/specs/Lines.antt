-- The lines of a text. One byte ends a line: a newline, or under `-z` a zero byte.
use Rattle.std.specs.Prelude.{◌-◌, ◌<◌, ◌==◌, ◌∷◌, List, [], if◌then◌else◌, length, slice_index_or, ℕ}
use Rattle.memchr.specs.Find.{Nowhere, Passes, is_byte}

-- the byte at a place ends a line
abbrev pub IsEnding : (ending : ℕ) → List ℕ → ℕ → Type 0
IsEnding ending text place = Passes (is_byte ending) text place

-- a byte before the first of some lines
abbrev pub joined_to : ℕ → List (List ℕ) → List (List ℕ)
joined_to byte [] = (byte ∷ []) ∷ []
joined_to byte (first ∷ rest) = (byte ∷ first) ∷ rest

-- the lines, each without the byte that ends it; what follows the last such byte is a line where it is not empty
abbrev pub lines : (ending : ℕ) → List ℕ → List (List ℕ)
lines ending [] = []
lines ending (byte ∷ rest) = if byte == ending then [] ∷ lines ending rest else joined_to byte (lines ending rest)

-- a text is empty or a line ends where it does
abbrev pub EndsLine : (ending : ℕ) → List ℕ → Type 0
EndsLine ending text = 0 < length text → IsEnding ending text (length text - 1)

-- none of some words holds a byte
abbrev pub AreFreeOf : ℕ → List (List ℕ) → Type 0
AreFreeOf byte words = (number : ℕ) → number < length words → Nowhere (IsEnding byte (slice_index_or words number [])) 0 (length (slice_index_or words number []))
