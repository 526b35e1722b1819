-- When two bytes, or two words, are the same: where they are equal or, under the case rule, where they are equal once
-- each upper-case ASCII letter has become its lower-case one (the crate's documentation of `ascii_case_insensitive`).
use Rattle.std.specs.Prelude.{◌≡◌, ℕ, ◌+◌, ◌-◌, Bool, ◌&&◌, List, map, nat_le, if◌then◌else◌, bytes_eq}
use Rattle.aho_core.specs.Patterns.{Patterns}

-- a byte as it is compared: where case is ignored a byte from 65 to 90 is raised by 32
abbrev pub folded_by : Bool → ℕ → ℕ
folded_by ignore_case byte = if ignore_case && (nat_le 65 byte && nat_le byte 90) then byte + 32 else byte

-- by the case rule of some patterns
abbrev pub folded : Patterns → ℕ → ℕ
folded p byte = folded_by p.ignore_case byte

-- a word as it is compared
abbrev pub folded_word : Patterns → List ℕ → List ℕ
folded_word p word = map (folded p) word

abbrev pub IsSameByte : Patterns → ℕ → ℕ → Type 0
IsSameByte p x y = folded p x ≡ folded p y

-- the words have one length, and their bytes are the same one by one
abbrev pub IsSameWord : Patterns → List ℕ → List ℕ → Type 0
IsSameWord p xs ys = folded_word p xs ≡ folded_word p ys

-- the test of the same
abbrev pub is_same_word : Patterns → List ℕ → List ℕ → Bool
is_same_word p xs ys = bytes_eq (folded_word p xs) (folded_word p ys)

-- the other case of an ASCII letter, and every other byte itself
abbrev pub opposite : ℕ → ℕ
opposite byte =
    if nat_le 65 byte && nat_le byte 90 then byte + 32
    else if nat_le 97 byte && nat_le byte 122 then byte - 32
    else byte
