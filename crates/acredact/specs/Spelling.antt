-- Which patterns a pseudonym can spell with what stands beside it, and which it cannot.
use Rattle.acredact.specs.Common.{folded_by}
use Rattle.std.specs.Prelude.{◌≡◌, ℕ, ◌+◌, ◌&&◌, ◌||◌, Bool, List, [], ◌∷◌, Option, Some, None, if◌then◌else◌, nat_eq, nat_le}
use Rattle.std.specs.List.{list_all, list_any}
use Rattle.acredact.specs.declared.clean.Flaw.TheVariants.{Pseudonym}
use Rattle.acredact.specs.declared.clean.Unclean.{Unclean}

-- a word holds a byte, by the case rule
abbrev pub holds_byte : Bool → List ℕ → ℕ → Bool
holds_byte ignore_case word byte = list_any (λ other. nat_eq (folded_by ignore_case other) (folded_by ignore_case byte)) word

-- between its first byte and its last a pseudonym holds 'redacted:' and hexadecimal digits: '0' to '9', ':', 'a' to 'f', 'r' and 't'
abbrev pub is_inside : ℕ → Bool
is_inside byte = (nat_le 48 byte && nat_le byte 58) || (nat_le 97 byte && nat_le byte 102) || nat_eq byte 114 || nat_eq byte 116

-- it can hold all bytes of a word there
abbrev pub lies_inside : Bool → List ℕ → Bool
lies_inside ignore_case word = list_all (λ byte. is_inside (folded_by ignore_case byte)) word

-- it can spell a word with what stands beside it, as the word holds '[' or ']', or it can hold all its bytes
abbrev pub may_be_spelled : Bool → List ℕ → Bool
may_be_spelled ignore_case word = holds_byte ignore_case word 91 || holds_byte ignore_case word 93 || lies_inside ignore_case word

-- the first of some words of which something is so, told by its number, where the first of all has this number
abbrev pub first_number : (List ℕ → Bool) → ℕ → List (List ℕ) → Option ℕ
first_number test number [] = None
first_number test number (word ∷ words) = if test word then Some number else first_number test (number + 1) words

-- the first that holds a byte, and the first that a pseudonym can spell
abbrev pub holder_in : Bool → List (List ℕ) → ℕ → Option ℕ
holder_in ignore_case words byte = first_number (λ word. holds_byte ignore_case word byte) 1 words

abbrev pub first_spelled : Bool → List (List ℕ) → Option ℕ
first_spelled ignore_case words = first_number (may_be_spelled ignore_case) 1 words

-- it can spell none of these words
abbrev pub NoneAreSpelled : Bool → List (List ℕ) → Type 0
NoneAreSpelled ignore_case words = first_spelled ignore_case words ≡ None

-- this is the first of them that it can spell
abbrev pub IsSpelled : Bool → List (List ℕ) → Unclean → Type 0
IsSpelled ignore_case words unclean = (first_spelled ignore_case words ≡ Some unclean.number) × (unclean.flaw ≡ Pseudonym)

-- what is answered of words: that, and nothing where there is none
abbrev pub IsFirstSpelled : Bool → List (List ℕ) → Option Unclean → Type 0
IsFirstSpelled ignore_case words None = NoneAreSpelled ignore_case words
IsFirstSpelled ignore_case words (Some unclean) = IsSpelled ignore_case words unclean
