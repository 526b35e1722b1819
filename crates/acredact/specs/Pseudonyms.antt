-- The piece of a run by a key.
use Rattle.acredact.specs.Common.{PieceRule, folded_by}
use Rattle.std.specs.Prelude.{ℕ, ◌+◌, ◌/◌, ◌%◌, Bool, List, [], ◌∷◌, ◌++◌, codes, map, nat_lt, slice_index_or, if◌then◌else◌}
use Rattle.sha2.specs.Hashers.{Holds256}
use Rattle.acredact.specs.Hmac.{hmac_by, hmac_sha256}
use Rattle.acredact.specs.declared.pseudonym.Pseudonyms.{Pseudonyms}

-- a number below 16 as a digit: 0 to 9 and a to f
abbrev pub digit_at : ℕ → ℕ
digit_at value = if nat_lt value 10 then 48 + value else 87 + value

-- the digit of the last four bits of a byte
abbrev pub hex_digit : ℕ → ℕ
hex_digit byte = digit_at (byte % 16)

-- the two digits of the byte at a place
abbrev pub hex_at : List ℕ → ℕ → List ℕ
hex_at bytes at = hex_digit (slice_index_or bytes at 0 / 16) ∷ hex_digit (slice_index_or bytes at 0) ∷ []

-- `[redacted:`, the first twelve digits of a digest, and `]`
abbrev pub piece_of_digest : List ℕ → List ℕ
piece_of_digest digest =
    codes "[redacted:" ++ (hex_at digest 0 ++ (hex_at digest 1 ++ (hex_at digest 2 ++ (hex_at digest 3 ++ (hex_at digest 4 ++ (hex_at digest 5 ++ codes "]"))))))

-- the bytes of a run as they are told apart: where case is ignored its upper-case ASCII letters count as the lower-case ones
abbrev pub as_compared : Bool → List ℕ → List ℕ
as_compared ignore_case bytes = map (folded_by ignore_case) bytes

-- the piece of a run, whichever pattern it is of
abbrev pub pseudonym_rule : Bool → List ℕ → PieceRule
pseudonym_rule ignore_case key number bytes = piece_of_digest (hmac_sha256 key (as_compared ignore_case bytes))

-- by the two blocks that a key makes
abbrev pub pseudonym_by : (ignore_case : Bool) (inner outer : List ℕ) → PieceRule
pseudonym_by ignore_case inner outer number run = piece_of_digest (hmac_by inner outer (as_compared ignore_case run))

-- these bytes of a run were fed
abbrev pub WasFed : Pseudonyms → List ℕ → Type 0
WasFed s fed = Holds256 s.hasher (s.masks.inner ++ as_compared s.ignore_case fed)
