-- HMAC-SHA-256 (RFC 2104).
use Rattle.std.specs.Prelude.{ℕ, List, ◌++◌, bit_xor, length, map, nat_lt, slice_index_or, if◌then◌else◌}
use Rattle.std.specs.List.{range_with_len}
use Rattle.sha2.specs.Sha256.{sha256}

-- a key of more than 64 bytes is taken by its digest
abbrev pub short_key : List ℕ → List ℕ
short_key key = if nat_lt 64 (length key) then sha256 key else key

-- the byte at a place of the block that a key makes: it is filled up with zeros, and mixed with a byte
abbrev pub mask_byte : ℕ → List ℕ → ℕ → ℕ
mask_byte with key at = bit_xor (slice_index_or key at 0) with

-- that block has 64 bytes
abbrev pub mask_of : ℕ → List ℕ → List ℕ
mask_of with key = map (mask_byte with key) (range_with_len 0 64)

-- the digest of the outer block and the digest of the inner block and the message
abbrev pub hmac_by : (inner outer : List ℕ) → List ℕ → List ℕ
hmac_by inner outer message = sha256 (outer ++ sha256 (inner ++ message))

-- the inner block is mixed with 0x36, and the outer one with 0x5c
abbrev pub hmac_sha256 : List ℕ → List ℕ → List ℕ
hmac_sha256 key message = hmac_by (mask_of 54 (short_key key)) (mask_of 92 (short_key key)) message
