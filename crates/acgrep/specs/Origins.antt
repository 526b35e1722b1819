-- Where a pattern of a call stands among the sources.
use Rattle.std.specs.Prelude.{◌+◌, ◌<◌, ◌≡◌, ◌≤◌, List, None, Option, Some, length, min, slice_index_or, slice_range, ℕ}
use Rattle.memchr.specs.Find.{is_byte, places}
use Rattle.acgrep.specs.declared.keys.KeyPlace.{KeyPlace}
use Rattle.acgrep.specs.declared.patterns.Keys.{Keys}
use Prim.Native.Nat.{zero, suc}

-- where the patterns of the source of this number begin, in the text of all patterns: behind the last source that is its end
abbrev pub begin_of : Keys → ℕ → ℕ
begin_of keys number = min (slice_index_or keys.starts.items number (length keys.text.items)) (length keys.text.items)

-- the bytes of its patterns, a newline behind each
abbrev pub piece_at : Keys → ℕ → List ℕ
piece_at keys number = slice_range keys.text.items (begin_of keys number) (begin_of keys (number + 1))

-- how many patterns it has
abbrev pub count_at : Keys → ℕ → ℕ
count_at keys number = length (places (is_byte 10) (piece_at keys number))

-- and how many those before it have
abbrev pub count_up_to : Keys → ℕ → ℕ
count_up_to keys zero = 0
count_up_to keys (suc number) = count_up_to keys number + count_at keys number

-- the pattern of this number, counted from 0 on over all sources, stands there: in a source, on a line counted from 1 on
pub record IsPlaceOf (keys : Keys) (number : ℕ) (place : KeyPlace) : Type 0 where
  pub known : place.source < length keys.starts.items
  pub number_is : count_up_to keys place.source + place.line ≡ number + 1
  pub first : 0 < place.line
  pub last : place.line ≤ count_at keys place.source

-- or there is no such pattern
abbrev pub IsFoundIn : Keys → ℕ → Option KeyPlace → Type 0
IsFoundIn keys number None = count_up_to keys (length keys.starts.items) ≤ number
IsFoundIn keys number (Some place) = IsPlaceOf keys number place
