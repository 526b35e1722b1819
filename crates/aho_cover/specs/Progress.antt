-- How far the cover of a stream has come: what its numbers keep, and what was written of the bytes given.
use Rattle.std.specs.Prelude.{◌≡◌, ℕ, ◌+◌, ◌-◌, ◌/◌, ◌<◌, ◌≤◌, ◌^◌, max, min, Bool, true, false, List, [], ◌∷◌, ◌++◌, Option, None, Some, length, map, slice_range}
use Rattle.std.specs.Io.{StartsWith}
use Rattle.aho_core.specs.Cover.{IsCovered}
use Rattle.aho_core.specs.Listing.{IsMember}
use Rattle.aho_core.specs.Occurrence.{Occurrence}
use Rattle.aho_core.specs.Patterns.{Patterns}
use Rattle.aho_laws.specs.CoverLaws.{AreInOrder}
use Rattle.aho_devices.specs.Buffer.{Buffered}
use Rattle.aho_stream.specs.After.{EndsWith}
use Rattle.aho_cover.specs.declared.hand.Hand.{Hand}
use Rattle.aho_cover.specs.declared.progress.CoverProgress.{CoverProgress}
use Rattle.aho_cover.specs.Hand.{HasItsFirst, first_start, held_runs, room_in}
use Rattle.aho_cover.specs.Counting.{Output}
use Rattle.aho_cover.specs.Pieces.{EndsAmong, PieceRule, cover_with, piece_in}
use Rattle.aho_cover.specs.Walks.{NoneReaches}
use Rattle.aho_cover.specs.Words.{all_runs, ending_with, kept_with, runs_with}

-- before the first byte
abbrev pub unbegun_cover : Buffered → Hand → ℕ → Bool → CoverProgress
unbegun_cover buffer hand sid words =
    record { buffer = buffer; read = 0; since = 0; copied = 0; fed = 0; sid = sid; hand = hand; words = words; ended = false }

-- how many of the bytes that were read wait for the next: the last one, where words are asked for and the end was not seen
abbrev pub waiting : (words ended : Bool) → ℕ
waiting false ended = 0
waiting true false = 1
waiting true true = 0

-- the place up to which what was read may be walked
abbrev pub walk_end : CoverProgress → ℕ
walk_end s = s.read - waiting s.words s.ended

-- the place before which nothing begins that ends behind another: one that is known, or as far back as the longest pattern reaches
abbrev pub open_place : CoverProgress → ℕ → ℕ
open_place s at = max s.since (at + 1 - s.buffer.least)

-- a place, or the start of the first of some runs, where that is before it
abbrev pub least_start : ℕ → Option ℕ → ℕ
least_start place None = place
least_start place (Some start) = min place start

abbrev pub outside_end : ℕ → List Occurrence → ℕ
outside_end place runs = least_start place (first_start runs)

-- each byte from one place on that no run holds stands at another or behind it
abbrev pub BareFrom : ℕ → List Occurrence → ℕ → Type 0
BareFrom from runs low = (place : ℕ) → from ≤ place → (IsCovered (IsMember runs) place → ⊥) → low ≤ place

-- the numbers of a cover of which so many bytes were walked. The buffer holds each byte that was not walked, the last before them, and
-- each that was not written and lies in no run in hand. Of the runs in hand it holds each byte that was not fed
pub record IsSoundCover (s : CoverProgress) (at : ℕ) : Type 0 where
  pub small : s.read < 2 ^ 63
  pub walked : at ≤ s.read
  pub some : 1 ≤ s.buffer.least
  pub held : length s.buffer.bytes ≤ s.read
  pub unwalked : s.read ≤ at + length s.buffer.bytes
  pub last_held : s.read ≤ (at + 1 - s.buffer.least) + length s.buffer.bytes
  pub since_walked : s.since ≤ at
  pub copied_walked : s.copied ≤ at
  pub in_order : AreInOrder (held_runs s.hand) at
  pub behind : (x : Occurrence) → IsMember (held_runs s.hand) x → s.copied ≤ x.start
  pub kept : BareFrom s.copied (held_runs s.hand) (s.read - length s.buffer.bytes)
  pub fed_walked : s.fed ≤ at
  pub fed_first : s.copied < s.fed → first_start (held_runs s.hand) ≡ Some s.copied
  pub fed_within : (x : Occurrence) → IsMember (held_runs s.hand) x → s.fed ≤ x.end
  pub fed_held : (x : Occurrence) → IsMember (held_runs s.hand) x → s.read ≤ max s.fed x.start + length s.buffer.bytes
  pub whole : HasItsFirst s.hand
  pub room : room_in s.hand ≡ s.buffer.least / 2 + 1

-- the memory is the same
pub record KeepsRoom (s s' : CoverProgress) : Type 0 where
  pub least : s'.buffer.least ≡ s.buffer.least
  pub room : room_in s'.hand ≡ room_in s.hand

-- the bytes given are the first of these, all of them once the end was seen, and the buffer holds the last of them
pub record IsGiven (s : CoverProgress) (haystack : List ℕ) : Type 0 where
  pub within : s.read ≤ length haystack
  pub last : EndsWith (slice_range haystack 0 s.read) s.buffer.bytes
  pub whole : s.ended ≡ true → length haystack ≡ s.read

-- the bytes up to a place, with a piece for each of some runs before it
abbrev pub copied_to : List ℕ → ℕ → List Occurrence → (Occurrence → List ℕ) → ℕ → List ℕ
copied_to haystack at [] piece place = slice_range haystack at place
copied_to haystack at (run ∷ runs) piece place = slice_range haystack at run.start ++ (piece run ++ copied_to haystack run.end runs piece place)

-- of a stream that begins with the bytes given, so many bytes were walked. The runs of what counts and ends there are some that were
-- written, which nothing can touch that ends later, and those in hand
pub record HasCovered (rule : PieceRule) (s : CoverProgress) (at : ℕ) (p : Patterns) (haystack : List ℕ) (written : Output) : Type 0 where
  pub given : IsGiven s haystack
  pub walked_within : at ≤ s.read
  pub far : s.buffer.least ≡ kept_with s.words (map length p.words)
  pub since_clear : NoneReaches p haystack at s.since
  pub runs : runs_with s.words p haystack at ≡ written.runs ++ held_runs s.hand
  pub settled : (x : Occurrence) → IsMember written.runs x → NoneReaches p haystack at (x.end + 1)
  pub before : (x : Occurrence) → IsMember written.runs x → x.end ≤ s.copied
  pub clear : NoneReaches p haystack at s.copied
  pub fed_clear : NoneReaches p haystack at s.fed
  pub written_is : written.bytes ≡ copied_to haystack 0 written.runs (piece_in rule haystack) s.copied

-- and nothing that ends later begins before a place
abbrev pub ClearlyCovered : PieceRule → CoverProgress → ℕ → ℕ → Patterns → List ℕ → Output → Type 0
ClearlyCovered rule s at place p haystack written = HasCovered rule s at p haystack written × NoneReaches p haystack at place

-- what was written begins the cover of these bytes, and its runs are those whose pieces were written
abbrev pub IsBeginning : (words : Bool) → PieceRule → Patterns → List ℕ → Output → Type 0
IsBeginning words rule p haystack written = StartsWith (cover_with words p haystack rule) written.bytes
    × ((later : List Occurrence) × (all_runs words p haystack ≡ written.runs ++ later) × EndsAmong haystack (piece_in rule haystack) written.runs later written.bytes)

-- it is the cover
abbrev pub IsAll : (words : Bool) → PieceRule → Patterns → List ℕ → Output → Type 0
IsAll words rule p haystack written = (written.bytes ≡ cover_with words p haystack rule) × (written.runs ≡ all_runs words p haystack)

-- all but the last byte of a match was walked, and of what counts and ends with it the match is the longest, and the first by number
abbrev pub EndsNext : PieceRule → CoverProgress → Occurrence → Patterns → List ℕ → Output → Type 0
EndsNext rule s m p haystack written = HasCovered rule s (m.end - 1) p haystack written
    × ((others : List Occurrence) × (ending_with s.words p haystack m.end ≡ m ∷ others))

-- all that was given was walked, and nothing follows
abbrev pub EndsHere : PieceRule → CoverProgress → Patterns → List ℕ → Output → Type 0
EndsHere rule s p haystack written = HasCovered rule s s.read p haystack written × (length haystack ≡ s.read)
