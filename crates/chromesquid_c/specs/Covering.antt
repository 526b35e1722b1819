-- What a cover puts into a room, and what tells that there is none.
use Rattle.std.specs.Prelude.{◌≡◌, ◌<◌, ℕ, List, length}
use Rattle.std.specs.Borrow.{Bor}
use Rattle.aho_core.specs.Cover.{IsCover}
use Rattle.aho_core.specs.Patterns.{Patterns}
use Rattle.aho_core.specs.Replacement.{pieces_of}
use Rattle.aho_core.specs.declared.error.MatchErrorKind.{MatchErrorKind}
use Rattle.aho_core.specs.declared.error.MatchErrorKind.TheVariants.{InvalidInputAnchored, InvalidInputUnanchored, UnsupportedEmpty, UnsupportedOverlapping, UnsupportedStream}
use Rattle.aho_core.specs.declared.error.replace.ReplaceError.{ReplaceError}
use Rattle.aho_core.specs.declared.error.replace.ReplaceError.TheVariants.{Match, Memory}
use Rattle.chromesquid_c.specs.Replacing.{FitsInto}
use Rattle.chromesquid_c.specs.declared.status.TheConstants.{EMPTY_PATTERN, NO_MEMORY, REFUSED}

-- the room holds the cover of the haystack, which is so long
pub record PutsCover (p : Patterns) (haystack : List ℕ) (pieces : List (Bor (List ℕ))) (before after : List ℕ) (len : ℕ) : Type 0 where
  pub cover : List ℕ
  pub is : IsCover p haystack (pieces_of pieces) cover
  pub fits : FitsInto cover before after
  pub measured : len ≡ length cover

-- the cover of the haystack is so long, and longer than the room
pub record WantsRoomForCover (p : Patterns) (haystack : List ℕ) (pieces : List (Bor (List ℕ))) (room : List ℕ) (len : ℕ) : Type 0 where
  pub cover : List ℕ
  pub is : IsCover p haystack (pieces_of pieces) cover
  pub longer : length room < len
  pub measured : len ≡ length cover

-- the number that tells why a searcher covers nothing
abbrev pub cover_status : MatchErrorKind → ℕ
cover_status InvalidInputAnchored = REFUSED
cover_status InvalidInputUnanchored = REFUSED
cover_status (UnsupportedStream got) = REFUSED
cover_status (UnsupportedOverlapping got) = REFUSED
cover_status UnsupportedEmpty = EMPTY_PATTERN

-- the number that tells why there is no cover
abbrev pub failure_status : ReplaceError → ℕ
failure_status (Match reason) = cover_status reason
failure_status Memory = NO_MEMORY
