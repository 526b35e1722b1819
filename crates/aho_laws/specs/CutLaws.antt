-- What the laws of a text that is cut say of patterns, of places and of pieces.
use Rattle.std.specs.Prelude.{◌≡◌, ◌⊎◌, ◌↔◌, ℕ, ◌+◌, ◌-◌, ◌<◌, ◌≤◌, max, false, nat_le, nat_lt, if◌then◌else◌, List, [], ◌∷◌, ◌++◌, None, filter, flat_map, length, map}
use Rattle.aho_core.specs.declared.search.Anchored.TheVariants.{No}
use Rattle.aho_core.specs.Bytes.{IsSameByte}
use Rattle.aho_core.specs.Iteration.{AreFinds}
use Rattle.aho_core.specs.Laws.{longest}
use Rattle.aho_core.specs.Listing.{IsListedBy, IsMember}
use Rattle.aho_core.specs.Occurrence.{Occurrence}
use Rattle.aho_core.specs.Occurs.{Occurs}
use Rattle.aho_core.specs.Order.{IsBefore}
use Rattle.aho_core.specs.Overlapping.{all_occurrences}
use Rattle.aho_core.specs.Patterns.{Patterns, pattern_at}
use Rattle.aho_core.specs.Replacement.{replaced}
use Rattle.aho_core.specs.Search.{Search, plain_search}

-- the plain search of a span of a haystack
abbrev pub span_search : List ℕ → ℕ → ℕ → Search
span_search haystack start end =
    record { haystack = haystack; start = start; end = end; anchored = No; earliest = false }

-- the finds of a span, and those of a text
abbrev pub AreFindsWithin : Patterns → List ℕ → ℕ → ℕ → List Occurrence → Type 0
AreFindsWithin p haystack start end ms = AreFinds p (span_search haystack start end) None ms

abbrev pub AreFindsOf : Patterns → List ℕ → List Occurrence → Type 0
AreFindsOf p text ms = AreFinds p (plain_search text) None ms

-- each pattern has at least one byte
abbrev pub NoneIsEmpty : Patterns → Type 0
NoneIsEmpty p = (number : ℕ) → number < length p.words → 0 < length (pattern_at p number)

-- no occurrence of the span lies across the place: each ends there or before, or starts there or later
abbrev pub IsClear : Patterns → List ℕ → ℕ → ℕ → ℕ → Type 0
IsClear p haystack start end place =
    (m : Occurrence) → Occurs p No haystack start end m → (m.end ≤ place) ⊎ (place ≤ m.start)

-- a place of the span that no occurrence of it lies across, where no pattern is empty
pub record IsClearCut (p : Patterns) (haystack : List ℕ) (start cut end : ℕ) : Type 0 where
  pub full : NoneIsEmpty p
  pub after_start : start ≤ cut
  pub before_end : cut ≤ end
  pub clear : IsClear p haystack start end cut

-- nor does any lie across the seam of two texts
abbrev pub IsClearSeam : Patterns → List ℕ → List ℕ → Type 0
IsClearSeam p left right = IsClear p (left ++ right) 0 (length (left ++ right)) (length left)

-- the list has all occurrences of the span, in the order of the match kind
pub record ListsByKind (p : Patterns) (haystack : List ℕ) (start end : ℕ) (list : List Occurrence) : Type 0 where
  pub in_order : IsListedBy (IsBefore p.kind) list
  pub members : (m : Occurrence) → (IsMember list m ↔ IsMember (all_occurrences p haystack start end) m)

-- one pass over a list: whatever starts at a place or later is taken, and the place is then where that ends
abbrev pub chosen : ℕ → List Occurrence → List Occurrence
chosen at [] = []
chosen at (m ∷ ms) = if nat_le at m.start then m ∷ chosen m.end ms else chosen at ms

-- where a part has to begin that holds all that ends behind a cut: before it by the longest length less one, or at the
-- span's start
abbrev pub overlap_start : Patterns → ℕ → ℕ → ℕ
overlap_start p start cut = max start (cut - (longest (map length p.words) - 1))

-- what ends behind a place
abbrev pub ending_behind : ℕ → List Occurrence → List Occurrence
ending_behind place ms = filter (λ (m : Occurrence). nat_lt place m.end) ms

-- a match so many places further on
abbrev pub moved : ℕ → Occurrence → Occurrence
moved by m = record { pattern = m.pattern; start = by + m.start; end = by + m.end }

-- no byte of a pattern is the same as this byte
abbrev pub NoneHolds : Patterns → ℕ → Type 0
NoneHolds p byte =
    (number other : ℕ) → number < length p.words → IsMember (pattern_at p number) other → IsSameByte p other byte → ⊥

-- a piece of a text, and the matches that were found in it, at places of the piece
pub record Piece : Type 0 where
  pub bytes : List ℕ
  pub found : List Occurrence

-- each piece was searched as a text of its own
abbrev pub AreSearched : Patterns → List Piece → Type 0
AreSearched p pieces =
    (piece : Piece) → IsMember pieces piece → AreFinds p (plain_search piece.bytes) None piece.found

-- the byte is the text's last
abbrev pub EndsIn : ℕ → List ℕ → Type 0
EndsIn byte text = (front : List ℕ) × (text ≡ front ++ byte ∷ [])

-- each piece but the last ends in the byte
abbrev pub AreCutBehind : ℕ → List Piece → Type 0
AreCutBehind byte [] = Unit {0}
AreCutBehind byte (piece ∷ pieces) = ((pieces ≡ []) ⊎ EndsIn byte piece.bytes) × AreCutBehind byte pieces

-- each piece but the last ends in a byte that no pattern holds, and was searched by itself; no pattern is empty
pub record AreSearchedLines (p : Patterns) (byte : ℕ) (pieces : List Piece) : Type 0 where
  pub full : NoneIsEmpty p
  pub none : NoneHolds p byte
  pub cut : AreCutBehind byte pieces
  pub each : AreSearched p pieces

-- the text of the pieces
abbrev pub joined : List Piece → List ℕ
joined pieces = flat_map (λ (piece : Piece). piece.bytes) pieces

-- the matches of the pieces, one piece after another, at their places in a text; there the first piece begins at a place
abbrev pub placed : ℕ → List Piece → List Occurrence
placed at [] = []
placed at (piece ∷ pieces) = map (moved at) piece.found ++ placed (at + length piece.bytes) pieces

-- the replacements of the pieces, one after another
abbrev pub replaced_apart : List Piece → List (List ℕ) → List ℕ
replaced_apart pieces replacements = flat_map (λ (piece : Piece). replaced piece.bytes piece.found replacements) pieces
