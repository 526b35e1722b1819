-- Which occurrences a cover counts: all of them, or the words alone, beside which no letter, digit or `_` stands.
use Rattle.std.specs.Prelude.{◌≡◌, ℕ, zero, suc, ◌+◌, ◌-◌, ◌==◌, ◌&&◌, ◌||◌, max, nat_lt, Bool, true, false, not, List, [], ◌∷◌, Option, None, Some, filter, length, slice_index, take}
use Rattle.std.specs.Char.{is_ascii_alphanumeric}
use Rattle.aho_core.specs.Cover.{AreRunsOf}
use Rattle.aho_core.specs.Laws.{longest}
use Rattle.aho_core.specs.Occurrence.{Occurrence}
use Rattle.aho_core.specs.Occurs.{OccursIn}
use Rattle.aho_core.specs.Overlapping.{occurrences_ending}
use Rattle.aho_core.specs.Patterns.{Patterns}
use Rattle.aho_core.specs.Search.{plain_search}
use Rattle.aho_laws.specs.CoverLaws.{joined_first}
use Rattle.aho_stream.specs.After.{kept_for}

-- a letter of ASCII, a digit or `_`
abbrev pub is_word_part : ℕ → Bool
is_word_part byte = is_ascii_alphanumeric byte || (byte == 95)

-- none stands before a place of a text
abbrev pub none_before : List ℕ → ℕ → Bool
none_before text start = not (nat_lt 0 start && is_word_part (slice_index text (start - 1)))

-- none stands behind it
abbrev pub none_behind : List ℕ → ℕ → Bool
none_behind text end = not (nat_lt end (length text) && is_word_part (slice_index text end))

-- m occurs in a text, and none stands beside it
pub record IsWordIn (p : Patterns) (text : List ℕ) (m : Occurrence) : Type 0 where
  pub occurs : OccursIn p (plain_search text) m
  pub before : none_before text m.start ≡ true
  pub behind : none_behind text m.end ≡ true

-- what counts: each occurrence, or each that is a word
abbrev pub CountsIn : (words : Bool) → Patterns → List ℕ → Occurrence → Type 0
CountsIn false p text = OccursIn p (plain_search text)
CountsIn true p text = IsWordIn p text

-- the runs of a text, of what counts
abbrev pub AreRunsWith : (words : Bool) → Patterns → List ℕ → List Occurrence → Type 0
AreRunsWith words p text runs = AreRunsOf (CountsIn words p text) runs

-- the bytes of a stream of which it is known what counts that ends with them: the last of those given waits for the next, where
-- words are asked for
abbrev pub decided_of : (words : Bool) → List ℕ → List ℕ
decided_of false given = given
decided_of true given = take (length given - 1) given

-- how many bytes are kept for patterns of these lengths: one more, where words are asked for
abbrev pub kept_with : (words : Bool) → List ℕ → ℕ
kept_with false lengths = kept_for lengths
kept_with true lengths = max 1 (longest lengths + 1)

-- as what ends at a place is computed, and the runs up to it
abbrev pub stands_as_word : List ℕ → Occurrence → Bool
stands_as_word text m = none_before text m.start && none_behind text m.end

-- of some occurrences those that count
abbrev pub counted_of : (words : Bool) → List ℕ → List Occurrence → List Occurrence
counted_of false text ms = ms
counted_of true text ms = filter (stands_as_word text) ms

abbrev pub ending_with : (words : Bool) → Patterns → List ℕ → ℕ → List Occurrence
ending_with words p text end = counted_of words text (occurrences_ending p text 0 end)

abbrev pub runs_with : (words : Bool) → Patterns → List ℕ → ℕ → List Occurrence
runs_with words p text zero = []
runs_with words p text (suc at) = joined_first (runs_with words p text at) (ending_with words p text (suc at))

-- all of them
abbrev pub all_runs : (words : Bool) → Patterns → List ℕ → List Occurrence
all_runs words p text = runs_with words p text (length text)

-- the first of some occurrences, where there is one
abbrev pub first_listed : List Occurrence → Option Occurrence
first_listed [] = None
first_listed (m ∷ ms) = Some m
