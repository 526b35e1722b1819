-- What a search for windows looks for: of each word the rest that begins with its first four bytes that do not all stand often in texts.
use Rattle.std.specs.Prelude.{◌≡◌, ℕ, suc, ◌-◌, max, Bool, ◌&&◌, ◌||◌, List, [], ◌∷◌, length, map, slice_index, slice_range, nat_eq, if◌then◌else◌, Option}
use Rattle.std.specs.List.{fold}
use Rattle.std.specs.Option.{option_map}
use Rattle.aho_core.specs.Bytes.{opposite}
use Rattle.aho_prefilter.specs.Density.{is_common}
use Rattle.aho_prefilter.specs.PackedHeads.{IsFirstHeaded, packed_heads_of}
use Rattle.aho_prefilter.specs.declared.packed_heads.Tested.{Tested}
use Rattle.aho_prefilter.specs.declared.windows.Windows.{Windows}

-- whether a byte stands often in texts: a space, or a common letter
abbrev pub is_frequent : Bool → ℕ → Bool
is_frequent ignore_case byte = nat_eq byte 32 || (is_common byte || (ignore_case && is_common (opposite byte)))

-- whether the first four bytes of a word all do
abbrev pub begins_often : Bool → List ℕ → Bool
begins_often ignore_case word =
    is_frequent ignore_case (slice_index word 0)
    && (is_frequent ignore_case (slice_index word 1)
    && (is_frequent ignore_case (slice_index word 2)
    && is_frequent ignore_case (slice_index word 3)))

-- how many bytes stand before the first four that do not
abbrev pub bytes_before : Bool → List ℕ → ℕ
bytes_before ignore_case [] = 0
bytes_before ignore_case (byte ∷ word) =
    if begins_often ignore_case (byte ∷ word) then suc (bytes_before ignore_case word) else 0

-- the rest of a word from these four on
abbrev pub window_of : Bool → List ℕ → List ℕ
window_of ignore_case word = slice_range word (bytes_before ignore_case word) (length word)

-- that of each word
abbrev pub windows_of : Bool → List (List ℕ) → List (List ℕ)
windows_of ignore_case words = map (λ word. window_of ignore_case word) words

-- how many bytes stand before the window of a word, at most
abbrev pub most_before : Bool → List (List ℕ) → ℕ
most_before ignore_case words = fold (λ most word. max most (bytes_before ignore_case word)) 0 words

-- the search for the windows of these words
abbrev pub windows_search_of : Bool → Tested → ℕ → List (List ℕ) → Windows
windows_search_of ignore_case tested size words = record {
  search = packed_heads_of ignore_case tested size (windows_of ignore_case words);
  before = most_before ignore_case words;
}

-- the first place of a window, less the most bytes that may stand before one
pub record FindsWindow (windows : Windows) (bytes : List ℕ) (at : Option ℕ) : Type 0 where
  pub hit : Option ℕ
  pub first : IsFirstHeaded windows.search bytes hit
  pub is : at ≡ option_map (λ place. place - windows.before) hit
