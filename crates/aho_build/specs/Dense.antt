-- Dense rows: the classes of bytes that they are by, which states have one, how large that makes the tables, and why one is
-- refused.
use Rattle.std.specs.Prelude.{◌≡◌, ℕ, ◌+◌, ◌*◌, ◌<◌, ◌≤◌, ◌⊎◌, ◌&&◌, ◌||◌, nat_eq, Bool, not, List, [], ◌∷◌, length, drop, nat_lt}
use Rattle.std.specs.List.{count_by, list_any, range_with_len}
use Rattle.aho_core.specs.Patterns.{Patterns, pattern_at}
use Rattle.aho_core.specs.Trie.{is_kept}
use Rattle.aho_core.specs.declared.error.BuildError.{BuildError}
use Rattle.aho_core.specs.declared.error.BuildError.TheVariants.{StateIDOverflow, OutOfMemory}
use Rattle.aho_table.specs.Alphabet.{class_count, is_border}
use Rattle.aho_table.specs.Table.{State, fail_id, state_at, has_row}
use Rattle.aho_build.specs.Sizes.{tables_bytes, nodes, states_size, transitions_size, matches_size}
use Rattle.aho_build.specs.Trie.{HoldsFirst}
use Rattle.aho_core.specs.Bytes.{folded_by}
use Rattle.aho_build.specs.TrieGrowth.{IsNumbered}
use Rattle.aho_build.specs.declared.settings.Settings.{Settings}

-- whether the word has the byte, by the case rule
abbrev pub has_folded : Bool → List ℕ → ℕ → Bool
has_folded ignore_case word byte = list_any (λ other. nat_eq (folded_by ignore_case other) (folded_by ignore_case byte)) word

-- whether a border is to stand between this byte and the next one: the word has one of them
abbrev pub is_parted_by : Bool → List ℕ → ℕ → Bool
is_parted_by ignore_case word at = has_folded ignore_case word at || has_folded ignore_case word (at + 1)

-- the same of the kept patterns below this number
abbrev pub is_parted_among : Patterns → ℕ → ℕ → Bool
is_parted_among p number at = list_any (λ k. is_kept p k && is_parted_by p.ignore_case (pattern_at p k) at) (range_with_len 0 number)

-- the borders are those of the kept patterns
abbrev pub HasBorders : Patterns → List Bool → Type 0
HasBorders p borders = (at : ℕ) → at < 255 → is_border borders at ≡ is_parted_among p (length p.words) at

-- the borders have got those of the pattern of this number, which is the word, where it is kept; by any patterns of which
-- the table was a trie
abbrev pub AddsBorders : Settings → List ℕ → ℕ → List State → List Bool → List Bool → Type 0
AddsBorders settings word number states old new =
    (p : Patterns) → IsNumbered p number settings word → HoldsFirst p number states → (at : ℕ) → at < 255
    → is_border new at ≡ (is_border old at || (is_kept p number && is_parted_by p.ignore_case word at))

-- how many classes of bytes there are: each byte of a kept pattern is one by itself, and so is each unbroken run of others;
-- one more than there are places with a border
abbrev pub classes_size : Patterns → ℕ
classes_size p = count_by (is_parted_among p (length p.words)) (range_with_len 0 255) + 1

-- whether a state at this distance from the start is to have a row: it is no further than the depth, and none is at depth 0
abbrev pub is_near : ℕ → ℕ → Bool
is_near depth distance = nat_lt 0 depth && not (nat_lt depth distance)

-- how many of the two starts and the nonempty nodes have one
abbrev pub rows_size : ℕ → Patterns → ℕ
rows_size depth p = count_by (λ word. is_near depth (length word)) ([] ∷ [] ∷ nodes p)

-- the entries of the dense table: the dummy, and one for each row and class
abbrev pub dense_size : ℕ → Patterns → ℕ
dense_size depth p = rows_size depth p * classes_size p + 1

-- the bytes of all tables together, where states up to this depth have rows
abbrev pub memory_size : ℕ → Patterns → ℕ
memory_size depth p = tables_bytes (states_size p) (transitions_size p) (matches_size p) (dense_size depth p) (length p.words)

-- whether a state is to have a row
abbrev pub is_dense : ℕ → State → Bool
is_dense depth state = is_near depth state.depth

-- whether the state of this number is to have one: DEAD and FAIL, which come first, have none
abbrev pub is_dense_at : ℕ → List State → ℕ → Bool
is_dense_at depth states sid = nat_lt fail_id sid && is_dense depth (state_at states sid)

-- exactly those states have a row
pub record AreDense (depth : ℕ) (states : List State) (rows : List Bool) : Type 0 where
  pub as_many : length rows ≡ length states
  pub exact : (sid : ℕ) → sid < length states → has_row rows sid ≡ is_dense_at depth states sid

-- how many states of a table have one
abbrev pub dense_count : ℕ → List State → ℕ
dense_count depth states = count_by (is_dense depth) (drop 2 states)

-- where a row starts that comes behind so many: index 0 is taken from the start
abbrev pub row_start : List Bool → ℕ → ℕ
row_start classes rows = rows * class_count classes + 1

-- so many rows start within the limit
abbrev pub AreWithinLimit : ℕ → List Bool → ℕ → Type 0
AreWithinLimit limit classes count = (row : ℕ) → row < count → row_start classes row ≤ limit

-- the row that comes behind so many is the first that starts above the limit
pub record IsFirstRowPast (limit : ℕ) (classes : List Bool) (rows : ℕ) : Type 0 where
  pub past : limit < row_start classes rows
  pub earlier : AreWithinLimit limit classes rows

-- why so many rows are refused: memory was wanted, or the first of them that starts above the limit is named by its start
abbrev pub IsRowRefusal : ℕ → List Bool → ℕ → BuildError → Type 0
IsRowRefusal limit classes count error =
    (error ≡ OutOfMemory)
    ⊎ ((rows : ℕ) × (rows < count) × IsFirstRowPast limit classes rows × (error ≡ StateIDOverflow limit (row_start classes rows)))
