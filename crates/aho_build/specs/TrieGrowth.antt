-- How the trie grows: by one state, by the bytes of one pattern, by one pattern, and from the four first states.
use Rattle.std.specs.Prelude.{Bool, List, MatchBool, None, Option, Some, [], false, if◌then◌else◌, length, nat_eq, not, sum_by, take, true, ℕ, ◌&&◌, ◌+◌, ◌<◌, ◌≡◌, ◌≢◌, ◌≤◌, ◌⊎◌}
use Rattle.std.specs.List.{All}
use Rattle.aho_core.specs.Bytes.{folded_by, opposite}
use Rattle.aho_core.specs.Among.{own_among}
use Rattle.aho_core.specs.Bytes.{folded_word}
use Rattle.aho_core.specs.Patterns.{Patterns, pattern_at}
use Rattle.aho_core.specs.Trie.{is_kept, pattern_word}
use Rattle.aho_core.specs.declared.error.BuildError.{BuildError}
use Rattle.aho_core.specs.declared.search.MatchKind.{MatchKind}
use Rattle.aho_core.specs.declared.search.MatchKind.TheVariants.{LeftmostFirst, LeftmostLongest, Standard}
use Rattle.aho_table.specs.Refusal.{IsRefusalOf}
use Rattle.aho_table.specs.Table.{AllRising, IsRising, State, depth_in, fail_id, fail_in, lists_byte, matches_count, matches_in, next_in, state_at, transitions_count}
use Rattle.aho_build.specs.Settings.{in_force}
use Rattle.aho_build.specs.Sizes.{kept_before, nodes_before, nodes_with, transitions_for}
use Rattle.aho_build.specs.StateNames.{name_at}
use Rattle.aho_build.specs.Trie.{HoldsFirst, HoldsWith, names_of}
use Rattle.aho_build.specs.declared.settings.Settings.{Settings}

-- the change of a table by one more state, to which a state leads by a byte and, under the case rule, by its other case
pub record Grows (ignore_case : Bool) (parent byte depth : ℕ) (old new : List State) : Type 0 where
  pub sized : length new ≡ length old + 1
  pub depth_new : depth_in new (length old) ≡ depth
  pub transition_new : (other : ℕ) → next_in new (length old) other ≡ fail_id
  pub matches_new : matches_in new (length old) ≡ []
  pub fail_new : fail_in new (length old) ≡ fail_id
  pub depth_old : (i : ℕ) → i < length old → depth_in new i ≡ depth_in old i
  pub matches_old : (i : ℕ) → i < length old → matches_in new i ≡ matches_in old i
  pub fail_old : (i : ℕ) → i < length old → fail_in new i ≡ fail_in old i
  pub transition_old : (i other : ℕ) → i < length old → i ≢ parent → next_in new i other ≡ next_in old i other
  pub transition_byte : (other : ℕ) → other < 256
      → folded_by ignore_case other ≡ folded_by ignore_case byte → next_in new parent other ≡ length old
  pub transition_other : (other : ℕ) → other < 256
      → folded_by ignore_case other ≢ folded_by ignore_case byte → next_in new parent other ≡ next_in old parent other

-- how many entries a transition by the byte takes: none where the state lists the byte already
abbrev pub missing_in : List State → ℕ → ℕ → ℕ
missing_in states sid byte = if lists_byte states sid byte then 0 else 1

-- and one by the byte and, under the case rule, by its other case
abbrev pub missing_both : Bool → List State → ℕ → ℕ → ℕ
missing_both ignore_case states sid byte =
    missing_in states sid byte + (if ignore_case && not (nat_eq (opposite byte) byte) then missing_in states sid (opposite byte) else 0)

-- what the states list after that change: the byte and its other case are new in the one list, and no pattern is
pub record ListsMore (ignore_case : Bool) (parent byte : ℕ) (old new : List State) : Type 0 where
  pub rising : AllRising old → AllRising new
  pub listed_new : (other : ℕ) → lists_byte new (length old) other ≡ false
  pub listed_old : (i other : ℕ) → i < length old → i ≢ parent → lists_byte new i other ≡ lists_byte old i other
  pub listed_more : (other : ℕ) → lists_byte old parent other ≡ true → lists_byte new parent other ≡ true
  pub listed_other : (other : ℕ) → folded_by ignore_case other ≢ folded_by ignore_case byte → lists_byte new parent other ≡ lists_byte old parent other
  pub transitions_more : AllRising old → transitions_count new ≡ transitions_count old + missing_both ignore_case old parent byte
  pub matches_same : matches_count new ≡ matches_count old

-- the state to which the byte leads, which was there or is new
abbrev pub HasChild : Bool → ℕ → ℕ → ℕ → List State → List State → ℕ → Type 0
HasChild ignore_case parent byte depth old new sid =
    MatchBool
    (nat_eq (next_in old parent byte) fail_id)
    ((sid ≡ length old) × Grows ignore_case parent byte depth old new × ListsMore ignore_case parent byte old new)
    ((sid ≡ next_in old parent byte) × (new ≡ old))

-- each byte below the count leads from the state to the next one, no other byte is listed, and nothing else was changed
pub record IsFilledBelow (sid next count : ℕ) (old new : List State) : Type 0 where
  pub sized : length new ≡ length old
  pub transitions : (byte : ℕ) → byte < count → next_in new sid byte ≡ next
  pub matches : matches_in new sid ≡ matches_in old sid
  pub fail : fail_in new sid ≡ fail_in old sid
  pub depth : depth_in new sid ≡ depth_in old sid
  pub others : (i : ℕ) → i ≢ sid → state_at new i ≡ state_at old i
  pub rising : IsRising (state_at new sid).transitions
  pub listed : (byte : ℕ) → byte < count → lists_byte new sid byte ≡ true
  pub unlisted : (byte : ℕ) → count ≤ byte → lists_byte new sid byte ≡ false
  pub transitions_more : transitions_count new ≡ transitions_count old + count
  pub matches_same : matches_count new ≡ matches_count old

-- whether the kind leaves patterns out
abbrev pub leaves_out : MatchKind → Bool
leaves_out Standard = false
leaves_out LeftmostFirst = true
leaves_out LeftmostLongest = false

-- the pattern of this number is the word, and kind and case rule are those of the settings
pub record IsNumbered (p : Patterns) (number : ℕ) (settings : Settings) (word : List ℕ) : Type 0 where
  pub kind_is : p.kind ≡ settings.kind
  pub case_is : p.ignore_case ≡ settings.ignore_case
  pub pattern_is : pattern_at p number ≡ word

-- the table is a trie of the patterns before one that is the word
abbrev pub AwaitsWord : Settings → List ℕ → List State → Type 0
AwaitsWord settings word states =
    (p : Patterns) × ((number : ℕ) × (IsNumbered p number settings word × HoldsFirst p number states))

-- the walk along a pattern's word has taken its first bytes: they have their states, the last of which is held, and a kind
-- that leaves patterns out has met no pattern before the last
pub record HasWalked (p : Patterns) (number : ℕ) (word : List ℕ) (count sid : ℕ) (states : List State) : Type 0 where
  pub passed : (k : ℕ) → k < count → leaves_out p.kind ≡ true → own_among p number (folded_word p (take k word)) ≡ []
  pub with_front : HoldsWith p number (folded_word p (take count word)) states
  pub held : name_at (names_of (nodes_with p number (folded_word p (take count word)))) sid ≡ Some (folded_word p (take count word))

-- what was a trie of the patterns before the word, by any patterns, has its first bytes
abbrev pub WalksWord : Settings → List ℕ → ℕ → ℕ → List State → List State → Type 0
WalksWord settings word count sid old new =
    (p : Patterns) (number : ℕ) → IsNumbered p number settings word → HoldsFirst p number old → HasWalked p number word count sid new

-- where the bytes of the pattern of this number end, in the trie that has them too; none where the pattern is left out and
-- the trie is still that of the patterns before it
abbrev pub EndsAt : Patterns → ℕ → List State → Option ℕ → Type 0
EndsAt p number states None = (is_kept p number ≡ false) × HoldsFirst p number states
EndsAt p number states (Some sid) =
    (is_kept p number ≡ true)
    × HoldsWith p number (pattern_word p number) states
    × (name_at (names_of (nodes_with p number (pattern_word p number))) sid ≡ Some (pattern_word p number))

-- what was a trie of the patterns before the word, by any patterns, has the word's bytes too
abbrev pub AddsWord : Settings → List ℕ → List State → List State → Option ℕ → Type 0
AddsWord settings word old new end =
    (p : Patterns) (number : ℕ) → IsNumbered p number settings word → HoldsFirst p number old → EndsAt p number new end

-- and once its number is listed, it is the trie of one pattern more
abbrev pub AddsPattern : Settings → List ℕ → ℕ → List State → List State → Type 0
AddsPattern settings word number old new =
    (p : Patterns) → IsNumbered p number settings word → HoldsFirst p number old → HoldsFirst p (number + 1) new

-- why there is no state to which the byte leads: there was none, and there are too many states, or transitions
abbrev pub IsChildRefusal : Bool → ℕ → ℕ → ℕ → List State → BuildError → Type 0
IsChildRefusal ignore_case limit parent byte states error =
    (next_in states parent byte ≡ fail_id)
    × (IsRefusalOf limit (length states + 1) error ⊎ IsRefusalOf limit (transitions_count states + missing_both ignore_case states parent byte) error)

-- why the pattern of this number is not in the trie: it is kept, and with it there are too many states, transitions or matches
abbrev pub IsPatternRefusal : ℕ → Patterns → ℕ → BuildError → Type 0
IsPatternRefusal limit p number error =
    (is_kept p number ≡ true)
    × (IsRefusalOf limit (4 + length (nodes_before p (number + 1))) error
    ⊎ (IsRefusalOf limit (769 + sum_by (transitions_for p) (nodes_before p (number + 1))) error
    ⊎ IsRefusalOf limit (1 + length (kept_before p (number + 1))) error))

-- why the word is not in what was a trie of the patterns before it, by any patterns
abbrev pub IsWordRefusal : Settings → List ℕ → ℕ → List State → BuildError → Type 0
IsWordRefusal settings word limit states error =
    (p : Patterns) (number : ℕ) → IsNumbered p number settings word → HoldsFirst p number states → IsPatternRefusal limit p number error

-- each pattern's number and length is within its limit
pub record AreWithin (settings : Settings) (p : Patterns) : Type 0 where
  pub numbers_within : length p.words ≤ (in_force settings).pattern + 1
  pub lengths_within : All (λ word. length word ≤ (in_force settings).length) p.words
