-- How a state is reached, and by that the word that it stands for.
use Rattle.std.specs.Prelude.{◌≡◌, ◌≢◌, ℕ, ◌<◌, List, ◌∷◌, ◌++◌, length, Option, Some, None}
use Rattle.std.specs.List.{All}
use Rattle.aho_core.specs.Patterns.{Patterns, pattern_at}
use Rattle.aho_corasick.specs.ReadOut.{IsNaming, word_of_state}
use Rattle.aho_corasick.specs.declared.noncontiguous.NFA.{NFA}
use Rattle.aho_table.specs.Table.{State, IsRising, dead_id, fail_id, state_at, depth_in}
use Rattle.acdraw.specs.declared.picture.words.Reached.{Reached}

-- the patterns are of bytes
abbrev pub AreBytes : Patterns → Type 0
AreBytes p = (number : ℕ) → All (λ byte. byte < 256) (pattern_at p number)

-- this is the last byte of a list of transitions that leads to a state: none that follows does, or where there is no such byte, none at all
abbrev pub IsLastTo : ℕ → List (ℕ × ℕ) → Option ℕ → Type 0
IsLastTo next transitions None = All (λ transition. transition.1 ≢ next) transitions
IsLastTo next transitions (Some byte) =
    (front : List (ℕ × ℕ)) × (back : List (ℕ × ℕ)) × (transitions ≡ front ++ (byte, next) ∷ back) × All (λ transition. transition.1 ≢ next) back

-- the state is reached from one that is nearer to the start, by the last byte that leads there
pub record IsReachedBy (states : List State) (sid : ℕ) (reached : Reached) : Type 0 where
  pub within : reached.from < length states
  pub small : reached.byte < 256
  pub nearer : depth_in states reached.from < depth_in states sid
  pub rising : IsRising (state_at states reached.from).transitions
  pub last : IsLastTo sid (state_at states reached.from).transitions (Some reached.byte)

-- the state is reached from this one so, or is not
abbrev pub Leads : List State → ℕ → ℕ → Option ℕ → Type 0
Leads states from sid None = depth_in states from < depth_in states sid → IsLastTo sid (state_at states from).transitions None
Leads states from sid (Some byte) = IsReachedBy states sid (record { from = from; byte = byte })

-- it is reached from no state that is nearer to the start
abbrev pub IsUnreached : List State → ℕ → Type 0
IsUnreached states sid = (from : ℕ) → from < length states → Leads states from sid None

-- it is the word that the state stands for, by whatever patterns of bytes the automaton is of and whatever naming of its states:
-- folded, and empty for both starts. DEAD and FAIL stand for no word
abbrev pub IsWordOf : NFA → ℕ → List ℕ → Type 0
IsWordOf nfa sid word =
    (p : Patterns) (names : List (Option (List ℕ))) → AreBytes p → IsNaming nfa p names → sid ≢ dead_id → sid ≢ fail_id → word_of_state nfa names sid ≡ Some word

-- the word of the state begins with that of another, and goes on with these bytes
abbrev pub IsAheadOf : NFA → ℕ → ℕ → List ℕ → Type 0
IsAheadOf nfa sid at behind =
    (p : Patterns) (names : List (Option (List ℕ))) (word : List ℕ) → IsNaming nfa p names → word_of_state nfa names sid ≡ Some word
    → (front : List ℕ) × (word_of_state nfa names at ≡ Some front) × (word ≡ front ++ behind)
