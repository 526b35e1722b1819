-- What the limits refuse. What a build asks for is a list of growths in their order; the cause of a refusal is the first of
-- them that is above its limit.
use Rattle.std.specs.Prelude.{Bool, List, None, Option, Some, [], find, flat_map, if◌then◌else◌, length, map, nat_lt, sum_by, ℕ, ◌++◌, ◌*◌, ◌+◌, ◌-◌, ◌∷◌, ◌≡◌}
use Rattle.std.specs.List.{range_with_len}
use Rattle.aho_core.specs.MatchList.{matches_of}
use Rattle.aho_core.specs.Patterns.{Patterns, numbers, pattern_at}
use Rattle.aho_core.specs.Trie.{is_kept}
use Rattle.aho_core.specs.declared.error.BuildError.{BuildError}
use Rattle.aho_core.specs.declared.error.BuildError.TheVariants.{PatternIDOverflow, PatternTooLong, StateIDOverflow}
use Rattle.aho_build.specs.Dense.{classes_size, rows_size}
use Rattle.aho_build.specs.Settings.{in_force}
use Rattle.aho_build.specs.Sizes.{kept_before, matches_size, new_nodes, nodes_before, transitions_for}
use Rattle.aho_build.specs.declared.settings.Settings.{Settings}

-- one thing that a build asks for: a pattern of this number, a pattern of this number and length, an entry or a row that
-- starts at this index
pub data Growth : Type 0 where
  PatternNumber : ℕ → Growth
  PatternLength : ℕ → ℕ → Growth
  TableIndex : ℕ → Growth

-- the number that it asks for
abbrev pub requested : Growth → ℕ
requested (PatternNumber number) = number
requested (PatternLength number size) = size
requested (TableIndex index) = index

-- the limit that it has to keep
abbrev pub limit_on : Settings → Growth → ℕ
limit_on settings (PatternNumber number) = (in_force settings).pattern
limit_on settings (PatternLength number size) = (in_force settings).length
limit_on settings (TableIndex index) = (in_force settings).id

-- whether the limits refuse it
abbrev pub is_refused : Settings → Growth → Bool
is_refused settings growth = nat_lt (limit_on settings growth) (requested growth)

-- the error that says so
abbrev pub refusal_of : Settings → Growth → BuildError
refusal_of settings (PatternNumber number) = PatternIDOverflow (limit_on settings (PatternNumber number)) number
refusal_of settings (PatternLength number size) = PatternTooLong number size (limit_on settings (PatternLength number size))
refusal_of settings (TableIndex index) = StateIDOverflow (limit_on settings (TableIndex index)) index

-- a table grows from one length by some entries, one after another
abbrev pub entries_from : ℕ → ℕ → List Growth
entries_from size added = map TableIndex (range_with_len size added)

-- what a kept pattern asks for: its new states, their transitions, and its own match
abbrev pub growth_for_kept : Patterns → ℕ → List Growth
growth_for_kept p number =
    entries_from (4 + length (nodes_before p number)) (length (new_nodes p number))
    ++ (entries_from
    (769 + sum_by (transitions_for p) (nodes_before p number))
    (sum_by (transitions_for p) (new_nodes p number))
    ++ entries_from (1 + length (kept_before p number)) 1)

-- what each pattern asks for: first the check of its number, then that of its length
abbrev pub growth_for : Patterns → ℕ → List Growth
growth_for p number =
    PatternNumber number ∷ PatternLength number (length (pattern_at p number))
    ∷ (if is_kept p number then growth_for_kept p number else [])

-- the dummies, the four first states and their full transitions
abbrev pub first_growth : List Growth
first_growth = entries_from 0 769

-- while the patterns are taken
abbrev pub trie_growth : Patterns → List Growth
trie_growth p = first_growth ++ flat_map (growth_for p) (numbers p)

-- the listed patterns once all patterns are taken, and those that the anchored start then gets
abbrev pub own_size : Patterns → ℕ
own_size p = 1 + length (kept_before p (length p.words))

abbrev pub start_size : Patterns → ℕ
start_size p = length (matches_of p (Some []))

-- dense rows by their starts, one behind another, where states up to this depth have one
abbrev pub row_growth : ℕ → Patterns → List Growth
row_growth depth p = map (λ row. TableIndex (row * classes_size p + 1)) (range_with_len 0 (rows_size depth p))

-- and then: the anchored start's matches, the dense rows, and the copied matches
unfoldable pub growth : Settings → Patterns → List Growth
growth settings p =
    trie_growth p
    ++ (entries_from (own_size p) (start_size p)
    ++ (row_growth settings.dense_depth p
    ++ entries_from (own_size p + start_size p) (matches_size p - (own_size p + start_size p))))

-- why a build is refused where memory is found: the first thing that the limits refuse
abbrev pub cause : Settings → Patterns → Option Growth
cause settings p = find (is_refused settings) (growth settings p)

-- the patterns with more of them behind
abbrev pub followed_by : Patterns → List (List ℕ) → Patterns
followed_by p more = record { words = p.words ++ more; kind = p.kind; ignore_case = p.ignore_case }

-- nothing is refused while these patterns are taken
pub record IsAccepted (settings : Settings) (p : Patterns) : Type 0 where
  pub none : find (is_refused settings) (trie_growth p) ≡ None

-- the first thing that is refused while these patterns are taken, whatever patterns follow
pub record IsCause (settings : Settings) (p : Patterns) (refused : Growth) : Type 0 where
  pub first : find (is_refused settings) (trie_growth p) ≡ Some refused
  pub longer : (more : List (List ℕ)) → cause settings (followed_by p more) ≡ Some refused
