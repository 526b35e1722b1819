-- Sizes and causes of a few patterns, computed.
use Rattle.std.specs.Prelude.{◌≡◌, ℕ, true, false, List, [], ◌∷◌, codes, Some, None, refl}
use Rattle.aho_core.specs.declared.search.MatchKind.{MatchKind}
use Rattle.aho_core.specs.declared.search.MatchKind.TheVariants.{Standard, LeftmostFirst}
use Rattle.aho_core.specs.Failure.{is_cut}
use Rattle.aho_core.specs.MatchList.{own_matches}
use Rattle.aho_core.specs.Patterns.{Patterns}
use Rattle.aho_core.specs.Trie.{is_kept, is_node, pattern_word}
use Rattle.aho_build.specs.Sizes.{states_size, transitions_size, matches_size}
use Rattle.aho_build.specs.Dense.{memory_size}
use Rattle.aho_build.specs.Refusals.{cause, growth, row_growth, PatternNumber, PatternLength, TableIndex}
use Rattle.aho_build.specs.Settings.{default_settings}
use Rattle.aho_build.specs.declared.settings.Settings.{Settings}

abbrev of_kind : MatchKind → List (List ℕ) → Patterns
of_kind kind words = record { words = words; kind = kind; ignore_case = false }

abbrev folded_of : List (List ℕ) → Patterns
folded_of words = record { words = words; kind = Standard; ignore_case = true }

-- ---- sizes

-- one pattern has three nodes, of which the root's transition is there from the start
states_of_one : states_size (of_kind Standard (codes "abc" ∷ [])) ≡ 7
unfolding is_kept pattern_word
states_of_one = refl

transitions_of_one : transitions_size (of_kind Standard (codes "abc" ∷ [])) ≡ 771
unfolding is_kept pattern_word
transitions_of_one = refl

matches_of_one : matches_size (of_kind Standard (codes "abc" ∷ [])) ≡ 2
unfolding is_kept pattern_word own_matches is_node is_cut
matches_of_one = refl

memory_of_one : memory_size 0 (of_kind Standard (codes "abc" ∷ [])) ≡ 7103
unfolding is_kept pattern_word own_matches is_node is_cut
memory_of_one = refl

-- at depth 1 the starts and the first node have rows of five classes, and at a greater one all nodes
memory_of_near : memory_size 1 (of_kind Standard (codes "abc" ∷ [])) ≡ 7163
unfolding is_kept pattern_word own_matches is_node is_cut
memory_of_near = refl

memory_of_dense : memory_size 3 (of_kind Standard (codes "abc" ∷ [])) ≡ 7203
unfolding is_kept pattern_word own_matches is_node is_cut
memory_of_dense = refl

memory_of_greatest : memory_size 18446744073709551615 (of_kind Standard (codes "abc" ∷ [])) ≡ 7203
unfolding is_kept pattern_word own_matches is_node is_cut
memory_of_greatest = refl

-- a letter has two transitions under the case rule
transitions_of_folded : transitions_size (folded_of (codes "aBc" ∷ [])) ≡ 773
unfolding is_kept pattern_word
transitions_of_folded = refl

-- an empty pattern is listed by each start, and by what ends in it
states_of_empty : states_size (of_kind Standard ([] ∷ codes "ab" ∷ [])) ≡ 6
unfolding is_kept pattern_word
states_of_empty = refl

matches_of_empty : matches_size (of_kind Standard ([] ∷ codes "ab" ∷ [])) ≡ 6
unfolding is_kept pattern_word own_matches is_node is_cut
matches_of_empty = refl

memory_of_empty : memory_size 0 (of_kind Standard ([] ∷ codes "ab" ∷ [])) ≡ 7110
unfolding is_kept pattern_word own_matches is_node is_cut
memory_of_empty = refl

memory_of_empty_dense : memory_size 3 (of_kind Standard ([] ∷ codes "ab" ∷ [])) ≡ 7174
unfolding is_kept pattern_word own_matches is_node is_cut
memory_of_empty_dense = refl

-- but under LeftmostFirst not behind the first bytes of a pattern
matches_of_empty_last : matches_size (of_kind LeftmostFirst (codes "xyz" ∷ [] ∷ [])) ≡ 4
unfolding is_kept pattern_word own_matches is_node is_cut
matches_of_empty_last = refl

-- and what it begins is left out
states_of_empty_first : states_size (of_kind LeftmostFirst ([] ∷ codes "xyz" ∷ [])) ≡ 4
unfolding is_kept pattern_word
states_of_empty_first = refl

transitions_of_empty_first : transitions_size (of_kind LeftmostFirst ([] ∷ codes "xyz" ∷ [])) ≡ 769
unfolding is_kept pattern_word
transitions_of_empty_first = refl

matches_of_empty_first : matches_size (of_kind LeftmostFirst ([] ∷ codes "xyz" ∷ [])) ≡ 3
unfolding is_kept pattern_word own_matches is_node is_cut
matches_of_empty_first = refl

-- and its bytes are of one class with all others
memory_of_empty_first : memory_size 3 (of_kind LeftmostFirst ([] ∷ codes "xyz" ∷ [])) ≡ 7045
unfolding is_kept pattern_word own_matches is_node is_cut
memory_of_empty_first = refl

memory_of_none : memory_size 0 (of_kind Standard []) ≡ 7013
unfolding is_kept pattern_word own_matches is_node is_cut
memory_of_none = refl

-- ---- causes

abbrev with_id : ℕ → Settings
with_id id = record default_settings { limits = record { id = id; pattern = 2147483646; length = 2147483646 } }

-- the entry at the limit is allowed
cause_at_limit : cause (with_id 770) (of_kind Standard (codes "abc" ∷ [])) ≡ None
unfolding growth is_kept pattern_word own_matches is_node is_cut
cause_at_limit = refl

cause_past_limit : cause (with_id 770) (of_kind Standard (codes "abcd" ∷ [])) ≡ Some (TableIndex 771)
unfolding growth is_kept pattern_word own_matches is_node is_cut
cause_past_limit = refl

cause_of_none : cause (with_id 768) (of_kind Standard []) ≡ None
unfolding growth is_kept pattern_word own_matches is_node is_cut
cause_of_none = refl

cause_of_none_past : cause (with_id 767) (of_kind Standard []) ≡ Some (TableIndex 768)
unfolding growth is_kept pattern_word own_matches is_node is_cut
cause_of_none_past = refl

cause_of_few : cause (with_id 2) (of_kind Standard []) ≡ Some (TableIndex 3)
unfolding growth is_kept pattern_word own_matches is_node is_cut
cause_of_few = refl

-- each row of five classes starts behind the one before
rows_of_near : row_growth 1 (of_kind Standard (codes "abc" ∷ [])) ≡ TableIndex 1 ∷ TableIndex 6 ∷ TableIndex 11 ∷ []
unfolding is_kept pattern_word own_matches is_node is_cut
rows_of_near = refl

abbrev with_length : ℕ → Settings
with_length length = record default_settings { limits = record { id = 2147483646; pattern = 2147483646; length = length } }

abbrev with_pattern : ℕ → Settings
with_pattern pattern = record default_settings { limits = record { id = 2147483646; pattern = pattern; length = 2147483646 } }

abbrev with_both : ℕ → ℕ → Settings
with_both pattern length = record default_settings { limits = record { id = 2147483646; pattern = pattern; length = length } }

cause_of_length : cause (with_length 2) (of_kind Standard (codes "ab" ∷ codes "abc" ∷ [])) ≡ Some (PatternLength 1 3)
unfolding growth is_kept pattern_word own_matches is_node is_cut
cause_of_length = refl

cause_of_number : cause (with_pattern 0) (of_kind Standard (codes "a" ∷ codes "b" ∷ [])) ≡ Some (PatternNumber 1)
unfolding growth is_kept pattern_word own_matches is_node is_cut
cause_of_number = refl

-- what comes first is named
cause_of_length_first : cause (with_both 0 2) (of_kind Standard (codes "abc" ∷ codes "b" ∷ [])) ≡ Some (PatternLength 0 3)
unfolding growth is_kept pattern_word own_matches is_node is_cut
cause_of_length_first = refl

cause_of_number_first : cause (with_both 0 2) (of_kind Standard (codes "a" ∷ codes "abc" ∷ [])) ≡ Some (PatternNumber 1)
unfolding growth is_kept pattern_word own_matches is_node is_cut
cause_of_number_first = refl
