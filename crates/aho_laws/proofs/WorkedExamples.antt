-- Worked examples, computed from the definitions.
use Rattle.std.specs.Prelude.{◌≡◌, ℕ, Bool, true, false, List, [], ◌∷◌, length, map, take, slice_index_or, codes, Option, Some, None, refl}
use Rattle.std.specs.List.{range_with_len}
use Rattle.aho_core.specs.declared.search.Anchored.{Anchored}
use Rattle.aho_core.specs.declared.search.Anchored.TheVariants.{No, Yes}
use Rattle.aho_core.specs.declared.search.MatchKind.{MatchKind}
use Rattle.aho_core.specs.declared.search.MatchKind.TheVariants.{Standard, LeftmostFirst, LeftmostLongest}
use Rattle.aho_core.specs.Bytes.{folded, is_same_word}
use Rattle.aho_core.specs.Failure.{is_cut, failure_of}
use Rattle.aho_core.specs.Held.{held_after}
use Rattle.aho_core.specs.MatchList.{matches_of, own_matches}
use Rattle.aho_core.specs.Occurrence.{Occurrence}
use Rattle.aho_core.specs.Overlapping.{all_occurrences, overlapping}
use Rattle.aho_core.specs.Patterns.{Patterns, numbers}
use Rattle.aho_core.specs.Replacement.{replaced}
use Rattle.aho_core.specs.Step.{lookups, lookups_along}
use Rattle.aho_core.specs.Trie.{is_kept, is_node, pattern_word}

abbrev pub exact : MatchKind → List (List ℕ) → Patterns
exact kind words = record { words = words; kind = kind; ignore_case = false }

abbrev pub any_case : MatchKind → List (List ℕ) → Patterns
any_case kind words = record { words = words; kind = kind; ignore_case = true }

-- the occurrence of a pattern from a place up to another
abbrev pub at : ℕ → ℕ → ℕ → Occurrence
at pattern start end = record { pattern = pattern; start = start; end = end }

abbrev failures : Patterns → List (List ℕ) → List (Option (List ℕ))
failures p nodes = map (failure_of p) nodes

abbrev lists : Patterns → List (List ℕ) → List (List ℕ)
lists p nodes = map (λ w. matches_of p (Some w)) nodes

-- the state before each byte of a text
abbrev states_before : Patterns → Anchored → List ℕ → List (Option (List ℕ))
states_before p anchored text = map (λ n. held_after p anchored (take n text)) (range_with_len 0 (length text))

-- the look-ups of each byte of a text
abbrev lookups_of : Patterns → Anchored → List ℕ → List ℕ
lookups_of p anchored text = map (λ n. lookups p anchored (held_after p anchored (take n text)) (slice_index_or text n 0)) (range_with_len 0 (length text))

-- of a whole text, from the start on
abbrev lookups_in : Patterns → Anchored → List ℕ → ℕ
lookups_in p anchored text = lookups_along p anchored (Some []) text

-- ---- the Standard links of abcd and cef

abbrev abcd_cef : Patterns
abcd_cef = exact Standard (codes "abcd" ∷ codes "cef" ∷ [])

abbrev abcd_cef_nodes : List (List ℕ)
abcd_cef_nodes = codes "a" ∷ codes "ab" ∷ codes "abc" ∷ codes "abcd" ∷ codes "c" ∷ codes "ce" ∷ codes "cef" ∷ []

abcd_cef_failures : failures abcd_cef abcd_cef_nodes ≡ Some [] ∷ Some [] ∷ Some (codes "c") ∷ Some [] ∷ Some [] ∷ Some [] ∷ Some [] ∷ []
unfolding pattern_word is_kept is_node is_cut
abcd_cef_failures = refl

abcd_cef_lists : lists abcd_cef abcd_cef_nodes ≡ [] ∷ [] ∷ [] ∷ (0 ∷ []) ∷ [] ∷ [] ∷ (1 ∷ []) ∷ []
unfolding pattern_word is_kept is_node is_cut own_matches
abcd_cef_lists = refl

-- e is looked up at abc and at c
abcd_cef_lookups : lookups_of abcd_cef No (codes "abcef") ≡ 1 ∷ 1 ∷ 1 ∷ 2 ∷ 1 ∷ []
unfolding pattern_word is_kept is_node is_cut
abcd_cef_lookups = refl

abcd_cef_lookups_in : lookups_in abcd_cef No (codes "abcef") ≡ 6
unfolding pattern_word is_kept is_node is_cut
abcd_cef_lookups_in = refl

abcd_cef_held : held_after abcd_cef No (codes "abcef") ≡ Some (codes "cef")
unfolding pattern_word is_kept is_node is_cut
abcd_cef_held = refl

-- ---- the LeftmostLongest links of abcd, b and bce

abbrev abcd_b_bce : Patterns
abcd_b_bce = exact LeftmostLongest (codes "abcd" ∷ codes "b" ∷ codes "bce" ∷ [])

abbrev abcd_b_bce_nodes : List (List ℕ)
abcd_b_bce_nodes = codes "a" ∷ codes "ab" ∷ codes "abc" ∷ codes "abcd" ∷ codes "b" ∷ codes "bc" ∷ codes "bce" ∷ []

abcd_b_bce_failures : failures abcd_b_bce abcd_b_bce_nodes ≡ Some [] ∷ Some (codes "b") ∷ Some (codes "bc") ∷ None ∷ None ∷ None ∷ None ∷ []
unfolding pattern_word is_kept is_node is_cut
abcd_b_bce_failures = refl

abcd_b_bce_lists : lists abcd_b_bce abcd_b_bce_nodes ≡ [] ∷ (1 ∷ []) ∷ [] ∷ (0 ∷ []) ∷ (1 ∷ []) ∷ [] ∷ (2 ∷ []) ∷ []
unfolding pattern_word is_kept is_node is_cut own_matches
abcd_b_bce_lists = refl

abcd_b_bce_lookups : lookups_of abcd_b_bce No (codes "abce") ≡ 1 ∷ 1 ∷ 1 ∷ 2 ∷ []
unfolding pattern_word is_kept is_node is_cut
abcd_b_bce_lookups = refl

abcd_b_bce_lookups_in : lookups_in abcd_b_bce No (codes "abce") ≡ 5
unfolding pattern_word is_kept is_node is_cut
abcd_b_bce_lookups_in = refl

-- ---- the empty pattern, repeated patterns, and those that are not kept

-- Standard: each list has the empty pattern once
empty_ab_lists : lists (exact Standard ([] ∷ codes "ab" ∷ [])) ([] ∷ codes "a" ∷ codes "ab" ∷ []) ≡ (0 ∷ []) ∷ (0 ∷ []) ∷ (1 ∷ 0 ∷ []) ∷ []
unfolding pattern_word is_kept is_node is_cut own_matches
empty_ab_lists = refl

abbrev kept : Patterns → List Bool
kept p = map (is_kept p) (numbers p)

-- a longer pattern before the empty one is kept, and its nodes lead nowhere
abbrev xyz_empty : Patterns
xyz_empty = exact LeftmostFirst (codes "xyz" ∷ [] ∷ [])

xyz_empty_kept : kept xyz_empty ≡ true ∷ true ∷ []
unfolding pattern_word is_kept
xyz_empty_kept = refl

xyz_empty_lists : lists xyz_empty ([] ∷ codes "x" ∷ codes "xy" ∷ codes "xyz" ∷ []) ≡ (1 ∷ []) ∷ [] ∷ [] ∷ (0 ∷ []) ∷ []
unfolding pattern_word is_kept is_node is_cut own_matches
xyz_empty_lists = refl

xyz_empty_failures : failures xyz_empty (codes "x" ∷ codes "xy" ∷ codes "xyz" ∷ []) ≡ None ∷ None ∷ None ∷ []
unfolding pattern_word is_kept is_node is_cut
xyz_empty_failures = refl

-- held only at its nodes, here in either case
xyz_empty_held : map (held_after (any_case LeftmostFirst (codes "xyz" ∷ [] ∷ [])) No) (codes "XY" ∷ codes "A" ∷ codes "xA" ∷ []) ≡ Some (codes "xy") ∷ None ∷ None ∷ []
unfolding pattern_word is_kept is_node is_cut
xyz_empty_held = refl

empty_longest_held : map (held_after (exact LeftmostLongest ([] ∷ codes "ab" ∷ codes "c" ∷ [])) No) ([] ∷ codes "a" ∷ codes "ac" ∷ codes "c" ∷ []) ≡ Some [] ∷ Some (codes "a") ∷ None ∷ Some (codes "c") ∷ []
unfolding pattern_word is_kept is_node is_cut
empty_longest_held = refl

-- the empty pattern before a longer one is kept alone, and the root is the one node
abbrev empty_xyz : Patterns
empty_xyz = exact LeftmostFirst ([] ∷ codes "xyz" ∷ [])

empty_xyz_kept : kept empty_xyz ≡ true ∷ false ∷ []
unfolding pattern_word is_kept
empty_xyz_kept = refl

empty_xyz_nodes : map (is_node empty_xyz) ([] ∷ codes "x" ∷ codes "xy" ∷ codes "xyz" ∷ []) ≡ true ∷ false ∷ false ∷ false ∷ []
unfolding pattern_word is_kept is_node
empty_xyz_nodes = refl

-- both numbers of a pattern that stands there twice are listed
a_twice_lists : lists (exact LeftmostFirst (codes "a" ∷ codes "a" ∷ [])) (codes "a" ∷ []) ≡ (0 ∷ 1 ∷ []) ∷ []
unfolding pattern_word is_kept is_node is_cut own_matches
a_twice_lists = refl

-- bce is left out behind b, and behind bc alone where bc comes first
b_bce_kept : kept (exact LeftmostFirst (codes "b" ∷ codes "bce" ∷ codes "ab" ∷ [])) ≡ true ∷ false ∷ true ∷ []
unfolding pattern_word is_kept
b_bce_kept = refl

bce_b_kept : kept (exact LeftmostFirst (codes "bce" ∷ codes "b" ∷ codes "bc" ∷ [])) ≡ true ∷ true ∷ false ∷ []
unfolding pattern_word is_kept
bce_b_kept = refl

-- the other kinds keep all
b_bce_kept_longest : kept (exact LeftmostLongest (codes "b" ∷ codes "bce" ∷ codes "ab" ∷ [])) ≡ true ∷ true ∷ true ∷ []
unfolding pattern_word is_kept
b_bce_kept_longest = refl

b_bce_kept_standard : kept (exact Standard (codes "b" ∷ codes "bce" ∷ codes "ab" ∷ [])) ≡ true ∷ true ∷ true ∷ []
unfolding pattern_word is_kept
b_bce_kept_standard = refl

-- ab is left out behind A under the case rule alone
a_ab_kept : kept (any_case LeftmostFirst (codes "A" ∷ codes "ab" ∷ [])) ≡ true ∷ false ∷ []
unfolding pattern_word is_kept
a_ab_kept = refl

a_ab_kept_exact : kept (exact LeftmostFirst (codes "A" ∷ codes "ab" ∷ [])) ≡ true ∷ true ∷ []
unfolding pattern_word is_kept
a_ab_kept_exact = refl

a_ab_list : matches_of (any_case LeftmostFirst (codes "A" ∷ codes "ab" ∷ [])) (Some (codes "ab")) ≡ []
unfolding pattern_word is_kept is_node is_cut own_matches
a_ab_list = refl

-- ---- look-ups

-- the first x falls from ab to the dead state, after four look-ups; a search ends there
abbrev abcd_ab : Patterns
abcd_ab = exact LeftmostLongest (codes "abcd" ∷ codes "ab" ∷ [])

abcd_ab_states : states_before abcd_ab No (codes "abxxxxxxxx") ≡ Some [] ∷ Some (codes "a") ∷ Some (codes "ab") ∷ None ∷ None ∷ None ∷ None ∷ None ∷ None ∷ None ∷ []
unfolding pattern_word is_kept is_node is_cut
abcd_ab_states = refl

abcd_ab_lookups : lookups_of abcd_ab No (codes "abxxxxxxxx") ≡ 1 ∷ 1 ∷ 2 ∷ 1 ∷ 1 ∷ 1 ∷ 1 ∷ 1 ∷ 1 ∷ 1 ∷ []
unfolding pattern_word is_kept is_node is_cut
abcd_ab_lookups = refl

-- from aaa on each a is looked up at aaa and at aa
aaab_lookups : lookups_of (exact Standard (codes "aaab" ∷ [])) No (codes "aaaaaaaa") ≡ 1 ∷ 1 ∷ 1 ∷ 2 ∷ 2 ∷ 2 ∷ 2 ∷ 2 ∷ []
unfolding pattern_word is_kept is_node is_cut
aaab_lookups = refl

aaab_lookups_in : lookups_in (exact Standard (codes "aaab" ∷ [])) No (codes "aaaaaaaa") ≡ 13
unfolding pattern_word is_kept is_node is_cut
aaab_lookups_in = refl

anchored_lookups : lookups_of (exact Standard (codes "ab" ∷ [])) Yes (codes "aab") ≡ 1 ∷ 1 ∷ 1 ∷ []
unfolding pattern_word is_kept is_node is_cut
anchored_lookups = refl

anchored_lookups_in : lookups_in (exact Standard (codes "ab" ∷ [])) Yes (codes "aab") ≡ 3
unfolding pattern_word is_kept is_node is_cut
anchored_lookups_in = refl

-- ---- all occurrences

abbrev all_of : Patterns → List ℕ → List Occurrence
all_of p text = all_occurrences p text 0 (length text)

-- what an anchored overlapping search of a whole text lists
abbrev anchored_in : Patterns → List ℕ → List Occurrence
anchored_in p text = overlapping p (record { haystack = text; start = 0; end = length text; anchored = Yes; earliest = false })

append_all : all_of (exact Standard (codes "append" ∷ codes "appendage" ∷ codes "app" ∷ [])) (codes "append the app to the appendage")
    ≡ at 2 0 3 ∷ at 0 0 6 ∷ at 2 11 14 ∷ at 2 22 25 ∷ at 0 22 28 ∷ at 1 22 31 ∷ []
append_all = refl

empty_ab_all : all_of (exact Standard ([] ∷ codes "ab" ∷ [])) (codes "ab") ≡ at 0 0 0 ∷ at 0 1 1 ∷ at 1 0 2 ∷ at 0 2 2 ∷ []
empty_ab_all = refl

ab_twice_all : all_of (exact Standard (codes "ab" ∷ codes "ab" ∷ [])) (codes "ab") ≡ at 0 0 2 ∷ at 1 0 2 ∷ []
ab_twice_all = refl

empty_a_any_case_all : all_of (any_case Standard ([] ∷ codes "a" ∷ [])) (codes "A") ≡ at 0 0 0 ∷ at 1 0 1 ∷ at 0 1 1 ∷ []
empty_a_any_case_all = refl

apple_any_case_all : all_of (any_case Standard (codes "apple" ∷ codes "maple" ∷ codes "snapple" ∷ [])) (codes "Nobody likes maple in their apple flavored Snapple.")
    ≡ at 1 13 18 ∷ at 0 28 33 ∷ at 2 43 50 ∷ at 0 45 50 ∷ []
apple_any_case_all = refl

-- what lies across an end of the span does not occur in it
span_all : all_occurrences (exact Standard (codes "ab" ∷ codes "ba" ∷ [])) (codes "ababa") 1 4 ≡ at 1 1 3 ∷ at 0 2 4 ∷ []
span_all = refl

-- b ends where abc is begun, and the second b where nothing is
abc_b_anchored : anchored_in (exact Standard (codes "abc" ∷ codes "b" ∷ [])) (codes "abcb") ≡ at 1 1 2 ∷ at 0 0 3 ∷ []
unfolding pattern_word
abc_b_anchored = refl

empty_ab_anchored : anchored_in (exact Standard ([] ∷ codes "ab" ∷ [])) (codes "abx") ≡ at 0 0 0 ∷ at 0 1 1 ∷ at 1 0 2 ∷ at 0 2 2 ∷ []
unfolding pattern_word
empty_ab_anchored = refl

-- it is begun from the span's start on
span_anchored : overlapping (exact Standard (codes "ab" ∷ codes "ba" ∷ [])) (record { haystack = codes "ababa"; start = 1; end = 4; anchored = Yes; earliest = false }) ≡ at 1 1 3 ∷ []
unfolding pattern_word
span_anchored = refl

-- ---- replaced matches

fox_replaced : replaced (codes "The quick brown fox.") (at 2 4 9 ∷ at 1 10 15 ∷ at 0 16 19 ∷ []) (codes "sloth" ∷ codes "grey" ∷ codes "slow" ∷ []) ≡ codes "The slow grey sloth."
fox_replaced = refl

a_removed : replaced (codes "bab") (at 0 1 2 ∷ []) ([] ∷ []) ≡ codes "bb"
a_removed = refl

-- ---- bytes as they are compared: @ A Z [ a

folded_any_case : map (folded (any_case Standard [])) (64 ∷ 65 ∷ 90 ∷ 91 ∷ 97 ∷ []) ≡ 64 ∷ 97 ∷ 122 ∷ 91 ∷ 97 ∷ []
folded_any_case = refl

folded_exact : map (folded (exact Standard [])) (64 ∷ 65 ∷ 90 ∷ 91 ∷ 97 ∷ []) ≡ 64 ∷ 65 ∷ 90 ∷ 91 ∷ 97 ∷ []
folded_exact = refl

-- É is not é: only ASCII letters are the same in both cases
e_acute_any_case : is_same_word (any_case Standard []) (195 ∷ 137 ∷ []) (195 ∷ 169 ∷ []) ≡ false
e_acute_any_case = refl
