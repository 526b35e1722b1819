-- The laws of an automaton hold of the definitions at every short word over two or three letters, for the three kinds and
-- the lists of patterns that make trouble.
use Rattle.std.specs.Prelude.{◌≡◌, true, false, [], ◌∷◌, codes, refl}
use Rattle.aho_core.specs.Failure.{is_cut}
use Rattle.aho_core.specs.MatchList.{own_matches}
use Rattle.aho_core.specs.Trie.{is_kept, is_node, pattern_word}
use Rattle.aho_laws.proofs.LawTests.{broken}

no_patterns : broken 5 (codes "ab") false ([]) ≡ []
unfolding pattern_word is_kept is_node is_cut own_matches
no_patterns = refl

the_empty_pattern_alone : broken 5 (codes "ab") false ([] ∷ []) ≡ []
unfolding pattern_word is_kept is_node is_cut own_matches
the_empty_pattern_alone = refl

the_empty_pattern_first : broken 5 (codes "ab") false ([] ∷ codes "ab" ∷ codes "b" ∷ []) ≡ []
unfolding pattern_word is_kept is_node is_cut own_matches
the_empty_pattern_first = refl

the_empty_pattern_last : broken 5 (codes "ab") false (codes "ab" ∷ codes "aab" ∷ codes "b" ∷ [] ∷ []) ≡ []
unfolding pattern_word is_kept is_node is_cut own_matches
the_empty_pattern_last = refl

the_empty_pattern_between : broken 5 (codes "ab") false (codes "ab" ∷ [] ∷ codes "aab" ∷ codes "b" ∷ []) ≡ []
unfolding pattern_word is_kept is_node is_cut own_matches
the_empty_pattern_between = refl

the_empty_pattern_twice : broken 5 (codes "ab") false ([] ∷ codes "ab" ∷ [] ∷ codes "a" ∷ []) ≡ []
unfolding pattern_word is_kept is_node is_cut own_matches
the_empty_pattern_twice = refl

the_empty_pattern_behind_a_long_one : broken 5 (codes "ab") false (codes "aaab" ∷ [] ∷ codes "bb" ∷ codes "baaa" ∷ []) ≡ []
unfolding pattern_word is_kept is_node is_cut own_matches
the_empty_pattern_behind_a_long_one = refl

repeated_patterns : broken 5 (codes "ab") false (codes "aab" ∷ codes "aa" ∷ codes "abab" ∷ codes "a" ∷ codes "aa" ∷ []) ≡ []
unfolding pattern_word is_kept is_node is_cut own_matches
repeated_patterns = refl

repeated_around_others : broken 5 (codes "ab") false (codes "ab" ∷ codes "a" ∷ codes "b" ∷ codes "a" ∷ [] ∷ []) ≡ []
unfolding pattern_word is_kept is_node is_cut own_matches
repeated_around_others = refl

one_begins_another : broken 5 (codes "ab") false (codes "ba" ∷ codes "bab" ∷ codes "b" ∷ []) ≡ []
unfolding pattern_word is_kept is_node is_cut own_matches
one_begins_another = refl

one_is_begun_by_a_later_one : broken 5 (codes "ab") false (codes "baba" ∷ codes "bab" ∷ codes "b" ∷ codes "ba" ∷ []) ≡ []
unfolding pattern_word is_kept is_node is_cut own_matches
one_is_begun_by_a_later_one = refl

one_ends_another : broken 5 (codes "ab") false (codes "b" ∷ codes "baab" ∷ codes "aab" ∷ codes "ab" ∷ []) ≡ []
unfolding pattern_word is_kept is_node is_cut own_matches
one_ends_another = refl

one_ends_an_earlier_one : broken 5 (codes "ab") false (codes "bbaa" ∷ codes "baa" ∷ codes "aa" ∷ codes "a" ∷ []) ≡ []
unfolding pattern_word is_kept is_node is_cut own_matches
one_ends_an_earlier_one = refl

one_lies_inside_another : broken 5 (codes "ab") false (codes "abba" ∷ codes "bb" ∷ codes "aabb" ∷ []) ≡ []
unfolding pattern_word is_kept is_node is_cut own_matches
one_lies_inside_another = refl

one_lies_at_both_ends_of_another : broken 5 (codes "ab") false (codes "aba" ∷ codes "a" ∷ codes "abaa" ∷ []) ≡ []
unfolding pattern_word is_kept is_node is_cut own_matches
one_lies_at_both_ends_of_another = refl

each_end_begins_another : broken 5 (codes "ab") false (codes "aab" ∷ codes "abb" ∷ codes "bba" ∷ codes "baa" ∷ []) ≡ []
unfolding pattern_word is_kept is_node is_cut own_matches
each_end_begins_another = refl

all_of_one_letter : broken 5 (codes "ab") false (codes "aaa" ∷ codes "a" ∷ codes "aaaa" ∷ codes "aa" ∷ []) ≡ []
unfolding pattern_word is_kept is_node is_cut own_matches
all_of_one_letter = refl

long_ones_that_repeat_themselves : broken 5 (codes "ab") false (codes "baba" ∷ codes "aaab" ∷ codes "aba" ∷ codes "aaa" ∷ []) ≡ []
unfolding pattern_word is_kept is_node is_cut own_matches
long_ones_that_repeat_themselves = refl

all_of_one_length : broken 5 (codes "ab") false (codes "bb" ∷ codes "ab" ∷ codes "ba" ∷ codes "aa" ∷ []) ≡ []
unfolding pattern_word is_kept is_node is_cut own_matches
all_of_one_length = refl

a_letter_of_no_pattern : broken 5 (codes "ax") false (codes "aa" ∷ codes "aaa" ∷ []) ≡ []
unfolding pattern_word is_kept is_node is_cut own_matches
a_letter_of_no_pattern = refl

three_letters : broken 4 (codes "abc") false (codes "abc" ∷ codes "b" ∷ codes "bca" ∷ codes "ca" ∷ []) ≡ []
unfolding pattern_word is_kept is_node is_cut own_matches
three_letters = refl

three_letters_and_the_empty_pattern : broken 4 (codes "abc") false (codes "ac" ∷ codes "bca" ∷ [] ∷ codes "cab" ∷ []) ≡ []
unfolding pattern_word is_kept is_node is_cut own_matches
three_letters_and_the_empty_pattern = refl

both_cases_of_a_letter : broken 5 (codes "aA") true (codes "aA" ∷ codes "A" ∷ codes "aaa" ∷ codes "Aa" ∷ []) ≡ []
unfolding pattern_word is_kept is_node is_cut own_matches
both_cases_of_a_letter = refl

both_cases_without_the_case_rule : broken 5 (codes "aA") false (codes "aA" ∷ codes "A" ∷ codes "aaa" ∷ codes "Aa" ∷ []) ≡ []
unfolding pattern_word is_kept is_node is_cut own_matches
both_cases_without_the_case_rule = refl

equal_under_the_case_rule : broken 5 (codes "Ab") true (codes "aB" ∷ codes "Ab" ∷ codes "b" ∷ codes "BA" ∷ []) ≡ []
unfolding pattern_word is_kept is_node is_cut own_matches
equal_under_the_case_rule = refl

begun_under_the_case_rule : broken 5 (codes "aB") true (codes "BA" ∷ codes "B" ∷ codes "baAa" ∷ codes "BaB" ∷ []) ≡ []
unfolding pattern_word is_kept is_node is_cut own_matches
begun_under_the_case_rule = refl

both_cases_beside_another_letter : broken 4 (codes "aAb") true (codes "Ab" ∷ codes "aab" ∷ [] ∷ codes "B" ∷ []) ≡ []
unfolding pattern_word is_kept is_node is_cut own_matches
both_cases_beside_another_letter = refl
