-- The laws of an automaton hold of the definitions for every list of two patterns of up to three letters, and of three
-- patterns of up to two. There are two letters; one list stands for the one with the letters exchanged.
use Rattle.std.specs.Prelude.{◌≡◌, ℕ, true, false, List, [], ◌∷◌, flat_map, codes, refl}
use Rattle.aho_core.specs.Failure.{is_cut}
use Rattle.aho_core.specs.MatchList.{own_matches}
use Rattle.aho_core.specs.Trie.{is_kept, is_node, pattern_word}
use Rattle.aho_laws.proofs.LawTests.{Broken, broken, words_up_to}

-- what a pattern breaks before each pattern of up to three letters
abbrev broken_before_another : List ℕ → List Broken
broken_before_another first = flat_map (λ second. broken 4 (codes "ab") false (first ∷ second ∷ [])) (words_up_to 3 (codes "ab"))

-- what two patterns break before each pattern of up to two letters
abbrev broken_before_last : List ℕ → List ℕ → List Broken
broken_before_last first second = flat_map (λ third. broken 3 (codes "ab") false (first ∷ second ∷ third ∷ [])) (words_up_to 2 (codes "ab"))

abbrev broken_before_two : List ℕ → List Broken
broken_before_two first = flat_map (broken_before_last first) (words_up_to 2 (codes "ab"))

-- what a pattern breaks before each pattern of up to two letters of both cases, under the case rule
abbrev broken_in_any_case : List ℕ → List Broken
broken_in_any_case first = flat_map (λ second. broken 4 (codes "aA") true (first ∷ second ∷ [])) (words_up_to 2 (codes "aA"))

the_empty_pattern_before_another : broken_before_another [] ≡ []
unfolding pattern_word is_kept is_node is_cut own_matches
the_empty_pattern_before_another = refl

a_before_another : broken_before_another (codes "a") ≡ []
unfolding pattern_word is_kept is_node is_cut own_matches
a_before_another = refl

aa_before_another : broken_before_another (codes "aa") ≡ []
unfolding pattern_word is_kept is_node is_cut own_matches
aa_before_another = refl

ab_before_another : broken_before_another (codes "ab") ≡ []
unfolding pattern_word is_kept is_node is_cut own_matches
ab_before_another = refl

aaa_before_another : broken_before_another (codes "aaa") ≡ []
unfolding pattern_word is_kept is_node is_cut own_matches
aaa_before_another = refl

aab_before_another : broken_before_another (codes "aab") ≡ []
unfolding pattern_word is_kept is_node is_cut own_matches
aab_before_another = refl

aba_before_another : broken_before_another (codes "aba") ≡ []
unfolding pattern_word is_kept is_node is_cut own_matches
aba_before_another = refl

abb_before_another : broken_before_another (codes "abb") ≡ []
unfolding pattern_word is_kept is_node is_cut own_matches
abb_before_another = refl

the_empty_pattern_before_two : broken_before_two [] ≡ []
unfolding pattern_word is_kept is_node is_cut own_matches
the_empty_pattern_before_two = refl

a_before_two : broken_before_two (codes "a") ≡ []
unfolding pattern_word is_kept is_node is_cut own_matches
a_before_two = refl

aa_before_two : broken_before_two (codes "aa") ≡ []
unfolding pattern_word is_kept is_node is_cut own_matches
aa_before_two = refl

ab_before_two : broken_before_two (codes "ab") ≡ []
unfolding pattern_word is_kept is_node is_cut own_matches
ab_before_two = refl

the_empty_pattern_in_any_case : broken_in_any_case [] ≡ []
unfolding pattern_word is_kept is_node is_cut own_matches
the_empty_pattern_in_any_case = refl

a_in_any_case : broken_in_any_case (codes "a") ≡ []
unfolding pattern_word is_kept is_node is_cut own_matches
a_in_any_case = refl

aa_in_any_case : broken_in_any_case (codes "aa") ≡ []
unfolding pattern_word is_kept is_node is_cut own_matches
aa_in_any_case = refl

aA_in_any_case : broken_in_any_case (codes "aA") ≡ []
unfolding pattern_word is_kept is_node is_cut own_matches
aA_in_any_case = refl
