-- The definitions of states, failure links, lists and look-ups beside a literal reading of each, at every short word.
use Rattle.std.specs.Prelude.{◌≡◌, ℕ, zero, suc, ◌+◌, ◌-◌, Bool, true, false, ◌&&◌, nat_eq, List, [], ◌∷◌, ◌++◌, length, flat_map, drop, find, bytes_eq, codes, Option, Some, None, unwrap_or, refl, if◌then◌else◌}
use Rattle.std.specs.List.{list_any, list_all, range_with_len}
use Rattle.aho_core.specs.declared.search.Anchored.TheVariants.{No}
use Rattle.aho_core.specs.declared.search.MatchKind.{MatchKind}
use Rattle.aho_core.specs.declared.search.MatchKind.TheVariants.{Standard, LeftmostFirst, LeftmostLongest}
use Rattle.aho_core.specs.Failure.{is_leftmost, is_cut, state_after, failure_of}
use Rattle.aho_core.specs.MatchList.{own_matches, matches_of_word}
use Rattle.aho_core.specs.Patterns.{Patterns, numbers}
use Rattle.aho_core.specs.Step.{lookups}
use Rattle.aho_core.specs.Trie.{is_kept, is_node, pattern_word, begins}
use Rattle.aho_laws.proofs.LawTests.{is_same_state, words_up_to}

-- ---- the literal readings

-- the word itself and each that it ends with, longest first
abbrev suffixes : List ℕ → List (List ℕ)
suffixes [] = [] ∷ []
suffixes (x ∷ word) = (x ∷ word) ∷ suffixes word

abbrev literal_longest_node : Patterns → List ℕ → List ℕ
literal_longest_node p word = unwrap_or (find (is_node p) (suffixes word)) []

-- whether a pattern occurs in the word at a start below a place
abbrev occurs_below : Patterns → List ℕ → ℕ → Bool
occurs_below p word place = list_any (λ start. list_any (λ k. begins (pattern_word p k) (drop start word)) (numbers p)) (range_with_len 0 place)

-- a suffix of the word, or dead where the kind is leftmost and a pattern occurs at a start below the suffix's
abbrev unless_below : Patterns → List ℕ → List ℕ → Option (List ℕ)
unless_below p word suffix = if is_leftmost p.kind && occurs_below p word (length word - length suffix) then None else Some suffix

-- the longest suffix that is a node
abbrev literal_state : Patterns → List ℕ → Option (List ℕ)
literal_state p word = unless_below p word (literal_longest_node p word)

-- the longest proper suffix that is a node
abbrev literal_failure : Patterns → List ℕ → Option (List ℕ)
literal_failure p word = unless_below p word (literal_longest_node p (drop 1 word))

-- Standard: a node's own patterns and then those of its failure link; leftmost kinds: the link's where there are no own ones
abbrev joined_lists : MatchKind → List ℕ → List ℕ → List ℕ
joined_lists Standard own linked = own ++ linked
joined_lists LeftmostFirst [] linked = linked
joined_lists LeftmostFirst (k ∷ own) linked = k ∷ own
joined_lists LeftmostLongest [] linked = linked
joined_lists LeftmostLongest (k ∷ own) linked = k ∷ own

-- the list of a node, by its failure links; the first number is how many links are followed at most
abbrev literal_list : ℕ → Patterns → Option (List ℕ) → List ℕ
literal_list links p None = []
literal_list links p (Some []) = own_matches p []
literal_list zero p (Some (x ∷ word)) = own_matches p (x ∷ word)
literal_list (suc links) p (Some (x ∷ word)) = joined_lists p.kind (own_matches p (x ∷ word)) (literal_list links p (literal_failure p (x ∷ word)))

-- the look-ups of a step, by walking the links until a state takes the byte
abbrev literal_lookups : ℕ → Patterns → ℕ → Option (List ℕ) → ℕ
literal_lookups links p byte None = 1
literal_lookups links p byte (Some []) = 1
literal_lookups zero p byte (Some (x ∷ word)) = 1
literal_lookups (suc links) p byte (Some (x ∷ word)) =
    if is_node p (x ∷ word ++ byte ∷ []) then 1 else 1 + literal_lookups links p byte (literal_failure p (x ∷ word))

-- ---- where a reading differs

pub data Reading : Type 0 where
  states : Reading
  failure_links : Reading
  lists : Reading
  look_ups : Reading

pub record Differs : Type 0 where
  pub reading : Reading
  pub kind : MatchKind
  pub word : List ℕ

abbrev unless : Bool → Reading → Patterns → List ℕ → List Differs
unless true reading p word = []
unless false reading p word = (record { reading = reading; kind = p.kind; word = word }) ∷ []

-- at a nonempty node
abbrev differing_at : List ℕ → Patterns → List ℕ → Bool → List Differs
differing_at alphabet p word false = []
differing_at alphabet p word true =
    unless (is_same_state (failure_of p word) (literal_failure p word)) failure_links p word
    ++ unless (bytes_eq (matches_of_word p word) (literal_list (length word) p (Some word))) lists p word
    ++ unless (list_all (λ x. nat_eq (lookups p No (Some word) x) (literal_lookups (length word) p x (Some word))) alphabet) look_ups p word

abbrev is_nonempty_node : Patterns → List ℕ → Bool
is_nonempty_node p [] = false
is_nonempty_node p (x ∷ word) = is_node p (x ∷ word)

abbrev differing_for : ℕ → List ℕ → Patterns → List Differs
differing_for size alphabet p =
    flat_map (λ w. unless (is_same_state (state_after p w) (literal_state p w)) states p w ++ differing_at alphabet p w (is_nonempty_node p w)) (words_up_to size alphabet)

-- the readings that differ, for the three kinds, at the words over an alphabet up to a length
abbrev differing : ℕ → List ℕ → Bool → List (List ℕ) → List Differs
differing size alphabet ignore_case words =
    flat_map (λ kind. differing_for size alphabet (record { words = words; kind = kind; ignore_case = ignore_case })) (Standard ∷ LeftmostFirst ∷ LeftmostLongest ∷ [])

-- ---- the checks

no_patterns : differing 5 (codes "ab") false ([]) ≡ []
unfolding pattern_word is_kept is_node is_cut own_matches
no_patterns = refl

the_empty_pattern_first : differing 5 (codes "ab") false ([] ∷ codes "ab" ∷ codes "b" ∷ []) ≡ []
unfolding pattern_word is_kept is_node is_cut own_matches
the_empty_pattern_first = refl

the_empty_pattern_between : differing 5 (codes "ab") false (codes "ab" ∷ [] ∷ codes "aab" ∷ codes "b" ∷ []) ≡ []
unfolding pattern_word is_kept is_node is_cut own_matches
the_empty_pattern_between = refl

the_empty_pattern_last : differing 5 (codes "ab") false (codes "abab" ∷ codes "aab" ∷ codes "b" ∷ [] ∷ []) ≡ []
unfolding pattern_word is_kept is_node is_cut own_matches
the_empty_pattern_last = refl

repeated_patterns : differing 5 (codes "ab") false (codes "aab" ∷ codes "aa" ∷ codes "abab" ∷ codes "a" ∷ codes "aa" ∷ []) ≡ []
unfolding pattern_word is_kept is_node is_cut own_matches
repeated_patterns = refl

one_begins_another : differing 5 (codes "ab") false (codes "ba" ∷ codes "bab" ∷ codes "babb" ∷ codes "b" ∷ []) ≡ []
unfolding pattern_word is_kept is_node is_cut own_matches
one_begins_another = refl

one_ends_another : differing 5 (codes "ab") false (codes "b" ∷ codes "baab" ∷ codes "aab" ∷ codes "ab" ∷ []) ≡ []
unfolding pattern_word is_kept is_node is_cut own_matches
one_ends_another = refl

one_lies_inside_another : differing 5 (codes "ab") false (codes "babba" ∷ codes "bb" ∷ codes "abb" ∷ []) ≡ []
unfolding pattern_word is_kept is_node is_cut own_matches
one_lies_inside_another = refl

each_end_begins_another : differing 5 (codes "ab") false (codes "aab" ∷ codes "abb" ∷ codes "bba" ∷ codes "baa" ∷ []) ≡ []
unfolding pattern_word is_kept is_node is_cut own_matches
each_end_begins_another = refl

long_ones_that_repeat_themselves : differing 5 (codes "ab") false (codes "baba" ∷ codes "aaab" ∷ codes "aba" ∷ codes "aaa" ∷ []) ≡ []
unfolding pattern_word is_kept is_node is_cut own_matches
long_ones_that_repeat_themselves = refl

links_through_three_patterns : differing 4 (codes "abc") false (codes "abc" ∷ codes "b" ∷ codes "bca" ∷ codes "ca" ∷ []) ≡ []
unfolding pattern_word is_kept is_node is_cut own_matches
links_through_three_patterns = refl

links_past_repeated_patterns : differing 4 (codes "abc") false (codes "aac" ∷ codes "aa" ∷ codes "acab" ∷ codes "a" ∷ codes "aa" ∷ []) ≡ []
unfolding pattern_word is_kept is_node is_cut own_matches
links_past_repeated_patterns = refl

equal_under_the_case_rule : differing 5 (codes "ab") true (codes "aB" ∷ codes "Ab" ∷ codes "BA" ∷ codes "bAb" ∷ []) ≡ []
unfolding pattern_word is_kept is_node is_cut own_matches
equal_under_the_case_rule = refl
