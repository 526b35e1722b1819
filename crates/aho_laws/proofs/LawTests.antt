-- The laws of an automaton as tests, and the short words at which some patterns break one.
use Rattle.std.specs.Prelude.{ℕ, zero, suc, ◌+◌, Bool, true, false, not, ◌&&◌, ◌||◌, nat_eq, nat_lt, nat_le, List, [], ◌∷◌, ◌++◌, length, map, filter, flat_map, bytes_eq, Option, Some, None, is_none, if◌then◌else◌, slice_index}
use Rattle.std.specs.Bool.{beq}
use Rattle.std.specs.List.{list_all, list_any, reduce}
use Rattle.std.specs.Option.{option_eq}
use Rattle.aho_core.specs.declared.search.Anchored.{Anchored}
use Rattle.aho_core.specs.declared.search.Anchored.TheVariants.{No, Yes}
use Rattle.aho_core.specs.declared.search.MatchKind.{MatchKind}
use Rattle.aho_core.specs.declared.search.MatchKind.TheVariants.{Standard, LeftmostFirst, LeftmostLongest}
use Rattle.aho_core.specs.Bytes.{folded, folded_word}
use Rattle.aho_core.specs.Failure.{is_leftmost}
use Rattle.aho_core.specs.Held.{held_after}
use Rattle.aho_core.specs.Laws.{told, better, longest, patterns_ending}
use Rattle.aho_core.specs.MatchList.{matches_of}
use Rattle.aho_core.specs.Occurrence.{Occurrence}
use Rattle.aho_core.specs.Overlapping.{all_occurrences, begins_some}
use Rattle.aho_core.specs.Patterns.{Patterns}
use Rattle.aho_core.specs.Step.{follow, lookups, depth_of}
use Rattle.aho_core.specs.Trie.{is_node}

-- ---- the best, by comparing all

-- the smaller decides, and at a tie the rest
abbrev less_or : ℕ → ℕ → Bool → Bool
less_or x y rest = nat_lt x y || (nat_eq x y && rest)

-- the test of `IsBefore`
abbrev is_before : MatchKind → Occurrence → Occurrence → Bool
is_before Standard x y = less_or x.end y.end (less_or x.start y.start (nat_lt x.pattern y.pattern))
is_before LeftmostFirst x y = less_or x.start y.start (nat_lt x.pattern y.pattern)
is_before LeftmostLongest x y = less_or x.start y.start (less_or y.end x.end (nat_lt x.pattern y.pattern))

abbrev best_of : MatchKind → List Occurrence → Option Occurrence
best_of kind all = reduce (λ x y. if is_before kind y x then y else x) all

-- those that an anchored search from the word's start admits
abbrev admitted : Anchored → List Occurrence → List Occurrence
admitted No all = all
admitted Yes all = filter (λ m. nat_eq m.start 0) all

-- what is seen of a search after some bytes
pub record Seen : Type 0 where
  pub best : Option Occurrence
  pub state : Option (List ℕ)

abbrev seen : Patterns → Anchored → List ℕ → List Occurrence → Seen
seen p anchored word all = record { best = best_of p.kind (admitted anchored all); state = held_after p anchored word }

-- ---- equal values

abbrev is_same_occurrence : Occurrence → Occurrence → Bool
is_same_occurrence x y = nat_eq x.pattern y.pattern && (nat_eq x.start y.start && nat_eq x.end y.end)

abbrev is_same_best : Option Occurrence → Option Occurrence → Bool
is_same_best x y = option_eq is_same_occurrence x y

abbrev pub is_same_state : Option (List ℕ) → Option (List ℕ) → Bool
is_same_state x y = option_eq bytes_eq x y

abbrev is_root : Option (List ℕ) → Bool
is_root None = false
is_root (Some []) = true
is_root (Some (x ∷ word)) = false

-- ---- the laws of a search, each a test

-- each pattern listed is there, and no longer than what was read
abbrev fits : Patterns → List ℕ → List ℕ → Bool
fits p word list = list_all (λ k. nat_lt k (length p.words) && nat_le (slice_index (map length p.words) k) (length word)) list

-- before the first byte the first pattern listed is the best
abbrev is_best_at_start : Patterns → Anchored → Seen → Bool
is_best_at_start p anchored start = is_same_best start.best (told (map length p.words) anchored 0 0 (matches_of p start.state))

-- after one more byte the best is made of the best before it and of the first pattern listed
abbrev is_best_after : Patterns → Anchored → List ℕ → Seen → Seen → Bool
is_best_after p anchored word before after =
    is_same_best after.best (better p.kind before.best (told (map length p.words) anchored 0 (length word) (matches_of p after.state)))

-- the dead state lists nothing and stays, and so does the best
abbrev is_final : Patterns → Seen → Seen → Bool
is_final p before after =
    not (is_none before.state) || (is_none after.state && (bytes_eq (matches_of p before.state) [] && is_same_best after.best before.best))

-- a step from the state that is held leads to the state that is held then
abbrev leads_on : Patterns → Anchored → ℕ → Seen → Seen → Bool
leads_on p anchored byte before after = is_same_state (follow p anchored before.state (folded p byte)) after.state

-- a step looks at one state more than the levels that it falls
abbrev is_paid : Patterns → Anchored → ℕ → Seen → Seen → Bool
is_paid p anchored byte before after = nat_le (lookups p anchored before.state (folded p byte) + depth_of after.state) (depth_of before.state + 2)

-- ---- the laws of a word, each a test

-- Standard: a state lists the patterns that end the word
abbrev lists_suffixes : MatchKind → Patterns → List ℕ → Option (List ℕ) → Bool
lists_suffixes Standard p word state = bytes_eq (matches_of p state) (patterns_ending p word)
lists_suffixes LeftmostFirst p word state = true
lists_suffixes LeftmostLongest p word state = true

-- Standard: so does the state of an anchored search that is not dead; past the start it is dead exactly where the word begins
-- no pattern
abbrev lists_anchored : MatchKind → Patterns → List ℕ → Option (List ℕ) → Bool
lists_anchored Standard p [] state = not (is_none state) && bytes_eq (matches_of p state) (patterns_ending p [])
lists_anchored Standard p (x ∷ word) None = not (begins_some p (x ∷ word))
lists_anchored Standard p (x ∷ word) (Some state) = begins_some p (x ∷ word) && bytes_eq (matches_of p (Some state)) (patterns_ending p (x ∷ word))
lists_anchored LeftmostFirst p word state = true
lists_anchored LeftmostLongest p word state = true

-- the length of the longest suffix that is a node
abbrev longest_node_size : Patterns → List ℕ → ℕ
longest_node_size p [] = 0
longest_node_size p (x ∷ word) = if is_node p (x ∷ word) then suc (length word) else longest_node_size p word

-- leftmost kinds: dead exactly where a pattern occurs at a start before the longest suffix that is a node
abbrev dies_by_start : Patterns → List ℕ → List Occurrence → Option (List ℕ) → Bool
dies_by_start p word all state =
    beq (is_none state) (is_leftmost p.kind && list_any (λ (m : Occurrence). nat_lt (m.start + longest_node_size p (folded_word p word)) (length word)) all)

-- leftmost kinds: what is found before the dead state starts at most the longest pattern before the place
abbrev is_near : Patterns → List ℕ → Option Occurrence → Option (List ℕ) → Bool
is_near p word None state = true
is_near p word (Some m) None = true
is_near p word (Some m) (Some state) = not (is_leftmost p.kind) || nat_le (length word) (m.start + longest (map length p.words))

-- where the root was held, what ends later starts there or later
abbrev is_apart : List ℕ → Occurrence → Bool
is_apart roots m = list_all (λ place. nat_le m.end place || nat_le place m.start) roots

-- ---- where a law is broken

pub data Law : Type 0 where
  first_is_best_at_start : Law
  first_is_best : Law
  dead_is_final : Law
  steps_lead_on : Law
  lookups_are_paid : Law
  lists_fit : Law
  lists_are_suffixes : Law
  anchored_lists_are_suffixes : Law
  dead_by_an_earlier_start : Law
  starts_are_near : Law
  roots_part_the_word : Law

pub record Broken : Type 0 where
  pub law : Law
  pub kind : MatchKind
  pub anchored : Anchored
  pub word : List ℕ

abbrev unless : Bool → Law → Patterns → Anchored → List ℕ → List Broken
unless true law p anchored word = []
unless false law p anchored word = (record { law = law; kind = p.kind; anchored = anchored; word = word }) ∷ []

-- by a search at the last byte of a word
abbrev broken_by : Patterns → Anchored → List ℕ → ℕ → Seen → Seen → List Broken
broken_by p anchored word byte before after =
    unless (is_best_after p anchored word before after) first_is_best p anchored word
    ++ unless (is_final p before after) dead_is_final p anchored word
    ++ unless (leads_on p anchored byte before after) steps_lead_on p anchored word
    ++ unless (is_paid p anchored byte before after) lookups_are_paid p anchored word
    ++ unless (fits p word (matches_of p after.state)) lists_fit p anchored word

-- after a word
abbrev broken_after : Patterns → List ℕ → List ℕ → List Occurrence → Seen → Seen → List Broken
broken_after p word roots all unanchored anchored =
    unless (lists_suffixes p.kind p word unanchored.state) lists_are_suffixes p No word
    ++ unless (lists_anchored p.kind p word anchored.state) anchored_lists_are_suffixes p Yes word
    ++ unless (dies_by_start p word all unanchored.state) dead_by_an_earlier_start p No word
    ++ unless (is_near p word unanchored.best unanchored.state) starts_are_near p No word
    ++ unless (list_all (is_apart roots) all) roots_part_the_word p No word

-- the places where the root is held, with the word's end
abbrev roots_after : List ℕ → Option (List ℕ) → List ℕ → List ℕ
roots_after word state roots = if is_root state then length word ∷ roots else roots

-- at a word, and by what goes on from it
abbrev broken_at : Patterns → (List ℕ → List ℕ → Seen → Seen → List Broken) → List ℕ → ℕ → List ℕ → List Occurrence → Seen → Seen → Seen → Seen → List Broken
broken_at p go_on word byte roots all unanchored anchored unanchored_after anchored_after =
    broken_by p No word byte unanchored unanchored_after
    ++ broken_by p Yes word byte anchored anchored_after
    ++ broken_after p word roots all unanchored_after anchored_after
    ++ go_on word (roots_after word unanchored_after.state roots) unanchored_after anchored_after

abbrev broken_with : Patterns → (List ℕ → List ℕ → Seen → Seen → List Broken) → List ℕ → ℕ → List ℕ → List Occurrence → Seen → Seen → List Broken
broken_with p go_on word byte roots all unanchored anchored =
    broken_at p go_on word byte roots all unanchored anchored (seen p No word all) (seen p Yes word all)

-- from a word on, by up to so many bytes
abbrev broken_from : ℕ → List ℕ → Patterns → List ℕ → List ℕ → Seen → Seen → List Broken
broken_from zero alphabet p word roots unanchored anchored = []
broken_from (suc n) alphabet p word roots unanchored anchored =
    flat_map (λ byte. broken_with p (broken_from n alphabet p) (word ++ byte ∷ []) byte roots (all_occurrences p (word ++ byte ∷ []) 0 (length word + 1)) unanchored anchored) alphabet

abbrev broken_by_all : ℕ → List ℕ → Patterns → Seen → Seen → List Broken
broken_by_all size alphabet p unanchored anchored =
    unless (is_best_at_start p No unanchored) first_is_best_at_start p No []
    ++ unless (is_best_at_start p Yes anchored) first_is_best_at_start p Yes []
    ++ broken_after p [] [] (all_occurrences p [] 0 0) unanchored anchored
    ++ broken_from size alphabet p [] (roots_after [] unanchored.state []) unanchored anchored

abbrev broken_for : ℕ → List ℕ → Patterns → List Broken
broken_for size alphabet p = broken_by_all size alphabet p (seen p No [] (all_occurrences p [] 0 0)) (seen p Yes [] (all_occurrences p [] 0 0))

-- all words over an alphabet, up to a length
abbrev pub words_up_to : ℕ → List ℕ → List (List ℕ)
words_up_to zero alphabet = [] ∷ []
words_up_to (suc n) alphabet = [] ∷ flat_map (λ w. map (λ x. x ∷ w) alphabet) (words_up_to n alphabet)

-- the laws that patterns break, for the three kinds, at the words over an alphabet up to a length
abbrev pub broken : ℕ → List ℕ → Bool → List (List ℕ) → List Broken
broken size alphabet ignore_case words =
    flat_map (λ kind. broken_for size alphabet (record { words = words; kind = kind; ignore_case = ignore_case })) (Standard ∷ LeftmostFirst ∷ LeftmostLongest ∷ [])
