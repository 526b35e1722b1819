-- How many classes the borders of the kept patterns make, and how many states have rows.
use Rattle.std.proofs.Common.{◌≡◌, ℕ, zero, suc, ◌+◌, ◌*◌, ◌<◌, Bool, false, cond, List, [], ◌∷◌, length, drop, get_or, map, Option, Some, None, sym, ap, ◌∙◌, arith}
use Rattle.std.specs.List.{count_by, range_with_len}
use Rattle.std.proofs.lemmas.List.{get_or-drop, get_or-map, length-drop, length-map}
use Rattle.std.proofs.lemmas.List.FromFn.{get_or-range_with_len, length-range_with_len}
use Rattle.aho_core.specs.Patterns.{Patterns}
use Rattle.aho_table.specs.Alphabet.{class_count, is_border}
use Rattle.aho_table.specs.Table.{State, Tables, new_state, depth_in, transitions_count, matches_count}
use Rattle.aho_prefilter.specs.Prefilter.{prefilter_bytes}
use Rattle.aho_prefilter.specs.declared.prefilter.Searcher.{Searcher}
use Rattle.aho_build.specs.Automaton.{memory_for, memory_of}
use Rattle.aho_build.specs.Dense.{HasBorders, is_parted_among, classes_size, is_near, is_dense, rows_size, dense_count, dense_size, memory_size, row_start}
use Rattle.aho_build.specs.FirstStates.{root_id}
use Rattle.aho_build.specs.Prefilters.{held_by}
use Rattle.aho_build.specs.declared.settings.Settings.{Settings}
use Rattle.aho_build.specs.Sizes.{nodes, IsSized, states_size, transitions_size, matches_size}
use Rattle.aho_build.specs.Starts.{IsReady}
use Rattle.aho_build.specs.Trie.{names_before}
use Rattle.aho_build.proofs.KeptTransitions.{sum_by-places}

abbrev one_where : Bool → ℕ
one_where passes = cond passes 1 0

-- two lists of which the same places pass
count_by-places : {X Y : Type 0} (f : X → Bool) (g : Y → Bool) (xs : List X) (ys : List Y) (d : X) (e : Y) → length xs ≡ length ys
    → ((i : ℕ) → i < length xs → f (get_or xs i d) ≡ g (get_or ys i e)) → count_by f xs ≡ count_by g ys
count_by-places f g xs ys d e size each =
    let less = sum_by-places (λ x. cond (f x) 1 0) (λ y. cond (g y) 1 0) xs ys d e size (λ i below. omega (arith, ap one_where (each i below))) in
    let more = sum_by-places (λ y. cond (g y) 1 0) (λ x. cond (f x) 1 0) ys xs e d (sym size) (λ i below. omega (arith, ap one_where (each i (omega (arith, below, size))))) in
    omega (arith, less, more)

-- the classes are those of the kept patterns
pub class_count-of : (p : Patterns) (borders : List Bool) → length borders ≡ 255 → HasBorders p borders → class_count borders ≡ classes_size p
unfolding class_count
class_count-of p borders sized has = ap (λ (n : ℕ). n + 1) (counted 255 sized (λ i below. has i below))
  where
    counted : (n : ℕ) → length borders ≡ n → ((i : ℕ) → i < n → is_border borders i ≡ is_parted_among p (length p.words) i)
        → count_by (λ border. border) borders ≡ count_by (is_parted_among p (length p.words)) (range_with_len 0 n)
    counted n size each =
        count_by-places (λ border. border) (is_parted_among p (length p.words)) borders (range_with_len 0 n) false 0 (size ∙ sym (length-range_with_len 0 n))
        (λ i below.
        let inside : i < n = omega (arith, below, size) in
        let place : 0 + i ≡ i = omega arith in
        each i inside ∙ ap (is_parted_among p (length p.words)) (sym (get_or-range_with_len 0 n i 0 inside ∙ place)))

module _ (p : Patterns) (states : List State) (ready : IsReady p (names_before p (length p.words)) states) where
  abbrev words : List (List ℕ)
  words = [] ∷ [] ∷ nodes p

  states_length : length states ≡ 4 + length (nodes p)
  states_length = sym ready.trie.sized ∙ omega (arith, length-map (nodes p) (λ (word : List ℕ). Some word))

  -- each state behind DEAD and FAIL is as far from the start as its word is long
  depth_at : (i : ℕ) → i < 2 + length (nodes p) → depth_in states (2 + i) ≡ length (get_or words i [])
  depth_at zero below = ready.trie.depths root_id [] ready.trie.root
  depth_at (suc zero) below = ready.anchored.depth
  depth_at (suc (suc k)) below =
      let inside : k < length (nodes p) = omega arith in
      let place : 2 + suc (suc k) ≡ suc (suc (suc (suc k))) = omega arith in
      ap (depth_in states) place ∙ ready.trie.depths (suc (suc (suc (suc k)))) (get_or (nodes p) k []) (get_or-map (λ (w : List ℕ). Some w) (nodes p) k [] None inside)

  pub dense_count-of : (depth : ℕ) → dense_count depth states ≡ rows_size depth p
  dense_count-of depth =
      count_by-places (is_dense depth) (λ (word : List ℕ). is_near depth (length word)) (drop 2 states) words (new_state 0) []
      (length-drop 2 states ∙ omega (arith, states_length))
      (λ i below.
      let inside : i < 2 + length (nodes p) = omega (arith, below, length-drop 2 states, states_length) in
      ap (is_dense depth) (get_or-drop 2 states i (new_state 0)) ∙ ap (is_near depth) (depth_at i inside))

  -- so the rows are those of the patterns
  module _ (borders : List Bool) (sized : length borders ≡ 255) (has : HasBorders p borders) where
    pub row_start-of : (row : ℕ) → row_start borders row ≡ row * classes_size p + 1
    row_start-of row = ap (λ (n : ℕ). row * n + 1) (class_count-of p borders sized has)

    pub dense_size-of : (depth : ℕ) → row_start borders (dense_count depth states) ≡ dense_size depth p
    dense_size-of depth = row_start-of (dense_count depth states) ∙ ap (λ (n : ℕ). n * classes_size p + 1) (dense_count-of depth)

-- the bytes of the tables of an automaton of the patterns
pub memory_of-sized : (depth : ℕ) (p : Patterns) (table : Tables) (lengths : List ℕ) → IsSized p table.states → table.dense_len ≡ dense_size depth p → length lengths ≡ length p.words
    → memory_of table lengths ≡ memory_size depth p
memory_of-sized depth p table lengths sized dense same =
    ap (λ (n : ℕ). 20 * n + 9 * transitions_count table.states + 8 * matches_count table.states + 4 * table.dense_len + 4 * length lengths) sized.state_count
    ∙ ap (λ (n : ℕ). 20 * states_size p + 9 * n + 8 * matches_count table.states + 4 * table.dense_len + 4 * length lengths) sized.transitions
    ∙ ap (λ (n : ℕ). 20 * states_size p + 9 * transitions_size p + 8 * n + 4 * table.dense_len + 4 * length lengths) sized.matches
    ∙ ap (λ (n : ℕ). 20 * states_size p + 9 * transitions_size p + 8 * matches_size p + 4 * n + 4 * length lengths) dense
    ∙ ap (λ (n : ℕ). 20 * states_size p + 9 * transitions_size p + 8 * matches_size p + 4 * dense_size depth p + 4 * n) same

-- and of that automaton as a whole
pub memory_for-sized : (settings : Settings) (p : Patterns) (table : Tables) (lengths : List ℕ) (held : Option Searcher) → IsSized p table.states
    → table.dense_len ≡ dense_size settings.dense_depth p → lengths ≡ map length p.words → held ≡ held_by settings p → memory_of table lengths + prefilter_bytes held ≡ memory_for settings p
unfolding memory_for
memory_for-sized settings p table lengths held sized dense same held_is =
    ap (λ (n : ℕ). n + prefilter_bytes held) (memory_of-sized settings.dense_depth p table lengths sized dense (ap length same ∙ length-map p.words length))
    ∙ ap (λ (searcher : Option Searcher). memory_size settings.dense_depth p + prefilter_bytes searcher) held_is
