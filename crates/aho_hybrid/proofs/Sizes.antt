-- The sizes of what is laid out, and which refusal they come to.
use Rattle.std.proofs.Common.{◌≡◌, ℕ, zero, suc, ◌+◌, ◌-◌, ◌^◌, ◌<◌, ◌≤◌, true, false, List, [], ◌∷◌, length, map, nat_eq, refl, sym, ap, ◌∙◌, inl, inr, arith}
use Rattle.std.proofs.Math.Nat.{min-eq_left, min-eq_right}
use Rattle.std.proofs.lemmas.Bool.{cases_eq, cases_lt, cond-false, cond-true, eq-eqb, le-ltb, lt-ltb, ne_eqb}
use Rattle.std.proofs.lemmas.List.FromFn.{map-range_with_len_more}
use Rattle.std.proofs.lemmas.List.Sums.{sum_by-cons, sum_by_push}
use Rattle.std.specs.List.{range_with_len, sum, sum_by}
use Rattle.std.specs.Prelude.{if◌then◌else◌, min, nat_lt}
use Rattle.aho_core.specs.Numbers.{greatest_index}
use Rattle.aho_core.specs.declared.error.BuildError.{BuildError}
use Rattle.aho_core.specs.declared.error.BuildError.TheVariants.{StateIDOverflow, OutOfMemory}
use Rattle.aho_build.specs.declared.special.Special.{Special}
use Rattle.aho_corasick.specs.ReadOut.{classes_of, states_of}
use Rattle.aho_corasick.specs.declared.noncontiguous.NFA.{NFA}
use Rattle.aho_table.specs.Table.{State, matches_in}
use Rattle.aho_hybrid.specs.Filled.{FitIndexes, flat, has_own_list, list_words, lists_below, lists_size, moves_below, moves_size, moves_words, number_or_zero, rows_refusal, state_words, told_size, transition_words}

-- ---- sums over the states below a count

module _ (words : ℕ → ℕ) where
  abbrev below : ℕ → ℕ
  below count = sum (map words (range_with_len 0 count))

  more : (count : ℕ) → below (count + 1) ≡ below count + words count
  more count =
      ap (λ (l : List ℕ). sum l) (map-range_with_len_more words 0 count count (omega arith))
      ∙ sum_by_push (λ (n : ℕ). n) (map words (range_with_len 0 count)) (words count)

  further : (others count : ℕ) → below count ≤ below (count + others)
  further zero count =
      let same : count + zero ≡ count = omega arith in
      omega (arith, ap below same)
  further (suc others) count =
      let same : count + suc others ≡ count + others + 1 = omega arith in
      omega (arith, further others count, more (count + others), ap below same)

  grows : (one other : ℕ) → one ≤ other → below one ≤ below other
  grows one other order =
      let whole : one + (other - one) ≡ other = omega (arith, order) in
      omega (arith, further (other - one) one, ap below whole)

module _ (states : List State) where
  pub lists-first : lists_below states 0 ≡ 0
  unfolding lists_below
  lists-first = refl

  pub lists-more : (count : ℕ) → lists_below states (count + 1) ≡ lists_below states count + list_words states count
  unfolding lists_below
  lists-more count = more (list_words states) count

  pub lists-grow : (one other : ℕ) → one ≤ other → lists_below states one ≤ lists_below states other
  unfolding lists_below
  lists-grow one other order = grows (list_words states) one other order

  -- the words of a list that is its state's own, and of one that is not
  pub words-own : (sid : ℕ) → has_own_list states sid ≡ true → list_words states sid ≡ length (matches_in states sid) + 1
  words-own sid own = cond-true (has_own_list states sid) (length (matches_in states sid) + 1) 0 own

  pub words-shared : (sid : ℕ) → has_own_list states sid ≡ false → list_words states sid ≡ 0
  words-shared sid shared = cond-false (has_own_list states sid) (length (matches_in states sid) + 1) 0 shared

module _ (special : Special) (states : List State) (row_depth : ℕ) where
  pub moves-first : moves_below row_depth special states 0 ≡ 0
  unfolding moves_below
  moves-first = refl

  pub moves-more : (count : ℕ) → moves_below row_depth special states (count + 1) ≡ moves_below row_depth special states count + moves_words row_depth special states count
  unfolding moves_below
  moves-more count = more (moves_words row_depth special states) count

  pub moves-grow : (one other : ℕ) → one ≤ other → moves_below row_depth special states one ≤ moves_below row_depth special states other
  unfolding moves_below
  moves-grow one other order = grows (moves_words row_depth special states) one other order

-- transitions have the words that are counted
pub flat-size : (numbers : List ℕ) (transitions : List (ℕ × ℕ)) → length (flat numbers transitions) ≡ sum_by transition_words transitions
flat-size numbers [] = refl
flat-size numbers (transition ∷ transitions) =
    let rest = flat-size numbers transitions in
    elim (cases_eq transition.1 1) [
      | inl fails ↦
          let test : nat_eq transition.1 1 ≡ true = eq-eqb transition.1 1 fails in
          let none : transition_words transition ≡ 0 = cond-true (nat_eq transition.1 1) 0 2 test in
          ap (λ (l : List ℕ). length l) (cond-true (nat_eq transition.1 1) (flat numbers transitions) (transition.0 ∷ number_or_zero numbers transition.1 ∷ flat numbers transitions) test)
          ∙ omega (arith, rest, none, sum_by-cons transition_words transition transitions)
      | inr leads ↦
          let test : nat_eq transition.1 1 ≡ false = ne_eqb transition.1 1 leads in
          let two : transition_words transition ≡ 2 = cond-false (nat_eq transition.1 1) 0 2 test in
          ap (λ (l : List ℕ). length l) (cond-false (nat_eq transition.1 1) (flat numbers transitions) (transition.0 ∷ number_or_zero numbers transition.1 ∷ flat numbers transitions) test)
          ∙ omega (arith, rest, two, sum_by-cons transition_words transition transitions)
    ]

-- ---- sizes as they are told

abbrev most : ℕ
most = 2 ^ 64 - 1

pub told-small : (size : ℕ) → size ≤ most → told_size size ≡ size
told-small size small = min-eq_left small

told-great : (size : ℕ) → most ≤ size → told_size size ≡ most
told-great size great = min-eq_right great

-- the sum of two sizes, of which each is told
pub told-add : (one other : ℕ) → min (told_size one + told_size other) most ≡ told_size (one + other)
told-add one other =
    elim (cases_lt one most) [
      | inr above ↦ told-great (told_size one + told_size other) (omega (arith, told-great one above)) ∙ sym (told-great (one + other) (omega (arith, above)))
      | inl less ↦
          elim (cases_lt other most) [
            | inr above ↦ told-great (told_size one + told_size other) (omega (arith, told-great other above)) ∙ sym (told-great (one + other) (omega (arith, above)))
            | inl small ↦
                ap (λ (n : ℕ). min (n + told_size other) most) (told-small one (omega (arith, less)))
                ∙ ap (λ (n : ℕ). min (one + n) most) (told-small other (omega (arith, small)))
          ]
    ]

-- it is an index where the size is one
pub told-fits : (size : ℕ) → told_size size ≤ greatest_index → size ≤ greatest_index
told-fits size fits =
    elim (cases_lt size most) [
      | inl less ↦ omega (arith, told-small size (omega (arith, less)), fits)
      | inr above ↦ absurd (omega (arith, told-great size above, fits))
    ]

pub told-above : (size : ℕ) → greatest_index < told_size size → greatest_index < size
told-above size above =
    elim (cases_lt size most) [
      | inl less ↦ omega (arith, told-small size (omega (arith, less)), above)
      | inr past ↦ omega (arith, past)
    ]

-- and it is told as itself
pub told-again : (size : ℕ) → told_size (told_size size) ≡ told_size size
told-again size =
    elim (cases_lt size most) [
      | inl less ↦ ap told_size (told-small size (omega (arith, less)))
      | inr past ↦ ap told_size (told-great size past) ∙ told-small most (omega arith) ∙ sym (told-great size past)
    ]

-- ---- refusals

module _ (nfa : NFA) (row_depth : ℕ) where
  abbrev states_are : ℕ
  states_are = state_words row_depth (states_of nfa) (classes_of nfa)

  abbrev told_of : ℕ → BuildError
  told_of size = StateIDOverflow greatest_index (told_size size)

  abbrev of_moves : BuildError
  of_moves = if nat_lt greatest_index (moves_size nfa row_depth) then told_of (moves_size nfa row_depth) else OutOfMemory

  abbrev of_lists : BuildError
  of_lists = if nat_lt greatest_index (lists_size nfa) then told_of (lists_size nfa) else of_moves

  pub states-refused : greatest_index < states_are → rows_refusal nfa row_depth ≡ told_of states_are
  states-refused above = cond-true (nat_lt greatest_index states_are) (told_of states_are) of_lists (lt-ltb greatest_index states_are above)

  past-states : states_are ≤ greatest_index → rows_refusal nfa row_depth ≡ of_lists
  past-states fits = cond-false (nat_lt greatest_index states_are) (told_of states_are) of_lists (le-ltb greatest_index states_are fits)

  pub lists-refused : states_are ≤ greatest_index → greatest_index < lists_size nfa → rows_refusal nfa row_depth ≡ told_of (lists_size nfa)
  lists-refused fits above = past-states fits ∙ cond-true (nat_lt greatest_index (lists_size nfa)) (told_of (lists_size nfa)) of_moves (lt-ltb greatest_index (lists_size nfa) above)

  past-lists : states_are ≤ greatest_index → lists_size nfa ≤ greatest_index → rows_refusal nfa row_depth ≡ of_moves
  past-lists fits also = past-states fits ∙ cond-false (nat_lt greatest_index (lists_size nfa)) (told_of (lists_size nfa)) of_moves (le-ltb greatest_index (lists_size nfa) also)

  pub moves-refused : states_are ≤ greatest_index → lists_size nfa ≤ greatest_index → greatest_index < moves_size nfa row_depth → rows_refusal nfa row_depth ≡ told_of (moves_size nfa row_depth)
  moves-refused fits also above =
      past-lists fits also
      ∙ cond-true (nat_lt greatest_index (moves_size nfa row_depth)) (told_of (moves_size nfa row_depth)) OutOfMemory (lt-ltb greatest_index (moves_size nfa row_depth) above)

  -- where all fit memory was wanted
  pub memory-wanted : FitIndexes nfa row_depth → rows_refusal nfa row_depth ≡ OutOfMemory
  memory-wanted fits =
      past-lists fits.states fits.lists
      ∙ cond-false (nat_lt greatest_index (moves_size nfa row_depth)) (told_of (moves_size nfa row_depth)) OutOfMemory (le-ltb greatest_index (moves_size nfa row_depth) fits.moves)
