-- Lists of patterns in one vector of words.
use Rattle.std.proofs.Common.{◌≡◌, ◌≢◌, ℕ, suc, ◌+◌, ◌-◌, ◌<◌, ◌≤◌, true, false, List, [], length, get_or, take, drop, refl, sym, ap, ◌∙◌, inl, inr, arith}
use Rattle.std.specs.List.{All}
use Rattle.std.proofs.lemmas.Bool.{cases_eq, cases_lt, lt-ltb, le-ltb, ltb-true}
use Rattle.std.proofs.lemmas.List.{get_or_past, get_or-take, get_or-drop, length-take-le, length-drop}
use Rattle.std.proofs.lemmas.List.Elements.{All-from_get_or}
use Rattle.std.proofs.lemmas.Grind.{get_or_default_zero, same_number_lists}
use Rattle.aho_core.specs.Numbers.{greatest_index}
use Rattle.aho_table.specs.Words.{room, length_mark, word_at, told_length, length_at, patterns_at, is_closed, IsPlaceOfList, AreLaid}

-- ---- the length that a word tells

told_length-below : (word : ℕ) → word < room → told_length word ≡ word - length_mark
unfolding told_length
told_length-below word below = rw (lt-ltb word room below) refl

pub told_length-above : (word : ℕ) → room ≤ word → told_length word ≡ 0
unfolding told_length
told_length-above word above = rw (le-ltb word room above) refl

pub told_length-small : (word : ℕ) → word ≤ greatest_index → told_length word ≡ 0
told_length-small word small = omega (arith, told_length-below word (omega arith))

pub told_length-room : told_length room ≡ 0
told_length-room = told_length-above room (omega arith)

pub told_length-mark : (n : ℕ) → n ≤ greatest_index → told_length (length_mark + n) ≡ n
told_length-mark n few = omega (arith, told_length-below (length_mark + n) (omega arith))

pub told_length-some : (word : ℕ) → 0 < told_length word → (word < room) × (word ≡ length_mark + told_length word)
told_length-some word some =
    elim (cases_lt word room) [
      | inl below ↦ (below, omega (arith, told_length-below word below))
      | inr above ↦ absurd (omega (arith, told_length-above word above))
    ]

-- ---- where lists lie

pub length_at-zero : (words : List ℕ) → length_at words 0 ≡ 0
unfolding length_at
length_at-zero words = refl

pub length_at-suc : (words : List ℕ) (place : ℕ) → length_at words (suc place) ≡ told_length (word_at words place)
unfolding length_at
length_at-suc words place = refl

pub length_at-some : (words : List ℕ) (list : ℕ) → list ≢ 0 → length_at words list ≡ told_length (word_at words (list - 1))
length_at-some words list some =
    let e : list ≡ suc (list - 1) = omega (arith, some) in
    ap (length_at words) e ∙ length_at-suc words (list - 1)

pub some_at : (words : List ℕ) (list : ℕ) → 0 < length_at words list → list ≢ 0
some_at words list some is = omega (arith, ap (length_at words) is, length_at-zero words)

-- what stands before a list
pub mark_at : (words : List ℕ) (list : ℕ) → 0 < length_at words list → word_at words (list - 1) ≡ length_mark + length_at words list
mark_at words list some =
    let is = length_at-some words list (some_at words list some) in
    omega (arith, is, (told_length-some (word_at words (list - 1)) (omega (arith, some, is))).1)

-- a place that tells a length, and the patterns behind it, are inside
pub place_within : (words : List ℕ) (count place : ℕ) → AreLaid words count → 0 < told_length (word_at words place)
    → place + told_length (word_at words place) < length words
place_within words count place are some =
    elim (cases_lt (place + told_length (word_at words place)) (length words)) [
      | inl below ↦ below
      | inr above ↦ absurd (
          let small = are.patterns place (place + told_length (word_at words place)) (omega arith) (omega arith) in
          omega (arith, small, get_or_past words (place + told_length (word_at words place)) room above)
          )
    ]

pub list_within : (words : List ℕ) (count list : ℕ) → AreLaid words count → 0 < length_at words list
    → list + length_at words list ≤ length words
list_within words count list are some =
    let none = some_at words list some in
    let is = length_at-some words list none in
    omega (arith, none, is, place_within words count (list - 1) are (omega arith))

-- also for a number that has the empty list
pub own_within : (words : List ℕ) (count list : ℕ) → AreLaid words count → IsPlaceOfList words list → list + length_at words list ≤ length words
own_within words count list are held =
    elim (cases_eq list 0) [
      | inl is ↦ omega (arith, ap (length_at words) is, length_at-zero words)
      | inr ne ↦ list_within words count list are (held ne)
    ]

pub length_at-fewer : (words : List ℕ) (count list : ℕ) → AreLaid words count → length_at words list < count
length_at-fewer words count list are =
    elim (cases_eq list 0) [
      | inl is ↦ omega (arith, ap (length_at words) is, length_at-zero words, are.fewer 0)
      | inr ne ↦ omega (arith, length_at-some words list ne, are.fewer (list - 1))
    ]

pub pattern_small : (words : List ℕ) (count list i : ℕ) → AreLaid words count → i < length_at words list → word_at words (list + i) ≤ greatest_index
pattern_small words count list i are below =
    let none = some_at words list (omega arith) in
    are.patterns (list - 1) (list + i) (omega (arith, none)) (omega (arith, none, length_at-some words list none))

-- ---- and which patterns they have

pub patterns_at-none : (words : List ℕ) (list : ℕ) → length_at words list ≡ 0 → patterns_at words list ≡ []
unfolding patterns_at
patterns_at-none words list none = ap (λ (n : ℕ). take n (drop list words)) none

pub patterns_at-zero : (words : List ℕ) → patterns_at words 0 ≡ []
patterns_at-zero words = patterns_at-none words 0 (length_at-zero words)

pub length-patterns_at : (words : List ℕ) (count list : ℕ) → AreLaid words count → length (patterns_at words list) ≡ length_at words list
unfolding patterns_at
length-patterns_at words count list are =
    elim (cases_eq (length_at words list) 0) [
      | inl is ↦ ap length (patterns_at-none words list is) ∙ sym is
      | inr ne ↦ length-take-le (length_at words list) (drop list words)
          (omega (arith, ne, length-drop list words, list_within words count list are (omega (arith, ne))))
    ]

pub get_or-patterns_at : (words : List ℕ) (count list i : ℕ) → AreLaid words count → i < length_at words list
    → get_or (patterns_at words list) i 0 ≡ word_at words (list + i)
unfolding patterns_at
get_or-patterns_at words count list i are below =
    get_or-take (length_at words list) (drop list words) i 0 below
    ∙ get_or-drop list words i 0
    ∙ sym (get_or_default_zero words (list + i) room (omega (arith, list_within words count list are (omega arith))))

pub patterns_at-small : (words : List ℕ) (count list : ℕ) → AreLaid words count → All (λ (word : ℕ). word ≤ greatest_index) (patterns_at words list)
patterns_at-small words count list are =
    All-from_get_or (λ (word : ℕ). word ≤ greatest_index) (patterns_at words list) 0
    (λ i below.
    let within : i < length_at words list = omega (arith, below, length-patterns_at words count list are) in
    omega (arith, get_or-patterns_at words count list i are within, pattern_small words count list i are within))

-- the patterns are these, where so many are told and each stands at its place
pub patterns_are : (words : List ℕ) (count list : ℕ) (items : List ℕ) → AreLaid words count → length_at words list ≡ length items
    → ((i : ℕ) → i < length items → word_at words (list + i) ≡ get_or items i 0) → patterns_at words list ≡ items
patterns_are words count list items are told_so each =
    same_number_lists (patterns_at words list) items
    (length-patterns_at words count list are ∙ told_so)
    (λ i below.
    let within : i < length_at words list = omega (arith, below, length-patterns_at words count list are) in
    get_or-patterns_at words count list i are within ∙ each i (omega (arith, within, told_so)))

-- where another store has the same length and the same words, the list has the same patterns
pub same_patterns : (old new : List ℕ) (count now list : ℕ) → AreLaid old count → AreLaid new now → length_at new list ≡ length_at old list
    → ((i : ℕ) → i < length_at old list → word_at new (list + i) ≡ word_at old (list + i)) → patterns_at new list ≡ patterns_at old list
same_patterns old new count now list are then same each =
    patterns_are new now list (patterns_at old list) then (same ∙ sym (length-patterns_at old count list are))
    (λ i below.
    let within : i < length_at old list = omega (arith, below, length-patterns_at old count list are) in
    each i within ∙ sym (get_or-patterns_at old count list i are within))

-- ---- the closed ones

pub is_closed-below : (words : List ℕ) (list : ℕ) → word_at words (list + length_at words list) < room → is_closed words list ≡ true
unfolding is_closed
is_closed-below words list below = lt-ltb (word_at words (list + length_at words list)) room below

pub closed-below : (words : List ℕ) (list : ℕ) → is_closed words list ≡ true → word_at words (list + length_at words list) < room
unfolding is_closed
closed-below words list closed = ltb-true (word_at words (list + length_at words list)) room closed

-- ---- a store with no words

pub is_closed-none : is_closed [] 0 ≡ false
unfolding is_closed
is_closed-none = le-ltb room room (omega arith)

pub AreLaid-none : AreLaid [] 1
AreLaid-none = record {
  patterns = λ place k past inside. absurd (omega (arith, told_length-room));
  fewer = λ place. omega (arith, told_length-room);
}
