-- What a state lists at a place, of which the words are looked for.
use Rattle.std.proofs.Common.{◌≡◌, ℕ, zero, suc, ◌+◌, ◌-◌, ◌<◌, ◌≤◌, true, false, List, [], ◌∷◌, length, map, drop, get_or, refl, sym, ◌∙◌, ap, subst, arith, length-append}
use Rattle.std.specs.Prelude.{◌&&◌, Option, None, Some, filter, slice_get, slice_index, slice_range}
use Rattle.std.specs.List.{All}
use Rattle.std.proofs.lemmas.Bool.{and_from, and_right, cond-false, cond-true}
use Rattle.std.proofs.lemmas.List.{drop_all, get_or-append_right, get_or-take}
use Rattle.std.proofs.lemmas.Option.{get_or_from_slice_get, slice_get_within}
use Rattle.aho_core.specs.Laws.{longest, told}
use Rattle.aho_core.specs.Occurrence.{Occurrence}
use Rattle.aho_core.specs.declared.search.Anchored.TheVariants.{No}
use Rattle.aho_automaton.specs.Overlaps.{ended}
use Rattle.aho_automaton.proofs.Places.{length_part}
use Rattle.aho_stream.specs.After.{EndsWith}
use Rattle.aho_cover.specs.Words.{counted_of, first_listed, stands_as_word, none_before, none_behind}

-- a byte of the last bytes is that byte of the whole
pub byte_held : (haystack bytes : List ℕ) (read at : ℕ) → EndsWith (slice_range haystack 0 read) bytes → read ≤ length haystack → length bytes ≤ read → read ≤ at + length bytes → at < read
    → get_or bytes (at - (read - length bytes)) 0 ≡ get_or haystack at 0
byte_held haystack bytes read at (gone, e) within short low below =
    let long : length gone ≡ read - length bytes = omega (arith, ap length e, length-append gone bytes, length_part haystack 0 read within) in
    let inside : at < read - 0 = omega (arith, below) in
    sym (get_or-append_right gone bytes (read - length bytes) at 0 long (omega (arith, low)))
    ∙ ap (λ (xs : List ℕ). get_or xs at 0) (sym e)
    ∙ get_or-take (read - 0) haystack at 0 inside

-- an element with those behind it
drop-next : {X : Type 0} (xs : List X) (i : ℕ) (x : X) → slice_get xs i ≡ Some x → drop i xs ≡ x ∷ drop (suc i) xs
drop-next [] i x e = cc
drop-next (y ∷ ys) zero x e = (let same : y ≡ x = cc in ap (λ z. z ∷ ys) same)
drop-next (y ∷ ys) (suc i) x e = drop-next ys i x e

-- what holds of each
pub all-at : {X : Type 0} (P : X → Type 0) (xs : List X) (i : ℕ) (x : X) → All P xs → slice_get xs i ≡ Some x → P x
all-at P xs i x all e = subst P (get_or_from_slice_get xs i x x e) (all i x (slice_get_within xs i x e))

-- no length is greater than the greatest
pub longest-most : (lengths : List ℕ) (k : ℕ) → k < length lengths → slice_index lengths k ≤ longest lengths
longest-most [] k within = absurd (omega (arith, within))
longest-most (n ∷ ns) zero within = omega arith
longest-most (n ∷ ns) (suc k) within = omega (arith, longest-most ns k (omega (arith, within)))

-- what is told is the first that is listed
pub told-first : (lengths list : List ℕ) (at : ℕ) → told lengths No 0 at list ≡ first_listed (map (ended lengths at) list)
told-first lengths [] at = refl
told-first lengths (k ∷ ks) at = refl

module _ (text lengths : List ℕ) (end : ℕ) where
  -- the words among some of the list
  abbrev pub first_word : List ℕ → Option Occurrence
  first_word list = first_listed (counted_of true text (map (ended lengths end) list))

  -- none counts where a letter, a digit or `_` stands behind the place
  pub none-behind : (list : List ℕ) → none_behind text end ≡ false → first_word list ≡ None
  none-behind [] behind = refl
  none-behind (k ∷ ks) behind =
      let m = ended lengths end k in
      let rest = filter (stands_as_word text) (map (ended lengths end) ks) in
      ap first_listed (cond-false (stands_as_word text m) (m ∷ rest) rest (and_right (none_before text m.start) (none_behind text end) behind)) ∙ none-behind ks behind

  -- the first of the list that is a word
  pub word-here : (list : List ℕ) (i k : ℕ) → slice_get list i ≡ Some k → none_before text (end - slice_index lengths k) ≡ true → none_behind text end ≡ true → first_word (drop i list) ≡ Some (ended lengths end k)
  word-here list i k at before behind =
      let m = ended lengths end k in
      let rest = filter (stands_as_word text) (map (ended lengths end) (drop (suc i) list)) in
      ap first_word (drop-next list i k at)
      ∙ ap first_listed (cond-true (stands_as_word text m) (m ∷ rest) rest (and_from (none_before text m.start) (none_behind text end) before behind))

  -- one that is none is passed over
  pub word-later : (list : List ℕ) (i k : ℕ) → slice_get list i ≡ Some k → none_before text (end - slice_index lengths k) ≡ false → first_word (drop (i + 1) list) ≡ first_word (drop i list)
  word-later list i k at before =
      let m = ended lengths end k in
      let rest = filter (stands_as_word text) (map (ended lengths end) (drop (suc i) list)) in
      let next : i + 1 ≡ suc i = omega arith in
      ap (λ (n : ℕ). first_word (drop n list)) next
      ∙ sym (ap first_word (drop-next list i k at)
      ∙ ap first_listed (cond-false (stands_as_word text m) (m ∷ rest) rest (ap (λ b. b && none_behind text end) before)))

  -- at the end of the list there is none
  pub no-word : (list : List ℕ) (i : ℕ) → length list ≤ i → first_word (drop i list) ≡ None
  no-word list i past = ap first_word (drop_all i list past)
