-- Patterns that are added one by one, by the numbers of their keys.
use Rattle.std.proofs.Common.{◌≡◌, ℕ, zero, suc, ◌+◌, ◌-◌, ◌*◌, ◌<◌, ◌≤◌, ◌^◌, arith, Bool, true, false, List, [], ◌∷◌, ◌++◌, length, take, drop, get_or, map, refl, sym, subst, ◌∙◌, ap}
use Rattle.std.specs.List.{All, range_with_len}
use Rattle.std.specs.List.Sorted.{IsPermutation}
use Rattle.std.proofs.Math.Pow.{pow_mono}
use Rattle.std.proofs.Math.Seq.{drop-append_seam, take-length}
use Rattle.std.proofs.lemmas.Bool.Decides.{nat_tests}
use Rattle.std.proofs.lemmas.List.{drop-append-le, get_or-map, length-append, length-drop, length-map, map-append, take-append-le, take_more}
use Rattle.std.proofs.lemmas.List.Elements.{All-append, All-map, All-push}
use Rattle.std.proofs.lemmas.List.FromFn.{fill_by_all, get_or-range_with_len, length-range_with_len}
use Rattle.std.proofs.lemmas.List.Sorted.{All-permutation, IsPermutation-map, sum_by-IsPermutation}
use Rattle.std.proofs.lemmas.List.Sums.{sum_by-append}
use Rattle.std.proofs.lemmas.Nat.{pow-add}
use Rattle.aho_core.specs.Bytes.{folded_by}
use Rattle.aho_core.specs.Patterns.{Patterns}
use Rattle.aho_core.specs.Trie.{pattern_word}
use Rattle.aho_core.specs.declared.search.MatchKind.{MatchKind}
use Rattle.aho_levels.specs.Building.{IsUnderway, patterns_of_kind}
use Rattle.aho_levels.specs.Sorting.{AddsItem, HasItems, key_numbers, bytes_together, words_at}
use Rattle.aho_levels.specs.declared.order.Item.{Item}
use Rattle.aho_levels.specs.declared.order.Key.{Key}
use Rattle.aho_levels.specs.declared.order.Ordered.{Ordered}

-- ---- numbers

-- one byte more of eight at most
pub head-more : (n head byte : ℕ) → n < 8 → head < 2 ^ (8 * n) → byte < 256 → (head * 256 + byte < 2 ^ (8 * (n + 1))) × (2 ^ (8 * (n + 1)) ≤ 2 ^ 64)
head-more n head byte few small fits =
    let further : 8 * (n + 1) ≡ 8 * n + 8 = omega arith in
    let whole : 2 ^ (8 * (n + 1)) ≡ 2 ^ (8 * n) * 2 ^ 8 = ap (λ (m : ℕ). 2 ^ m) further ∙ pow-add 2 (8 * n) 8 in
    let within : 8 * (n + 1) ≤ 64 = omega (arith, few) in
    (omega (arith, whole, small, fits), pow_mono within)

pub range-more : (n a : ℕ) → range_with_len a (suc n) ≡ range_with_len a n ++ (a + n) ∷ []
range-more zero a = ap (λ (m : ℕ). m ∷ []) (let same : a ≡ a + zero = omega arith in same)
range-more (suc n) a =
    let next : a + 1 + n ≡ a + suc n = omega arith in
    ap (λ (l : List ℕ). a ∷ l) (range-more n (a + 1) ∙ ap (λ (m : ℕ). range_with_len (a + 1) n ++ m ∷ []) next)

pub range-next : (n : ℕ) → range_with_len 0 (n + 1) ≡ range_with_len 0 n ++ n ∷ []
range-next n =
    let next : n + 1 ≡ suc n = omega arith in
    let same : 0 + n ≡ n = omega arith in
    ap (range_with_len 0) next ∙ range-more n 0 ∙ ap (λ (m : ℕ). range_with_len 0 n ++ m ∷ []) same

-- in any order they are all below their count
pub numbers-below : (n : ℕ) (ks : List ℕ) → IsPermutation (range_with_len 0 n) ks → All (λ k. k < n) ks
numbers-below n ks all =
    All-permutation (λ k. k < n) (range_with_len 0 n) ks all
    (λ k d less. let count : length (range_with_len 0 n) ≡ n = length-range_with_len 0 n in omega (arith, get_or-range_with_len 0 n k d (omega (arith, less, count)), less, count))

-- and the words of all numbers have as many bytes as all words
pub all-sized : (words : List (List ℕ)) (ks : List ℕ) → IsPermutation (range_with_len 0 (length words)) ks → bytes_together (words_at words ks) ≡ bytes_together words
all-sized words ks all =
    let at = λ (k : ℕ). get_or words k [] in
    let whole : words ≡ map at (range_with_len 0 (length words)) = fill_by_all at words (length words) [] refl (λ k less. refl) in
    sum_by-IsPermutation (λ (w : List ℕ). length w) (map at (range_with_len 0 (length words))) (map at ks) (IsPermutation-map at (range_with_len 0 (length words)) ks all) ∙ ap bytes_together (sym whole)

-- ---- bytes as they are compared

folded-true : (b : ℕ) → b < 256 → (folded_by true b < 256) × (folded_by true (folded_by true b) ≡ folded_by true b)
folded-true b small = (grind (arith, nat_tests), grind (arith, nat_tests))

folded-folded : (ignore_case : Bool) (b : ℕ) → b < 256 → (folded_by ignore_case b < 256) × (folded_by ignore_case (folded_by ignore_case b) ≡ folded_by ignore_case b)
folded-folded false b small = (small, refl)
folded-folded true b small = folded-true b small

-- ---- items

-- what stands behind the text of an item does not matter to it
underway-more : (p : Patterns) (text more : List ℕ) (item : Item) → IsUnderway p 0 text item → IsUnderway p 0 (text ++ more) item
underway-more p text more item is =
    let count : ℕ = item.end - item.at in
    let within : count ≤ length (drop item.at text) = omega (arith, length-drop item.at text, is.ordered, is.within) in
    record {
      numbered = is.numbered;
      ordered = is.ordered;
      within = omega (arith, is.within, length-append text more);
      whole = is.whole;
      bytes =
          ap (take count) (drop-append-le item.at text more (omega (arith, is.ordered, is.within)))
          ∙ take-append-le count (drop item.at text) more within
          ∙ is.bytes;
    }

-- the last bytes are those of the item that is added
underway-last : (p : Patterns) (text : List ℕ) (root number end : ℕ) → number < length p.words → end ≡ length (text ++ pattern_word p number)
    → IsUnderway p 0 (text ++ pattern_word p number) (record { state = root; at = length text; end = end; number = number })
underway-last p text root number end numbered end_is =
    let word = pattern_word p number in
    let count : end - length text ≡ length word = omega (arith, end_is, length-append text word) in
    record {
      numbered = numbered;
      ordered = omega (arith, end_is, length-append text word);
      within = omega (arith, end_is);
      whole = omega (arith, count);
      bytes = ap (λ (n : ℕ). take n (drop (length text) (text ++ word))) count ∙ ap (take (length word)) (drop-append_seam text word) ∙ take-length word;
    }

word-by : (kind : MatchKind) (ignore_case : Bool) (words : List (List ℕ)) (number : ℕ) → pattern_word (patterns_of_kind kind ignore_case words) number ≡ map (folded_by ignore_case) (get_or words number [])
unfolding pattern_word
word-by kind ignore_case words number = refl

-- one pattern more
module _ (ignore_case : Bool) (words : List (List ℕ)) (root number : ℕ) (old new : Ordered) (added : AddsItem ignore_case words root number old new) where
  abbrev item_of : Item
  item_of = record { state = root; at = length old.text.items; end = length new.text.items; number = number }

  text-by : (kind : MatchKind) → new.text.items ≡ old.text.items ++ pattern_word (patterns_of_kind kind ignore_case words) number
  text-by kind = added.text ∙ ap (λ (l : List ℕ). old.text.items ++ l) (sym (word-by kind ignore_case words number))

  pub items-more : (numbers : List ℕ) → number < length words → HasItems ignore_case words root numbers old → HasItems ignore_case words root (numbers ++ number ∷ []) new
  items-more numbers within is = record {
    numbered =
        ap (λ (l : List Item). map (λ (item : Item). item.number) l) added.items
        ∙ map-append (λ (item : Item). item.number) old.items.items (item_of ∷ [])
        ∙ ap (λ (l : List ℕ). l ++ number ∷ []) is.numbered;
    placed = λ kind. placed kind;
    folded =
        subst (All (λ byte. (byte < 256) × (folded_by ignore_case byte ≡ byte))) (sym added.text)
        (All-append (λ byte. (byte < 256) × (folded_by ignore_case byte ≡ byte)) old.text.items (map (folded_by ignore_case) (get_or words number [])) is.folded
        (All-map (λ byte. (byte < 256) × (folded_by ignore_case byte ≡ byte)) (folded_by ignore_case) (get_or words number [])
        (λ k d less. folded-folded ignore_case (get_or (get_or words number []) k d) (added.bytes k d less))));
    sized =
        ap (λ (l : List ℕ). length l) added.text
        ∙ omega (
          arith,
          length-append old.text.items (map (folded_by ignore_case) (get_or words number [])),
          length-map (get_or words number []) (folded_by ignore_case),
          is.sized,
          ap bytes_together (map-append (λ (n : ℕ). get_or words n []) numbers (number ∷ [])),
          sum_by-append (λ (w : List ℕ). length w) (words_at words numbers) (words_at words (number ∷ [])),
        );
  }
    where
      placed : (kind : MatchKind) → All (λ (item : Item). (item.state ≡ root) × IsUnderway (patterns_of_kind kind ignore_case words) 0 new.text.items item) new.items.items
      placed kind =
          let p = patterns_of_kind kind ignore_case words in
          let here : IsUnderway p 0 new.text.items item_of =
          subst (λ (l : List ℕ). IsUnderway p 0 l item_of) (sym (text-by kind)) (underway-last p old.text.items root number (length new.text.items) within (ap (λ (l : List ℕ). length l) (text-by kind))) in
          subst (All (λ (item : Item). (item.state ≡ root) × IsUnderway p 0 new.text.items item)) (sym added.items)
          (All-push (λ (item : Item). (item.state ≡ root) × IsUnderway p 0 new.text.items item) old.items.items item_of
          (λ k d less. (
            (is.placed kind k d less).0,
            subst (λ (l : List ℕ). IsUnderway p 0 l (get_or old.items.items k d)) (sym (text-by kind)) (underway-more p old.text.items (pattern_word p number) (get_or old.items.items k d) (is.placed kind k d less).1),
          ))
          (refl, here))

-- ---- keys

pub numbers-more : (keys : List Key) (i : ℕ) (key : Key) → i < length keys → key ≡ get_or keys i key → key_numbers (take (i + 1) keys) ≡ key_numbers (take i keys) ++ key.number ∷ []
numbers-more keys i key less is =
    ap key_numbers (take_more keys i key less)
    ∙ map-append (λ (k : Key). k.number) (take i keys) (get_or keys i key ∷ [])
    ∙ ap (λ (k : Key). key_numbers (take i keys) ++ k.number ∷ []) (sym is)

pub numbers-at : (keys : List Key) (i : ℕ) (key : Key) → i < length keys → key ≡ get_or keys i key → get_or (key_numbers keys) i 0 ≡ key.number
numbers-at keys i key less is = get_or-map (λ (k : Key). k.number) keys i key 0 less ∙ ap (λ (k : Key). k.number) (sym is)

size-cons : (word : List ℕ) (words : List (List ℕ)) → bytes_together (word ∷ words) ≡ length word + bytes_together words
size-cons word words =
    let one : bytes_together (word ∷ []) ≡ length word = (let same : 0 + length word ≡ length word = omega arith in same) in
    sum_by-append (λ (w : List ℕ). length w) (word ∷ []) words ∙ ap (λ (n : ℕ). n + bytes_together words) one

-- the words so far and the next one are within all words
pub room-more : (words : List (List ℕ)) (keys : List Key) (i : ℕ) (d : Key) → i < length keys
    → bytes_together (words_at words (key_numbers (take i keys))) + length (get_or words (get_or keys i d).number []) ≤ bytes_together (words_at words (key_numbers keys))
room-more words [] i d less = absurd (omega (arith, less))
room-more words (key ∷ keys) zero d less =
    let none : bytes_together (words_at words (key_numbers (take zero (key ∷ keys)))) ≡ 0 = refl in
    let first : length (get_or words (get_or (key ∷ keys) zero d).number []) ≡ length (get_or words key.number []) = refl in
    omega (arith, none, first, size-cons (get_or words key.number []) (words_at words (key_numbers keys)))
room-more words (key ∷ keys) (suc i) d less =
    omega (
      arith,
      room-more words keys i d (omega (arith, less)),
      size-cons (get_or words key.number []) (words_at words (key_numbers (take i keys))),
      size-cons (get_or words key.number []) (words_at words (key_numbers keys)),
    )
