use Rattle.std.proofs.Common.{◌∙◌, ◌<◌, ℕ, List, ap, arith, length, subst, sym}
use Rattle.std.proofs.lemmas.List.{length-map}
use Rattle.std.specs.List.{All, range_with_len}
use Rattle.std.specs.List.Sorted.{IsPermutation}
use Rattle.aho_core.specs.Replacement.{pieces_of}
use Rattle.aho_levels.specs.Sorting.{key_numbers, bytes_together, words_at}
use Rattle.aho_levels.specs.declared.order.Key.{Key}
use Rattle.aho_levels.proofs.Adding.{all-sized, numbers-below}
use Rattle.aho_levels.proofs.order.in_order.Goals as goal

pub add_items-requires-clause-numbers : goal.add_items-requires-clause-numbers
add_items-requires-clause-numbers c =
    let count : ℕ = length c.args.patterns.now in
    subst (λ (keys : List Key). All (λ (n : ℕ). n < count) (key_numbers keys)) (sym c.deref.ensures.value) (numbers-below count (key_numbers c.in_ok-keys.keys.items) c.in_ok-keys.ensures.all)

pub add_items-requires-clause-room : goal.add_items-requires-clause-room
add_items-requires-clause-room c =
    let words = pieces_of c.args.patterns.now in
    let ks = key_numbers c.in_ok-keys.keys.items in
    let all : IsPermutation (range_with_len 0 (length words)) ks =
    subst (λ (n : ℕ). IsPermutation (range_with_len 0 n) ks) (sym (length-map c.args.patterns.now (λ piece. piece.now))) c.in_ok-keys.ensures.all in
    omega (
      arith,
      all-sized words ks all,
      ap (λ (keys : List Key). bytes_together (words_at words (key_numbers keys))) c.deref.ensures.value,
      c.in_ok-size.ensures.size,
      c.in_ok-size.ensures.few,
    )

pub returns-clause-items : goal.returns-clause-items
returns-clause-items c kind =
    let words = pieces_of c.args.patterns.now in
    let has = c.in_ok-add_items.ensures.items in
    let ks = key_numbers c.in_ok-keys.keys.items in
    let all : IsPermutation (range_with_len 0 (length words)) ks =
    subst (λ (n : ℕ). IsPermutation (range_with_len 0 n) ks) (sym (length-map c.args.patterns.now (λ piece. piece.now))) c.in_ok-keys.ensures.all in
    record {
      all = subst (λ (l : List ℕ). IsPermutation (range_with_len 0 (length words)) l) (sym (has.numbered ∙ ap key_numbers c.deref.ensures.value)) all;
      placed = has.placed kind;
      folded = has.folded;
    }

pub returns-clause-few : goal.returns-clause-few
returns-clause-few c =
    let words = pieces_of c.args.patterns.now in
    let ks = key_numbers c.in_ok-keys.keys.items in
    let all : IsPermutation (range_with_len 0 (length words)) ks =
    subst (λ (n : ℕ). IsPermutation (range_with_len 0 n) ks) (sym (length-map c.args.patterns.now (λ piece. piece.now))) c.in_ok-keys.ensures.all in
    omega (
      arith,
      all-sized words ks all,
      ap (λ (keys : List Key). bytes_together (words_at words (key_numbers keys))) c.deref.ensures.value,
      c.in_ok-size.ensures.size,
      c.in_ok-size.ensures.few,
      c.in_ok-add_items.ensures.items.sized,
    )
