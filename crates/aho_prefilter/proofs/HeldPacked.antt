-- How the fingerprints grow by a pattern, and that a packed search that is held is a prefilter of the patterns.
use Rattle.std.proofs.Common.{◌≡◌, ℕ, ◌+◌, ◌<◌, Bool, true, false, List, [], ◌∷◌, length, refl, sym, ap, ◌∙◌, arith}
use Rattle.std.specs.Prelude.{Option, Some, None as Nothing, ◌&&◌, ◌||◌, nat_lt, if◌then◌else◌}
use Rattle.std.specs.Option.{option_or}
use Rattle.std.proofs.Math.Bool.{or-false}
use Rattle.std.proofs.lemmas.Bool.Decides.{nat_tests}
use Rattle.std.proofs.lemmas.List.{length-append}
use Rattle.std.proofs.lemmas.List.Folds.{list_any_at, list_any-append}
use Rattle.std.proofs.lemmas.List.Sums.{fold-append}
use Rattle.aho_core.specs.declared.search.MatchKind.{MatchKind}
use Rattle.aho_core.specs.Patterns.{Patterns, pattern_at}
use Rattle.aho_prefilter.specs.Packed.{packed_none, packed_of, packed_with}
use Rattle.aho_prefilter.specs.Prefilter.{IsPrefilterOf, gives_way, has_short, held_for, held_or_packed, is_short, packed_for, with_word}
use Rattle.aho_prefilter.specs.declared.prefilter.Searcher.{Searcher}
use Rattle.aho_prefilter.specs.declared.prefilter.Searcher.TheVariants.{Packed}
use Rattle.aho_prefilter.proofs.Held.{held_for-kind, held_for-of}

-- one pattern more
pub has_short-with_word : (p : Patterns) (word : List ℕ) → has_short (with_word p word) ≡ (has_short p || is_short word)
has_short-with_word p word = list_any-append is_short p.words (word ∷ []) ∙ ap (λ (b : Bool). has_short p || b) (or-false (is_short word))

pub packed_of-with_word : (p : Patterns) (word : List ℕ) → packed_of p.ignore_case (with_word p word).words ≡ packed_with p.ignore_case (packed_of p.ignore_case p.words) word
packed_of-with_word p word = fold-append (packed_with p.ignore_case) packed_none p.words (word ∷ [])

pub length-with_word : (p : Patterns) (word : List ℕ) → length (with_word p word).words ≡ length p.words + 1
length-with_word p word = length-append p.words (word ∷ [])

-- where none is short, none is empty
not_short : (p : Patterns) (k : ℕ) → has_short p ≡ false → k < length p.words → 0 < length (pattern_at p k)
not_short p k none below = by_test (is_short (pattern_at p k)) refl
  where
    by_test : (short : Bool) → is_short (pattern_at p k) ≡ short → 0 < length (pattern_at p k)
    by_test true is = let e : true ≡ false = sym (list_any_at is_short p.words k [] below is) ∙ none in cc
    by_test false is = grind (arith, nat_tests, is)

pub packed_for-of : (p : Patterns) (searcher : Searcher) → packed_for p ≡ Some searcher → IsPrefilterOf searcher p
packed_for-of p searcher held = by_tests (has_short p) (nat_lt 0 (length p.words) && nat_lt (length p.words) 101) refl held
  where
    by_tests : (short number : Bool) → has_short p ≡ short
        → (if short then Nothing else if number then Some (Packed (packed_of p.ignore_case p.words)) else Nothing) ≡ Some searcher → IsPrefilterOf searcher p
    by_tests true number is_short is = cc
    by_tests false false is_short is = cc
    by_tests false true is_short is =
        let e : searcher ≡ Packed (packed_of p.ignore_case p.words) = cc in
        let made : IsPrefilterOf (Packed (packed_of p.ignore_case p.words)) p = record { some = λ k below. not_short p k is_short below; made = refl } in
        rw e made

-- whatever is held is a prefilter of the patterns
pub held_or_packed-of : (p : Patterns) (searcher : Searcher) → held_or_packed p ≡ Some searcher → IsPrefilterOf searcher p
held_or_packed-of p searcher held = by_way (gives_way (held_for p)) held
  where
    by_packed : (packed : Option Searcher) → packed_for p ≡ packed → option_or packed (held_for p) ≡ Some searcher → IsPrefilterOf searcher p
    by_packed Nothing none is = held_for-of p searcher is
    by_packed (Some other) there is = packed_for-of p searcher (there ∙ is)

    by_way : (way : Bool) → (if way then option_or (packed_for p) (held_for p) else held_for p) ≡ Some searcher → IsPrefilterOf searcher p
    by_way true is = by_packed (packed_for p) refl is
    by_way false is = held_for-of p searcher is

-- and it does not depend on the kind
pub held_or_packed-kind : (p : Patterns) (kind : MatchKind) → held_or_packed (record p { kind = kind }) ≡ held_or_packed p
held_or_packed-kind p kind = ap (λ (other : Option Searcher). if gives_way other then option_or (packed_for p) other else other) (held_for-kind p kind)
