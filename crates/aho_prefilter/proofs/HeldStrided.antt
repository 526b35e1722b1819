-- A search with heads, or a strided one, that is held has its sizes, and is a prefilter of the patterns.
use Rattle.std.proofs.Common.{◌≡◌, ℕ, ◌<◌, ◌≤◌, zero, suc, Bool, true, false, List, [], ◌∷◌, get_or, length, refl, sym, ap, subst, ◌∙◌, arith, min}
use Rattle.std.specs.Prelude.{Option, Some, None as Nothing, IfSome, ◌||◌, nat_eq, nat_lt, if◌then◌else◌}
use Rattle.std.specs.List.{fold}
use Rattle.std.specs.Option.{option_and_then, option_map, option_or}
use Rattle.std.proofs.lemmas.Bool.Decides.{nat_tests}
use Rattle.aho_core.specs.declared.search.MatchKind.{MatchKind}
use Rattle.aho_core.specs.Patterns.{Patterns}
use Rattle.aho_prefilter.specs.Prefilter.{AreHeadsOf, AreMarksOf, AreWindowsOf, IsPrefilterOf, heads_or_strided, held_or_packed, if_sparse, packed_heads_for, quickest_for, strided_for, windows_for, windows_or_other, yields}
use Rattle.aho_prefilter.specs.Windows.{most_before, windows_of, windows_search_of}
use Rattle.aho_prefilter.specs.declared.packed_heads.Tested.TheVariants.{LowFour}
use Rattle.aho_prefilter.specs.PackedHeads.{packed_heads_of}
use Rattle.aho_prefilter.specs.Sizes.{gram_for, has_lines, heads_for, is_few, is_many, least_head, is_crowded, is_small, shape_of, sizes_for, stride_for, takes, tested_for, words_for}
use Rattle.aho_prefilter.specs.Strided.{AreStrideSizes, marks_of, no_marks}
use Rattle.aho_prefilter.specs.declared.packed_heads.PackedHeads.{PackedHeads as Fingerprints}
use Rattle.aho_prefilter.specs.declared.prefilter.Searcher.{Searcher}
use Rattle.aho_prefilter.specs.declared.prefilter.Searcher.TheVariants.{PackedHeads, Windows, Strided}
use Rattle.aho_prefilter.specs.declared.strided.sizes.Shape.{Shape}
use Rattle.aho_prefilter.specs.declared.strided.sizes.Sizes.{Sizes}
use Rattle.aho_prefilter.proofs.HeldPacked.{held_or_packed-kind, held_or_packed-of}
use Rattle.aho_prefilter.proofs.StridedSound.{HasMarksOf-all}
use Rattle.aho_prefilter.proofs.Tables.{fold-sizes}

-- the least length is no more than any
least-below : (words : List (List ℕ)) (most : ℕ) → fold (λ head word. min head (length word)) most words ≤ most
least-below [] most = omega arith
least-below (word ∷ words) most = omega (arith, least-below words (min most (length word)))

least-each : (words : List (List ℕ)) (most k : ℕ) → k < length words → fold (λ head word. min head (length word)) most words ≤ length (get_or words k [])
least-each [] most k below = absurd (omega arith)
least-each (word ∷ words) most zero below = omega (arith, least-below words (min most (length word)))
least-each (word ∷ words) most (suc k) below = least-each words (min most (length word)) k (omega arith)

pub least_head-few : (words : List (List ℕ)) → least_head words ≤ 16
least_head-few words = least-below words 16

pub least_head-each : (words : List (List ℕ)) (k : ℕ) → k < length words → least_head words ≤ length (get_or words k [])
least_head-each words k below = least-each words 16 k below

-- the sizes fit
pub sizes_for-sized : (s : Shape) (sizes : Sizes) → s.head ≤ 16 → sizes_for s ≡ Some sizes → AreStrideSizes sizes × (sizes.head ≡ s.head) × (sizes.ignore_case ≡ s.ignore_case)
sizes_for-sized s sizes few held = by_tests (is_small s) (is_crowded s) refl held
  where
    made : 5 ≤ s.head → AreStrideSizes (record { gram = gram_for s; stride = stride_for s; head = s.head; ignore_case = s.ignore_case; lines = has_lines s; words = words_for s })
    made long = record {
      some = omega arith;
      gram = omega arith;
      steps = omega arith;
      stride = omega arith;
      within = omega arith;
      head = few;
    }

    by_tests : (small crowded : Bool) → is_small s ≡ small
        → (if small then Nothing else if crowded then Nothing else Some (record { gram = gram_for s; stride = stride_for s; head = s.head; ignore_case = s.ignore_case; lines = has_lines s; words = words_for s })) ≡ Some sizes
        → AreStrideSizes sizes × (sizes.head ≡ s.head) × (sizes.ignore_case ≡ s.ignore_case)
    by_tests true crowded is other = cc
    by_tests false true is other = cc
    by_tests false false is other =
        let e : sizes ≡ record { gram = gram_for s; stride = stride_for s; head = s.head; ignore_case = s.ignore_case; lines = has_lines s; words = words_for s } = cc in
        let long : 5 ≤ s.head = grind (arith, nat_tests, is) in
        (subst AreStrideSizes (sym e) (made long), ap (λ (t : Sizes). t.head) e, ap (λ (t : Sizes). t.ignore_case) e)

pub strided_for-of : (p : Patterns) (searcher : Searcher) → strided_for p ≡ Some searcher → IsPrefilterOf searcher p
strided_for-of p searcher held = by_sizes (sizes_for (shape_of p.ignore_case p.words)) refl held
  where
    by_sizes : (found : Option Sizes) → sizes_for (shape_of p.ignore_case p.words) ≡ found
        → option_map (λ (sizes : Sizes). Strided (marks_of sizes p.words)) found ≡ Some searcher → IsPrefilterOf searcher p
    by_sizes Nothing are is = cc
    by_sizes (Some sizes) are is =
        let e : searcher ≡ Strided (marks_of sizes p.words) = cc in
        let sized = sizes_for-sized (shape_of p.ignore_case p.words) sizes (least_head-few p.words) are in
        let same : (marks_of sizes p.words).sizes ≡ sizes = fold-sizes p.words (no_marks sizes (length p.words)) in
        let made : AreMarksOf p (marks_of sizes p.words) = record {
          rule = ap (λ (t : Sizes). t.ignore_case) same ∙ sized.2;
          sizes = subst AreStrideSizes (sym same) sized.0;
          each = λ k below. HasMarksOf-all sizes p.words k sized.0 below (omega (arith, sized.1, least_head-each p.words k below));
        } in
        rw e made

-- where a packed search with heads may be held there are some
pub heads-sized : (s : Shape) (size : ℕ) → heads_for s ≡ Some size → (size ≡ s.head) × (1 < size) × (0 < s.count)
heads-sized s size held = by_test (is_few s || is_many s) refl held
  where
    by_test : (few : Bool) → (is_few s || is_many s) ≡ few → (if few then Some s.head else Nothing) ≡ Some size → (size ≡ s.head) × (1 < size) × (0 < s.count)
    by_test true is found =
        let e : size ≡ s.head = cc in
        let long : 1 < s.head = grind (arith, nat_tests, is) in
        (e, omega arith, grind (arith, nat_tests, is))
    by_test false is found = cc

packed_heads_for-of : (p : Patterns) (searcher : Searcher) → packed_heads_for p ≡ Some searcher → IsPrefilterOf searcher p
packed_heads_for-of p searcher held = by_size (heads_for shape) refl held
  where
    shape : Shape
    shape = shape_of p.ignore_case p.words

    made : ℕ → Fingerprints
    made size = packed_heads_of p.ignore_case (tested_for shape) size p.words

    by_way : (way : Bool) (size : ℕ) → heads_for shape ≡ Some size → (if way then Some (PackedHeads (made size)) else Nothing) ≡ Some searcher → IsPrefilterOf searcher p
    by_way false size are is = cc
    by_way true size are is =
        let e : searcher ≡ PackedHeads (made size) = cc in
        let sized = heads-sized shape size are in
        let of : AreHeadsOf p (made size) = record {
          size = size;
          some = omega (arith, sized.1);
          short = omega (arith, sized.0, least_head-few p.words);
          long = λ k below. omega (arith, sized.0, least_head-each p.words k below);
          tested = tested_for shape;
          made = refl;
        } in
        rw e of

    by_size : (found : Option ℕ) → heads_for shape ≡ found → option_and_then (λ (size : ℕ). if_sparse shape (made size)) found ≡ Some searcher → IsPrefilterOf searcher p
    by_size Nothing are is = cc
    by_size (Some size) are is = by_way (takes shape (made size)) size are is

heads_or_strided-of : (p : Patterns) (searcher : Searcher) → heads_or_strided p ≡ Some searcher → IsPrefilterOf searcher p
heads_or_strided-of p searcher held = by_heads (packed_heads_for p) refl held
  where
    by_heads : (heads : Option Searcher) → packed_heads_for p ≡ heads → option_or heads (strided_for p) ≡ Some searcher → IsPrefilterOf searcher p
    by_heads Nothing none is = strided_for-of p searcher is
    by_heads (Some other) there is = packed_heads_for-of p searcher (there ∙ is)

windows_for-of : (p : Patterns) (searcher : Searcher) → windows_for p ≡ Some searcher → IsPrefilterOf searcher p
windows_for-of p searcher held =
    by_tests (nat_lt 8 (length p.words) || (nat_eq (most_before p.ignore_case p.words) 0 || nat_lt 64 (most_before p.ignore_case p.words))) (nat_lt (least_head all) 4) refl held
  where
    all : List (List ℕ)
    all = windows_of p.ignore_case p.words

    by_tests : (many small : Bool) → nat_lt (least_head all) 4 ≡ small
        → (if many then Nothing else if small then Nothing else Some (Windows (windows_search_of p.ignore_case LowFour (least_head all) p.words))) ≡ Some searcher → IsPrefilterOf searcher p
    by_tests true small is other = cc
    by_tests false true is other = cc
    by_tests false false is other =
        let e : searcher ≡ Windows (windows_search_of p.ignore_case LowFour (least_head all) p.words) = cc in
        let size : 4 ≤ least_head all = grind (arith, nat_tests, is) in
        let made : AreWindowsOf p (windows_search_of p.ignore_case LowFour (least_head all) p.words) = record {
          size = least_head all;
          some = omega arith;
          short = least_head-few all;
          long = λ k below. least_head-each all k below;
          tested = LowFour;
          made = refl;
        } in
        rw e made

-- where it is held
pub windows_for-some : (p : Patterns) → length p.words ≤ 8 → 0 < most_before p.ignore_case p.words → most_before p.ignore_case p.words ≤ 64 → 4 ≤ least_head (windows_of p.ignore_case p.words)
    → Some (Windows (windows_search_of p.ignore_case LowFour (least_head (windows_of p.ignore_case p.words)) p.words)) ≡ windows_for p
windows_for-some p few some near long =
    let many : (nat_lt 8 (length p.words) || (nat_eq (most_before p.ignore_case p.words) 0 || nat_lt 64 (most_before p.ignore_case p.words))) ≡ false = grind (arith, nat_tests, few, some, near) in
    let small : nat_lt (least_head (windows_of p.ignore_case p.words)) 4 ≡ false = grind (arith, nat_tests, long) in
    rw (many, small) refl

windows_or_other-of : (p : Patterns) (searcher : Searcher) → windows_or_other p ≡ Some searcher → IsPrefilterOf searcher p
windows_or_other-of p searcher held = by_windows (windows_for p) refl held
  where
    by_windows : (windows : Option Searcher) → windows_for p ≡ windows → option_or windows (heads_or_strided p) ≡ Some searcher → IsPrefilterOf searcher p
    by_windows Nothing none is = heads_or_strided-of p searcher is
    by_windows (Some other) there is = windows_for-of p searcher (there ∙ is)

-- whatever is held is a prefilter of the patterns
pub quickest_for-of : (p : Patterns) (searcher : Searcher) → quickest_for p ≡ Some searcher → IsPrefilterOf searcher p
quickest_for-of p searcher held = by_way (yields (held_or_packed p)) held
  where
    by_strided : (strided : Option Searcher) → windows_or_other p ≡ strided → option_or strided (held_or_packed p) ≡ Some searcher → IsPrefilterOf searcher p
    by_strided Nothing none is = held_or_packed-of p searcher is
    by_strided (Some other) there is = windows_or_other-of p searcher (there ∙ is)

    by_way : (way : Bool) → (if way then option_or (windows_or_other p) (held_or_packed p) else held_or_packed p) ≡ Some searcher → IsPrefilterOf searcher p
    by_way true is = by_strided (windows_or_other p) refl is
    by_way false is = held_or_packed-of p searcher is

-- and it does not depend on the kind
pub quickest_for-kind : (p : Patterns) (kind : MatchKind) → quickest_for (record p { kind = kind }) ≡ quickest_for p
quickest_for-kind p kind = ap (λ (other : Option Searcher). if yields other then option_or (windows_or_other p) other else other) (held_or_packed-kind p kind)

-- the same of what may be held
pub held_or_packed-held : (p : Patterns) (held : Option Searcher) → held ≡ held_or_packed p → IfSome held (λ searcher. IsPrefilterOf searcher p)
held_or_packed-held p Nothing is = tt
held_or_packed-held p (Some searcher) is = held_or_packed-of p searcher (sym is)

-- where another search is better, it is held
better-held : (p : Patterns) (other better : Option Searcher) → other ≡ held_or_packed p → yields other ≡ true → windows_or_other p ≡ better → option_or better other ≡ quickest_for p
better-held p other better is way there =
    sym
    (ap (λ (b : Bool). if b then option_or (windows_or_other p) (held_or_packed p) else held_or_packed p) (ap yields (sym is) ∙ way)
    ∙ ap (λ (o : Option Searcher). option_or o (held_or_packed p)) there
    ∙ ap (λ (o : Option Searcher). option_or better o) (sym is))

-- the one for windows, if it is held
pub quickest_for-windows : (p : Patterns) (other : Option Searcher) (searcher : Searcher) → other ≡ held_or_packed p → yields other ≡ true
    → Some searcher ≡ windows_for p → Some searcher ≡ quickest_for p
quickest_for-windows p other searcher is way found =
    better-held p other (Some searcher) is way (ap (λ (o : Option Searcher). option_or o (heads_or_strided p)) (sym found))

without_windows : (p : Patterns) → Nothing ≡ windows_for p → windows_or_other p ≡ heads_or_strided p
without_windows p none = ap (λ (o : Option Searcher). option_or o (heads_or_strided p)) (sym none)

-- else the one with heads, if it is held
pub quickest_for-heads : (p : Patterns) (other : Option Searcher) (searcher : Searcher) → other ≡ held_or_packed p → yields other ≡ true → Nothing ≡ windows_for p
    → Some searcher ≡ packed_heads_for p → Some searcher ≡ quickest_for p
quickest_for-heads p other searcher is way free found =
    better-held p other (Some searcher) is way (without_windows p free ∙ ap (λ (o : Option Searcher). option_or o (strided_for p)) (sym found))

-- for others the strided one, if it has its sizes
heads_or_strided-none : (p : Patterns) (found : Option Sizes) → Nothing ≡ packed_heads_for p → sizes_for (shape_of p.ignore_case p.words) ≡ found
    → heads_or_strided p ≡ option_map (λ (t : Sizes). Strided (marks_of t p.words)) found
heads_or_strided-none p found none are =
    ap (λ (o : Option Searcher). option_or o (strided_for p)) (sym none)
    ∙ ap (λ (o : Option Sizes). option_map (λ (t : Sizes). Strided (marks_of t p.words)) o) are

pub quickest_for-strided : (p : Patterns) (other : Option Searcher) (sizes : Sizes) → other ≡ held_or_packed p → yields other ≡ true → Nothing ≡ windows_for p → Nothing ≡ packed_heads_for p
    → sizes_for (shape_of p.ignore_case p.words) ≡ Some sizes → Some (Strided (marks_of sizes p.words)) ≡ quickest_for p
quickest_for-strided p other sizes is way free none found =
    better-held p other (Some (Strided (marks_of sizes p.words))) is way (without_windows p free ∙ heads_or_strided-none p (Some sizes) none found)

pub quickest_for-other : (p : Patterns) (other : Option Searcher) → other ≡ held_or_packed p → yields other ≡ true → Nothing ≡ windows_for p → Nothing ≡ packed_heads_for p
    → sizes_for (shape_of p.ignore_case p.words) ≡ Nothing → other ≡ quickest_for p
quickest_for-other p other is way free none found = better-held p other Nothing is way (without_windows p free ∙ heads_or_strided-none p Nothing none found)
