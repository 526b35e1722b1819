-- The search for windows of the patterns stops no later than where the first pattern occurs.
use Rattle.std.proofs.Common.{◌≡◌, ℕ, ◌+◌, ◌-◌, ◌<◌, ◌≤◌, zero, suc, inl, inr, Bool, true, false, List, [], ◌∷◌, drop, get_or, length, sym, ap, subst, ◌∙◌, arith, max}
use Rattle.std.specs.Prelude.{Option, None, Some, slice_range, if◌then◌else◌}
use Rattle.std.specs.List.{fold}
use Rattle.std.specs.Option.{option_map}
use Rattle.std.proofs.lemmas.Bool.{cases_lt}
use Rattle.std.proofs.lemmas.List.{get_or-map, length-map}
use Rattle.aho_core.specs.declared.search.Anchored.TheVariants.{No}
use Rattle.aho_core.specs.Bytes.{folded_by}
use Rattle.aho_core.specs.Occurrence.{Occurrence}
use Rattle.aho_core.specs.Occurs.{Occurs}
use Rattle.aho_core.specs.Patterns.{Patterns, pattern_at}
use Rattle.aho_prefilter.specs.Candidate.{IsPossibleStart, NothingOccurs}
use Rattle.aho_prefilter.specs.PackedHeads.{IsFirstHeaded, MayStartAt, packed_heads_of}
use Rattle.aho_prefilter.specs.Prefilter.{AreWindowsOf}
use Rattle.aho_prefilter.specs.Windows.{FindsWindow, begins_often, bytes_before, window_of, windows_of}
use Rattle.aho_prefilter.specs.declared.packed_heads.PackedHeads.{PackedHeads}
use Rattle.aho_prefilter.specs.declared.windows.Windows.{Windows}
use Rattle.aho_prefilter.proofs.HeadsSound.{MayStartAt-stands}
use Rattle.aho_prefilter.proofs.PackedFinds.{stands}
use Rattle.aho_prefilter.proofs.PackedSound.{StandsAt}
use Rattle.aho_prefilter.proofs.Parts.{length_part, part-reads}

pub bytes_before-within : (rule : Bool) (word : List ℕ) → bytes_before rule word ≤ length word
bytes_before-within rule [] = omega arith
bytes_before-within rule (byte ∷ word) = by_test (begins_often rule (byte ∷ word)) (bytes_before-within rule word)
  where
    by_test : (often : Bool) → bytes_before rule word ≤ length word → (if often then suc (bytes_before rule word) else 0) ≤ suc (length word)
    by_test true within = omega (arith, within)
    by_test false within = omega arith

-- and one more than behind its first byte, where it does
pub bytes_before-more : (rule : Bool) (word : List ℕ) (k : ℕ) → k < length word → begins_often rule (drop k word) ≡ true → bytes_before rule (drop k word) ≡ bytes_before rule (drop (k + 1) word) + 1
bytes_before-more rule [] k below often = absurd (omega arith)
bytes_before-more rule (byte ∷ word) zero below often = ap (λ (b : Bool). if b then suc (bytes_before rule word) else 0) often ∙ omega arith
bytes_before-more rule (byte ∷ word) (suc k) below often =
    let next : suc k + 1 ≡ suc (k + 1) = omega arith in
    bytes_before-more rule word k (omega arith) often ∙ ap (λ n. bytes_before rule (drop n (byte ∷ word)) + 1) (sym next)

-- no more stand before the window of a word than before any
most-from : (rule : Bool) (words : List (List ℕ)) (most : ℕ) → most ≤ fold (λ n word. max n (bytes_before rule word)) most words
most-from rule [] most = omega arith
most-from rule (word ∷ words) most = omega (arith, most-from rule words (max most (bytes_before rule word)))

most-each : (rule : Bool) (words : List (List ℕ)) (most k : ℕ) → k < length words → bytes_before rule (get_or words k []) ≤ fold (λ n word. max n (bytes_before rule word)) most words
most-each rule [] most k below = absurd (omega arith)
most-each rule (word ∷ words) most zero below = omega (arith, most-from rule words (max most (bytes_before rule word)))
most-each rule (word ∷ words) most (suc k) below = most-each rule words (max most (bytes_before rule word)) k (omega arith)

-- how long a window is
length_window : (rule : Bool) (word : List ℕ) → length (window_of rule word) ≡ length word - bytes_before rule word
length_window rule word = length_part word (bytes_before rule word) (length word) (omega arith)

module _ (p : Patterns) (windows : Windows) (are : AreWindowsOf p windows) where
  abbrev all : List (List ℕ)
  all = windows_of p.ignore_case p.words

  abbrev made : PackedHeads
  made = packed_heads_of p.ignore_case are.tested are.size all

  numbered : (k : ℕ) → k < length p.words → k < length all
  numbered k below = omega (arith, below, length-map p.words (λ word. window_of p.ignore_case word))

  is_window : (k : ℕ) → k < length p.words → get_or all k [] ≡ window_of p.ignore_case (pattern_at p k)
  is_window k below = get_or-map (λ word. window_of p.ignore_case word) p.words k [] [] below

  some : (k : ℕ) → k < length p.words → 0 < length (pattern_at p k)
  some k below =
      let long : are.size ≤ length (get_or all k []) = are.long k (numbered k below) in
      omega (arith, long, are.some, ap (λ (w : List ℕ). length w) (is_window k below), length_window p.ignore_case (pattern_at p k))

  -- how many bytes stand before the window of the pattern that occurs
  abbrev before : Occurrence → ℕ
  before m = bytes_before p.ignore_case (pattern_at p m.pattern)

  before-most : (m : Occurrence) → m.pattern < length p.words → before m ≤ windows.before
  before-most m below = omega (arith, most-each p.ignore_case p.words 0 m.pattern below, ap (λ (w : Windows). w.before) are.made)

  module _ (haystack : List ℕ) (start end : ℕ) (ordered : start ≤ end) (within : end ≤ length haystack) where
    abbrev part : List ℕ
    part = slice_range haystack start end

    -- where a pattern occurs, its window stands
    window_stands : (m : Occurrence) → Occurs p No haystack start end m → StandsAt p.ignore_case (window_of p.ignore_case (pattern_at p m.pattern)) part (m.start - start + before m)
    window_stands m o k below =
        let word = pattern_at p m.pattern in
        let at = m.start - start in
        let inside : k < length word - before m = omega (arith, below, length_window p.ignore_case word) in
        let there : folded_by p.ignore_case (get_or word (before m + k) 0) ≡ folded_by p.ignore_case (get_or part (at + (before m + k)) 0) = stands p some haystack start end ordered within m o (before m + k) (omega arith) in
        let moved : at + (before m + k) ≡ at + before m + k = omega arith in
        ap (folded_by p.ignore_case) (part-reads word (before m) (length word) k inside) ∙ there ∙ ap (λ n. folded_by p.ignore_case (get_or part n 0)) moved

    -- so the search may stop there
    may_start : (m : Occurrence) → Occurs p No haystack start end m → MayStartAt made part (m.start - start + before m)
    may_start m o =
        let word = pattern_at p m.pattern in
        let low : start ≤ m.start = o.after_start in
        let long : m.start + length word ≡ m.end = o.sized in
        let high : m.end ≤ end = o.before_end in
        let size : length (get_or all m.pattern []) ≡ length word - before m = ap (λ (w : List ℕ). length w) (is_window m.pattern o.numbered) ∙ length_window p.ignore_case word in
        MayStartAt-stands p.ignore_case are.tested are.size all part m.pattern (m.start - start + before m) (numbered m.pattern o.numbered) (are.long m.pattern (numbered m.pattern o.numbered))
        (subst (λ (w : List ℕ). StandsAt p.ignore_case w part (m.start - start + before m)) (sym (is_window m.pattern o.numbered)) (window_stands m o))
        (omega (arith, size, bytes_before-within p.ignore_case word, length_part haystack start end within))

    inside-part : (m : Occurrence) → Occurs p No haystack start end m → m.start - start + before m < length part
    inside-part m o =
        let may = may_start m o in
        let fits : m.start - start + before m + made.heads.size ≤ length part = may.fits in
        let word = pattern_at p m.pattern in
        let low : start ≤ m.start = o.after_start in
        let long : m.start + length word ≡ m.end = o.sized in
        let high : m.end ≤ end = o.before_end in
        let size : are.size ≤ length (get_or all m.pattern []) = are.long m.pattern (numbered m.pattern o.numbered) in
        omega (arith, size, are.some, ap (λ (w : List ℕ). length w) (is_window m.pattern o.numbered), length_window p.ignore_case word, length_part haystack start end within)

    -- where the search finds no place nothing occurs
    none-hit : (hit : Option ℕ) → IsFirstHeaded made part hit → None ≡ option_map (λ place. place - windows.before) hit → NothingOccurs p haystack start end
    none-hit None none is m o = none (m.start - start + before m) (omega arith) (inside-part m o) (may_start m o)
    none-hit (Some place) found is m o = cc

    own : (hit : Option ℕ) → IsFirstHeaded windows.search part hit → IsFirstHeaded made part hit
    own hit first = subst (λ s. IsFirstHeaded s part hit) (ap (λ (w : Windows). w.search) are.made) first

    pub windows-none : FindsWindow windows part None → NothingOccurs p haystack start end
    windows-none finds = none-hit finds.hit (own finds.hit finds.first) finds.is

    -- nothing starts before the place that it finds
    start-hit : (at : ℕ) (hit : Option ℕ) → IsFirstHeaded made part hit → Some at ≡ option_map (λ place. place - windows.before) hit → IsPossibleStart p haystack start end (start + at)
    start-hit at None none is = cc
    start-hit at (Some place) found is =
        let same : at ≡ place - windows.before = cc in
        record {
          after_start = omega arith;
          before_end = omega (arith, same, found.0.high, length_part haystack start end within);
          first = λ m o.
              let low : start ≤ m.start = o.after_start in
              elim (cases_lt (m.start - start + before m) place) [
                | inl sooner ↦ absurd (found.0.before (m.start - start + before m) (omega arith) sooner (may_start m o))
                | inr late ↦ omega (arith, same, late, before-most m o.numbered)
              ];
        }

    pub windows-start : (at : ℕ) → FindsWindow windows part (Some at) → IsPossibleStart p haystack start end (start + at)
    windows-start at finds = start-hit at finds.hit (own finds.hit finds.first) finds.is
