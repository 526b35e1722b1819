-- How many an overlapping search has found, from one call to the next.
use Rattle.std.proofs.Common.{◌≡◌, ℕ, zero, suc, ◌+◌, ◌-◌, ◌<◌, ◌≤◌, inl, inr, min, List, [], ◌∷◌, ◌++◌, length, take, get_or, refl, sym, ◌∙◌, ap, subst, arith, length-append}
use Rattle.std.specs.Prelude.{Some, None, slice_get, slice_range}
use Rattle.std.proofs.Math.Seq.{take-append-add}
use Rattle.std.proofs.lemmas.Bool.{cases_lt}
use Rattle.std.proofs.lemmas.List.{length-take-le, take-append-le}
use Rattle.std.proofs.lemmas.Option.{slice_get_past}
use Rattle.aho_core.specs.declared.search.Anchored.{Anchored}
use Rattle.aho_core.specs.Occurrence.{Occurrence}
use Rattle.aho_core.specs.Overlapping.{overlapping}
use Rattle.aho_core.specs.Patterns.{Patterns}
use Rattle.aho_core.specs.Progress.{IsPartWay, StandsAt, listed_at, listed_before}
use Rattle.aho_core.specs.Search.{Search}
use Rattle.aho_automaton.specs.Overlaps.{NoneEnds}
use Rattle.aho_automaton.proofs.Listing.{at_part, before_part, ending, listed, listed_between, listing, listing_parts}
use Rattle.aho_automaton.proofs.Places.{part_more}

-- an element of the second of two lists
slice_get-append : {X : Type 0} (xs ys : List X) (i : ℕ) → slice_get (xs ++ ys) (length xs + i) ≡ slice_get ys i
slice_get-append [] ys i = let e : 0 + i ≡ i = omega arith in ap (slice_get ys) e
slice_get-append (x ∷ xs) ys i =
    let e : suc (length xs) + i ≡ suc (length xs + i) = omega arith in
    ap (slice_get (x ∷ (xs ++ ys))) e ∙ slice_get-append xs ys i

-- an element of the first
slice_get-front : {X : Type 0} (xs ys : List X) (i : ℕ) → i < length xs → slice_get (xs ++ ys) i ≡ slice_get xs i
slice_get-front [] ys i below = absurd (omega arith)
slice_get-front (x ∷ xs) ys zero below = refl
slice_get-front (x ∷ xs) ys (suc i) below = slice_get-front xs ys i (omega arith)

module _ (p : Patterns) (search : Search) where
  abbrev pub all : List Occurrence
  all = overlapping p search

  abbrev pub here : ℕ → List Occurrence
  here at = ending p search.haystack search.start search.anchored at

  abbrev pub before : ℕ → List Occurrence
  before at = listed p search.haystack search.start search.anchored search.start (at - search.start)

  abbrev pub after : ℕ → List Occurrence
  after at = listed p search.haystack search.start search.anchored (at + 1) (search.end - at)

  before_is : (at : ℕ) → search.start ≤ at → at ≤ search.end + 1 → listed_before p search at ≡ before at
  before_is at low high = before_part p search.haystack search.start search.anchored at search.end low high

  pub here_is : (at : ℕ) → search.start ≤ at → at ≤ search.end → listed_at p search at ≡ here at
  here_is at low high = at_part p search.haystack search.start search.anchored at search.end low high

  parts : (at : ℕ) → search.start ≤ at → at ≤ search.end → all ≡ before at ++ (here at ++ after at)
  parts at low high = listing_parts p search.haystack search.start search.anchored at search.end low high

  -- and none more ends there
  pub none_further : (from at : ℕ) → search.start ≤ at → at ≤ search.end → here at ≡ [] → NoneEnds p search from at → NoneEnds p search from (at + 1)
  none_further from at low high nothing none end least most =
      elim (cases_lt end at) [
        | inl sooner ↦ none end least sooner
        | inr ge ↦ (let same : at ≡ end = omega arith in subst (λ (x : ℕ). listed_at p search x ≡ []) same (here_is at low high ∙ nothing))
      ]

  -- how many are there
  sized : (at : ℕ) → search.start ≤ at → at ≤ search.end → length all ≡ length (before at) + (length (here at) + length (after at))
  sized at low high = ap length (parts at low high) ∙ length-append (before at) (here at ++ after at) ∙ ap (λ (n : ℕ). length (before at) + n) (length-append (here at) (after at))

module _ (valid : ℕ → Type 0) (held : Anchored → List ℕ → ℕ → Type 0) (p : Patterns) (search : Search) where
  -- where it stands
  pub place_low : (sid at : ℕ) → StandsAt valid held p search sid at → search.start ≤ at
  place_low sid at s = omega (arith, s.after_start, s.before_place)

  -- one byte further
  pub stands_further : (sid at next : ℕ) → at < search.end → search.end ≤ length search.haystack → valid next
      → ((word : List ℕ) → held search.anchored word sid → held search.anchored (word ++ get_or search.haystack at 0 ∷ []) next)
      → StandsAt valid held p search sid at → StandsAt valid held p search next (at + 1)
  stands_further sid at next less within is_state goes_on s = record {
    origin = s.origin;
    after_start = s.after_start;
    before_place = omega (arith, s.before_place);
    in_span = omega arith;
    from_start = s.from_start;
    apart = s.apart;
    is_state = is_state;
    is_held = subst (λ (w : List ℕ). held search.anchored w next) (sym (part_more search.haystack s.origin at s.before_place (omega arith))) (goes_on (slice_range search.haystack s.origin at) s.is_held);
  }

  -- how many were found
  pub found_so_far : (sid at index n : ℕ) → IsPartWay valid held p search sid at index n → n ≡ length (before p search at) + index
  found_so_far sid at index n w =
      let low : search.start ≤ at = place_low sid at w.stands in
      let high : at ≤ search.end = w.stands.in_span in
      omega (arith, ap length w.given, length-take-le n (all p search) w.within, length-append (listed_before p search at) (take index (listed_at p search at)), length-take-le index (listed_at p search at) w.counted, ap length (before_is p search at low (omega arith)))

  -- from the count on, what was found is what it says
  pub part_way : (sid at index n : ℕ) → StandsAt valid held p search sid at → index ≤ length (here p search at) → n ≡ length (before p search at) + index → IsPartWay valid held p search sid at index n
  part_way sid at index n stands counted count =
      let low : search.start ≤ at = place_low sid at stands in
      let high : at ≤ search.end = stands.in_span in
      record {
        stands = stands;
        counted = omega (arith, counted, ap length (here_is p search at low high));
        within = omega (arith, sized p search at low high);
        given =
            ap (take n) (parts p search at low high)
            ∙ ap (λ (k : ℕ). take k (before p search at ++ (here p search at ++ after p search at))) count
            ∙ take-append-add (before p search at) (here p search at ++ after p search at) index
            ∙ ap (λ xs. before p search at ++ xs) (take-append-le index (here p search at) (after p search at) counted)
            ∙ sym (ap (λ xs. xs ++ take index (here p search at)) (before_is p search at low (omega arith)))
            ∙ sym (ap (λ xs. listed_before p search at ++ take index xs) (here_is p search at low high));
      }

  -- before the first byte
  pub begun : (sid : ℕ) → StandsAt valid held p search sid search.start → IsPartWay valid held p search sid search.start 0 0
  begun sid stands =
      let none : search.start - search.start ≡ 0 = omega arith in
      let nothing : length (before p search search.start) ≡ 0 = ap (λ (n : ℕ). length (listed p search.haystack search.start search.anchored search.start n)) none in
      part_way sid search.start 0 0 stands (omega arith) (omega arith)

  -- the next of those that end here
  pub next_here : (sid at index n : ℕ) (m : Occurrence) → IsPartWay valid held p search sid at index n → slice_get (here p search at) index ≡ Some m → index < length (here p search at)
      → (slice_get (all p search) n ≡ Some m) × (min (n + 1) (length (all p search)) ≡ n + 1) × IsPartWay valid held p search sid at (index + 1) (n + 1)
  next_here sid at index n m w is below =
      let low : search.start ≤ at = place_low sid at w.stands in
      let high : at ≤ search.end = w.stands.in_span in
      let count : n ≡ length (before p search at) + index = found_so_far sid at index n w in (
        ap (λ xs. slice_get xs n) (parts p search at low high)
            ∙ ap (slice_get (before p search at ++ (here p search at ++ after p search at))) count
            ∙ slice_get-append (before p search at) (here p search at ++ after p search at) index
            ∙ slice_get-front (here p search at) (after p search at) index below
            ∙ is,
        omega (arith, sized p search at low high),
        part_way sid at (index + 1) (n + 1) w.stands (omega arith) (omega arith),
      )

  -- all that end here were found, and nothing ends before a later place
  pub moved_on : (sid at index n sid' at' : ℕ) → IsPartWay valid held p search sid at index n → length (here p search at) ≤ index → at < at' → StandsAt valid held p search sid' at' → NoneEnds p search at at' → IsPartWay valid held p search sid' at' 0 n
  moved_on sid at index n sid' at' w done less stands none =
      let low : search.start ≤ at = place_low sid at w.stands in
      let high : at ≤ search.end = w.stands.in_span in
      let high' : at' ≤ search.end = stands.in_span in
      let join : before p search at' ≡ before p search at ++ here p search at = listed_between p search.haystack search.start search.anchored at at' low less (λ k least most. sym (here_is p search k (omega arith) (omega arith)) ∙ none k least most) in
      part_way sid' at' 0 n stands (omega arith)
      (omega (arith, found_so_far sid at index n w, w.counted, ap length (here_is p search at low high), ap length join, length-append (before p search at) (here p search at)))

  -- nothing ends later: all were found
  pub all_found : (sid at index n : ℕ) → IsPartWay valid held p search sid at index n → length (here p search at) ≤ index → NoneEnds p search at (search.end + 1)
      → (n ≡ length (all p search)) × (slice_get (all p search) n ≡ None) × (min (n + 1) (length (all p search)) ≡ length (all p search))
  all_found sid at index n w done none =
      let low : search.start ≤ at = place_low sid at w.stands in
      let high : at ≤ search.end = w.stands.in_span in
      let join : before p search (search.end + 1) ≡ before p search at ++ here p search at = listed_between p search.haystack search.start search.anchored at (search.end + 1) low (omega arith) (λ k least most. sym (here_is p search k (omega arith) (omega arith)) ∙ none k least most) in
      let whole : (all p search) ≡ before p search (search.end + 1) = listing p search.haystack search.start search.anchored search.end in
      let total : n ≡ length (all p search) =
      omega (arith, found_so_far sid at index n w, w.counted, ap length (here_is p search at low high), ap length join, ap length whole, length-append (before p search at) (here p search at)) in
      (total, slice_get_past (all p search) n (omega arith), omega arith)
