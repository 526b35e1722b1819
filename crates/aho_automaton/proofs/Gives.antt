-- What a listed pattern gives.
use Rattle.std.proofs.Common.{◌≡◌, ℕ, zero, suc, ◌+◌, ◌-◌, ◌<◌, ◌≤◌, min, Bool, List, [], ◌∷◌, map, length, refl, sym, ◌∙◌, ap, subst, arith}
use Rattle.std.specs.Prelude.{Some, None, slice_get, slice_index}
use Rattle.std.proofs.Math.Nat.{mul-le-mul_left}
use Rattle.std.proofs.lemmas.List.{length-map}
use Rattle.std.proofs.lemmas.List.Elements.{All-weaker}
use Rattle.aho_core.specs.declared.search.Anchored.{Anchored}
use Rattle.aho_core.specs.declared.search.MatchKind.{MatchKind}
use Rattle.aho_core.specs.declared.search.MatchKind.TheVariants.{Standard}
use Rattle.aho_core.specs.Laws.{Fits, Reads}
use Rattle.aho_core.specs.Overlapping.{overlapping}
use Rattle.aho_core.specs.Patterns.{Patterns}
use Rattle.aho_core.specs.Progress.{FitsBy, FitsFrom, FitsSearch, IsPartWay, Progress, StandsAt}
use Rattle.aho_core.specs.Search.{Search}
use Rattle.aho_automaton.specs.Overlaps.{NoneEnds, ended, left_at}
use Rattle.aho_automaton.proofs.Counts.{ending_bound}
use Rattle.aho_automaton.proofs.Endings.{lists_here}
use Rattle.aho_automaton.proofs.PartWay.{all_found, begun, here, moved_on, next_here}
use Rattle.aho_automaton.proofs.Places.{length_part, no_part}

-- an element of a list of numbers, changed
slice_get-changed : {X : Type 0} (f : ℕ → X) (xs : List ℕ) (i : ℕ) → i < length xs → slice_get (map f xs) i ≡ Some (f (slice_index xs i))
slice_get-changed f [] i below = absurd (omega arith)
slice_get-changed f (x ∷ xs) zero below = refl
slice_get-changed f (x ∷ xs) (suc i) below = slice_get-changed f xs i (omega arith)

module _ {p : Patterns} {kind : MatchKind} {lengths : List ℕ} {held : Anchored → List ℕ → ℕ → Type 0} {list : ℕ → List ℕ} {dead starts : ℕ → Bool} (laws : Reads p kind lengths held list dead starts) (standard : kind ≡ Standard) (valid : ℕ → Type 0) (search : Search) (within : search.end ≤ length search.haystack) where
  -- of a Standard automaton
  pub from_fits : (progress : Progress) (n : ℕ) → FitsSearch valid held p search progress n → FitsFrom valid held p search progress.id progress.at progress.next_match_index n
  from_fits progress n = subst (λ (k : MatchKind). FitsBy k valid held p search progress n) (sym laws.kind_is ∙ standard)

  pub to_fits : (progress : Progress) (n : ℕ) → FitsFrom valid held p search progress.id progress.at progress.next_match_index n → FitsSearch valid held p search progress n
  to_fits progress n = subst (λ (k : MatchKind). FitsBy k valid held p search progress n) (sym standard ∙ laws.kind_is)

  -- before the first byte
  pub part_way_at_start : (sid at : ℕ) (anchored : Anchored) → at ≡ search.start → anchored ≡ search.anchored → search.start ≤ search.end → valid sid → held anchored [] sid → IsPartWay valid held p search sid at 0 0
  part_way_at_start sid at anchored begins same ordered is_state is_held =
      subst (λ (x : ℕ). IsPartWay valid held p search sid x 0 0) (sym begins)
      (begun valid held p search sid
      (record {
        origin = search.start;
        after_start = omega arith;
        before_place = omega arith;
        in_span = ordered;
        from_start = λ e. refl;
        apart = λ m o less. absurd (omega (arith, less, o.after_start));
        is_state = is_state;
        is_held = subst (λ (w : List ℕ). held search.anchored w sid) (sym (no_part search.haystack search.start)) (subst (λ (a : Anchored). held a [] sid) same is_held);
      }))

  -- a listed pattern is no longer than what was read
  pub fits_here : (sid at : ℕ) → StandsAt valid held p search sid at → Fits lengths at (list sid)
  fits_here sid at s =
      All-weaker (λ k. (k < length lengths) × (slice_index lengths k ≤ at - s.origin)) (λ k. (k < length lengths) × (slice_index lengths k ≤ at)) (λ k h. (h.0, omega (arith, h.1))) (list sid)
      (subst (λ (n : ℕ). Fits lengths n (list sid)) (length_part search.haystack s.origin at (omega (arith, s.in_span))) (laws.listed search.anchored _ sid s.is_held))

  -- as many are listed as end here
  pub as_many_here : (sid at : ℕ) → StandsAt valid held p search sid at → length (list sid) ≡ length (here p search at)
  as_many_here sid at s = sym (length-map (list sid) (ended lengths at)) ∙ ap length (lists_here laws standard valid search sid at within s)

  -- and no more than there are patterns
  few_here : (sid at : ℕ) → StandsAt valid held p search sid at → length (list sid) ≤ length lengths
  few_here sid at s =
      omega (arith, as_many_here sid at s, ending_bound p search.haystack search.anchored search.start at (omega (arith, s.in_span)), ap length laws.lengths_are, length-map p.words length)

  -- the next that is listed here is the next that is found
  pub gives : (sid at index n : ℕ) → IsPartWay valid held p search sid at index n → index < length (list sid)
      → (Some (ended lengths at (slice_index (list sid) index)) ≡ slice_get (overlapping p search) n)
      × FitsFrom valid held p search (Some sid) at (Some (index + 1)) (min (n + 1) (length (overlapping p search)))
  gives sid at index n w below =
      let m = ended lengths at (slice_index (list sid) index) in
      let is : slice_get (here p search at) index ≡ Some m =
      ap (λ xs. slice_get xs index) (sym (lists_here laws standard valid search sid at within w.stands)) ∙ slice_get-changed (ended lengths at) (list sid) index below in
      let next = next_here valid held p search sid at index n m w is (omega (arith, as_many_here sid at w.stands)) in
      (sym next.0, subst (IsPartWay valid held p search sid at (index + 1)) (sym next.1) next.2)

  -- fewer are left then
  pub fewer_here : (sid at index : ℕ) → StandsAt valid held p search sid at → index < length (list sid) → left_at (length lengths) search at (index + 1) < left_at (length lengths) search at index
  fewer_here sid at index s below = omega (arith, few_here sid at s)

  -- the first that is listed at a later place
  pub gives_later : (sid at index n sid' at' : ℕ) → IsPartWay valid held p search sid at index n → length (list sid) ≤ index → at < at' → StandsAt valid held p search sid' at' → NoneEnds p search at at' → 0 < length (list sid')
      → (Some (ended lengths at' (slice_index (list sid') 0)) ≡ slice_get (overlapping p search) n)
      × FitsFrom valid held p search (Some sid') at' (Some 1) (min (n + 1) (length (overlapping p search)))
  gives_later sid at index n sid' at' w done less s none some =
      gives sid' at' 0 n (moved_on valid held p search sid at index n sid' at' w (omega (arith, as_many_here sid at w.stands)) less s none) some

  pub fewer_later : (sid at index sid' at' : ℕ) → at < at' → StandsAt valid held p search sid' at' → 0 < length (list sid') → left_at (length lengths) search at' 1 < left_at (length lengths) search at index
  fewer_later sid at index sid' at' less s some =
      let nearer : (search.end - at') + 1 ≤ search.end - at = omega (arith, s.in_span) in
      omega (arith, few_here sid' at' s, mul-le-mul_left (length lengths) nearer)

  -- nothing is left
  pub gives_none : (sid at index n : ℕ) → IsPartWay valid held p search sid at index n → length (list sid) ≤ index → NoneEnds p search at (search.end + 1)
      → (None ≡ slice_get (overlapping p search) n) × (min (n + 1) (length (overlapping p search)) ≡ length (overlapping p search))
  gives_none sid at index n w done none =
      let last = all_found valid held p search sid at index n w (omega (arith, as_many_here sid at w.stands)) none in
      (sym last.1, last.2)
