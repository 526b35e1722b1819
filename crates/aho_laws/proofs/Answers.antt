-- What a search answers: at most one occurrence, one wherever something occurs, and by each kind the same earliest one.
use Rattle.std.proofs.Common.{◌≡◌, ◌⊎◌, inl, inr, ℕ, ◌+◌, ◌≤◌, ◌<◌, Bool, true, false, List, [], ◌∷◌, length, Option, Some, None, refl, sym, subst, arith, ap}
use Rattle.std.specs.Prelude.{MatchBool, nat_eq}
use Rattle.std.specs.List.{filter}
use Rattle.std.proofs.lemmas.Bool.{cases_lt, eq-eqb, eqb-true, MatchBool-at_true}
use Rattle.aho_core.specs.declared.search.Anchored.{Anchored}
use Rattle.aho_core.specs.declared.search.Anchored.TheVariants.{No, Yes}
use Rattle.aho_core.specs.declared.search.MatchKind.{MatchKind}
use Rattle.aho_core.specs.declared.search.MatchKind.TheVariants.{Standard, LeftmostFirst, LeftmostLongest}
use Rattle.aho_core.specs.Answer.{IsAnswer, IsEarliestAnswer, IsFront, OccursUpTo}
use Rattle.aho_core.specs.Best.{IsBest, IsBestOrNone}
use Rattle.aho_core.specs.Listing.{IsMember}
use Rattle.aho_core.specs.Occurrence.{Occurrence}
use Rattle.aho_core.specs.Occurs.{Occurs, OccursIn}
use Rattle.aho_core.specs.Order.{IsBefore, IsLessOr}
use Rattle.aho_core.specs.Overlapping.{all_occurrences}
use Rattle.aho_core.specs.Patterns.{Patterns, pattern_at}
use Rattle.aho_core.specs.Search.{Search}
use Rattle.aho_laws.proofs.Listings.{all_occurrences-has, all_occurrences-only}
use Rattle.aho_laws.proofs.Members.{member-filter, member-of_filter}
use Rattle.aho_laws.proofs.Orders.{IsBefore-total, IsBefore-trans, IsBest-unique, IsBestOrNone-same, IsBestOrNone-unique}

-- a choice of two facts, by cases
matched-both : {X : Type 0} (b : Bool) (P Q : X → Type 0) → (x : X) × P x → (x : X) × Q x → (x : X) × MatchBool b (P x) (Q x)
matched-both true P Q with_p with_q = with_p
matched-both false P Q with_p with_q = with_q

matched-two : (b : Bool) (P Q R S T : Type 0) → (P → R → T) → (Q → S → T) → MatchBool b P Q → MatchBool b R S → T
matched-two true P Q R S T of_p of_q one two = of_p one two
matched-two false P Q R S T of_p of_q one two = of_q one two

matched-one : (b : Bool) (P Q T : Type 0) → (P → T) → (Q → T) → MatchBool b P Q → T
matched-one true P Q T of_p of_q one = of_p one
matched-one false P Q T of_p of_q one = of_q one

true-matched : (b : Bool) (P Q : Type 0) → b ≡ true → P → MatchBool b P Q
true-matched true P Q e one = one
true-matched false P Q e one = cc

-- of occurrences that end together each kind has the order by start, then number
same_end-order : (kind : MatchKind) (x y : Occurrence) → x.end ≡ y.end → IsBefore kind x y → IsLessOr x.start y.start (x.pattern < y.pattern)
same_end-order Standard x y e h = elim h [ inl less ↦ absurd (omega arith) | inr both ↦ both.1 ]
same_end-order LeftmostFirst x y e h = h
same_end-order LeftmostLongest x y e h = elim h [ inl less ↦ inl less | inr both ↦ elim both.1 [ inl more ↦ absurd (omega arith) | inr rest ↦ inr (both.0, rest.1) ] ]

order-same_end : (kind : MatchKind) (x y : Occurrence) → x.end ≡ y.end → IsLessOr x.start y.start (x.pattern < y.pattern) → IsBefore kind x y
order-same_end Standard x y e h = inr (e, h)
order-same_end LeftmostFirst x y e h = h
order-same_end LeftmostLongest x y e h = elim h [ inl less ↦ inl less | inr both ↦ inr (both.0, inr (e, both.1)) ]

module _ (p : Patterns) where
  -- the same occurrence in another span
  pub Occurs-of_end : (anchored : Anchored) (haystack : List ℕ) (start end other : ℕ) (m : Occurrence) → m.end ≤ other → Occurs p anchored haystack start end m → Occurs p anchored haystack start other m
  Occurs-of_end anchored haystack start end other m within h = record { numbered = h.numbered; after_start = h.after_start; before_end = within; sized = h.sized; same = h.same; admitted = h.admitted }

  pub Occurs-unanchored : (anchored : Anchored) (haystack : List ℕ) (start from end : ℕ) (m : Occurrence) → from ≤ start → Occurs p anchored haystack start end m → Occurs p No haystack from end m
  Occurs-unanchored anchored haystack start from end m le h = record { numbered = h.numbered; after_start = omega (arith, h.after_start); before_end = h.before_end; sized = h.sized; same = h.same; admitted = λ e. cc }

  -- what a span holds, as a list
  occurrences_of : Anchored → List ℕ → ℕ → ℕ → List Occurrence
  occurrences_of No haystack start end = all_occurrences p haystack start end
  occurrences_of Yes haystack start end = filter (λ (m : Occurrence). nat_eq m.start start) (all_occurrences p haystack start end)

  occurrences_of-has : (anchored : Anchored) (haystack : List ℕ) (start end : ℕ) (m : Occurrence) → Occurs p anchored haystack start end m → IsMember (occurrences_of anchored haystack start end) m
  unfolding occurrences_of
  occurrences_of-has No haystack start end m h = all_occurrences-has p haystack start end m h
  occurrences_of-has Yes haystack start end m h =
      member-filter (λ (o : Occurrence). nat_eq o.start start) (all_occurrences p haystack start end) m (eq-eqb m.start start (h.admitted refl))
      (all_occurrences-has p haystack start end m (Occurs-unanchored Yes haystack start start end m (omega arith) h))

  occurrences_of-only : (anchored : Anchored) (haystack : List ℕ) (start end : ℕ) (m : Occurrence) → end ≤ length haystack → IsMember (occurrences_of anchored haystack start end) m → Occurs p anchored haystack start end m
  unfolding occurrences_of
  occurrences_of-only No haystack start end m within h = all_occurrences-only p haystack start end m within h
  occurrences_of-only Yes haystack start end m within h =
      let kept = member-of_filter (λ (o : Occurrence). nat_eq o.start start) (all_occurrences p haystack start end) m h in
      let here = all_occurrences-only p haystack start end m within kept.1 in
      record { numbered = here.numbered; after_start = here.after_start; before_end = here.before_end; sized = here.sized; same = here.same; admitted = λ e. eqb-true m.start start kept.0 }

  -- a pattern at a range of its length
  IsSized : Occurrence → Type 0
  IsSized m = m.start + length (pattern_at p m.pattern) ≡ m.end

  -- a list has a best member, unless it is empty
  best_with : (kind : MatchKind) (x : Occurrence) (xs : List Occurrence) (best : Option Occurrence) → IsSized x → ((m : Occurrence) → IsMember xs m → IsSized m)
      → IsBestOrNone kind (IsMember xs) best → (more : Option Occurrence) × IsBestOrNone kind (IsMember (x ∷ xs)) more
  unfolding IsSized
  best_with kind x xs None sized each none = (Some x, (inl refl, λ other in_other. elim in_other [ inl e ↦ inl e | inr later ↦ absurd (none other later) ]))
  best_with kind x xs (Some y) sized each best =
      elim (IsBefore-total p kind x y sized (each y best.0)) [
        | inl same ↦ (Some x, (inl refl, λ other in_other. elim in_other [ inl e ↦ inl e | inr later ↦ subst (λ (o : Occurrence). (other ≡ o) ⊎ IsBefore kind o other) (sym same) (best.1 other later) ]))
        | inr apart ↦
            elim apart [
              | inl before ↦ (
                Some x,
                (
                  inl refl,
                  λ other in_other.
                      elim in_other [
                        | inl e ↦ inl e
                        | inr later ↦
                            elim (best.1 other later) [
                              | inl e ↦ inr (subst (IsBefore kind x) (sym e) before)
                              | inr after ↦ inr (IsBefore-trans kind x y other before after)
                            ]
                      ],
                ),
              )
              | inr before ↦ (
                Some y,
                (inr best.0, λ other in_other. elim in_other [ inl e ↦ inr (subst (IsBefore kind y) (sym e) before) | inr later ↦ best.1 other later ]),
              )
            ]
      ]

  best_of_list : (kind : MatchKind) (xs : List Occurrence) → ((m : Occurrence) → IsMember xs m → IsSized m) → (best : Option Occurrence) × IsBestOrNone kind (IsMember xs) best
  best_of_list kind [] each = (None, λ other in_other. in_other)
  best_of_list kind (x ∷ xs) each =
      let rest = best_of_list kind xs (λ m in_m. each m (inr in_m)) in
      best_with kind x xs rest.0 (each x (inl refl)) (λ m in_m. each m (inr in_m)) rest.1

  -- a span has a best occurrence, or none
  pub best_of_span : (kind : MatchKind) (anchored : Anchored) (haystack : List ℕ) (start end : ℕ) → end ≤ length haystack → (best : Option Occurrence) × IsBestOrNone kind (Occurs p anchored haystack start end) best
  unfolding IsSized
  best_of_span kind anchored haystack start end within =
      let found = best_of_list kind (occurrences_of anchored haystack start end) (λ m in_m. (occurrences_of-only anchored haystack start end m within in_m).sized) in (
        found.0,
        IsBestOrNone-same kind (IsMember (occurrences_of anchored haystack start end)) (Occurs p anchored haystack start end) found.0
            (occurrences_of-has anchored haystack start end) (λ m in_m. occurrences_of-only anchored haystack start end m within in_m) found.1,
      )

  -- and one where something occurs
  best-some : (kind : MatchKind) (Member : Occurrence → Type 0) (best : Option Occurrence) (m : Occurrence) → IsBestOrNone kind Member best → Member m → (found : Occurrence) × IsBest kind Member found
  best-some kind Member None m none in_m = absurd (none m in_m)
  best-some kind Member (Some found) m best in_m = (found, best)

  pub best_where_occurs : (kind : MatchKind) (anchored : Anchored) (haystack : List ℕ) (start end : ℕ) (m : Occurrence) → end ≤ length haystack → Occurs p anchored haystack start end m
      → (found : Occurrence) × IsBest kind (Occurs p anchored haystack start end) found
  best_where_occurs kind anchored haystack start end m within occurs =
      let best = best_of_span kind anchored haystack start end within in
      best-some kind (Occurs p anchored haystack start end) best.0 m best.1 occurs

  -- the shortest front ends where the occurrence does that ends first
  front-of_first : (search : Search) (first : Occurrence) → IsBest Standard (OccursIn p search) first → IsFront p search first.end
  front-of_first search first best =
      let inside = best.0.before_end in
      record {
        within = inside;
        some = (first, Occurs-of_end search.anchored search.haystack search.start search.end first.end first (omega arith) best.0);
        least = λ end m occurs.
            elim (cases_lt search.end end) [
              | inl past ↦ omega arith
              | inr upto ↦
                  (let before = occurs.before_end in
                  elim (best.1 m (Occurs-of_end search.anchored search.haystack search.start end search.end m (omega arith) occurs)) [
                    | inl same ↦ (let one : m.end ≡ first.end = ap (λ (o : Occurrence). o.end) same in omega arith)
                    | inr after ↦ elim after [ inl later ↦ omega arith | inr tie ↦ (let one : first.end ≡ m.end = tie.0 in omega arith) ]
                  ])
            ];
      }

  earliest_where_occurs : (search : Search) (m : Occurrence) → search.end ≤ length search.haystack → OccursIn p search m → (found : Occurrence) × IsEarliestAnswer p search (Some found)
  earliest_where_occurs search m within occurs =
      let first = best_where_occurs Standard search.anchored search.haystack search.start search.end m within occurs in
      let front : IsFront p search first.0.end = front-of_first search first.0 first.1 in
      let inside = front.within in
      let found = best_where_occurs p.kind search.anchored search.haystack search.start first.0.end front.some.0 (omega arith) front.some.1 in
      (found.0, (first.0.end, front, found.1))

  -- where something occurs in a span within the haystack, a search answers some match
  pub IsAnswer-some : (search : Search) (m : Occurrence) → search.end ≤ length search.haystack → OccursIn p search m → (found : Occurrence) × IsAnswer p search (Some found)
  IsAnswer-some search m within occurs =
      matched-both search.earliest (λ found. IsEarliestAnswer p search (Some found)) (λ found. IsBest p.kind (OccursIn p search) found)
      (earliest_where_occurs search m within occurs)
      (best_where_occurs p.kind search.anchored search.haystack search.start search.end m within occurs)

  earliest_by : (search : Search) (best : Option Occurrence) → search.end ≤ length search.haystack → IsBestOrNone Standard (OccursIn p search) best → (answer : Option Occurrence) × IsEarliestAnswer p search answer
  earliest_by search None within none = (None, none)
  earliest_by search (Some first) within best = let found = earliest_where_occurs search first within best.0 in (Some found.0, found.1)

  -- a search of a span within the haystack has an answer
  pub IsAnswer-exists : (search : Search) → search.end ≤ length search.haystack → (answer : Option Occurrence) × IsAnswer p search answer
  IsAnswer-exists search within =
      let first = best_of_span Standard search.anchored search.haystack search.start search.end within in
      matched-both search.earliest (IsEarliestAnswer p search) (IsBestOrNone p.kind (OccursIn p search))
      (earliest_by search first.0 within first.1)
      (best_of_span p.kind search.anchored search.haystack search.start search.end within)

  -- an answer occurs in its search, and where there is none, nothing does
  earliest-occurs : (search : Search) (m : Occurrence) → IsEarliestAnswer p search (Some m) → OccursIn p search m
  earliest-occurs search m h =
      let inside = h.1.within in
      let before = h.2.0.before_end in
      Occurs-of_end search.anchored search.haystack search.start h.0 search.end m (omega arith) h.2.0

  pub IsAnswer-occurs : (search : Search) (m : Occurrence) → IsAnswer p search (Some m) → OccursIn p search m
  IsAnswer-occurs search m h =
      matched-one search.earliest (IsEarliestAnswer p search (Some m)) (IsBest p.kind (OccursIn p search) m) (OccursIn p search m)
      (earliest-occurs search m) (λ best. best.0) h

  -- a search has at most one answer
  earliest-unique : (search : Search) (x y : Option Occurrence) → IsEarliestAnswer p search x → IsEarliestAnswer p search y → x ≡ y
  earliest-unique search None None h k = refl
  earliest-unique search None (Some y) h k = absurd (h y (earliest-occurs search y k))
  earliest-unique search (Some x) None h k = absurd (k x (earliest-occurs search x h))
  earliest-unique search (Some x) (Some y) h k =
      let low = h.1.least k.0 k.1.some.0 k.1.some.1 in
      let high = k.1.least h.0 h.1.some.0 h.1.some.1 in
      let same : k.0 ≡ h.0 = omega arith in
      let best : IsBest p.kind (OccursUpTo p search h.0) y = subst (λ (front : ℕ). IsBest p.kind (OccursUpTo p search front) y) same k.2 in
      ap (λ (m : Occurrence). Some m) (IsBest-unique p.kind (OccursUpTo p search h.0) x y h.2 best)

  pub IsAnswer-unique : (search : Search) (x y : Option Occurrence) → IsAnswer p search x → IsAnswer p search y → x ≡ y
  IsAnswer-unique search x y h k =
      matched-two search.earliest (IsEarliestAnswer p search x) (IsBestOrNone p.kind (OccursIn p search) x) (IsEarliestAnswer p search y) (IsBestOrNone p.kind (OccursIn p search) y) (x ≡ y)
      (earliest-unique search x y) (IsBestOrNone-unique p.kind (OccursIn p search) x y) h k

  -- what occurs in the shortest front ends with it
  front-end : (search : Search) (front : ℕ) (m : Occurrence) → IsFront p search front → OccursUpTo p search front m → m.end ≡ front
  front-end search front m is_front occurs =
      let before = occurs.before_end in
      let after = is_front.least m.end m (Occurs-of_end search.anchored search.haystack search.start front m.end m (omega arith) occurs) in
      omega arith

  -- the patterns' kind has no part in what occurs
  to_kind : (kind : MatchKind) (anchored : Anchored) (haystack : List ℕ) (start end : ℕ) (m : Occurrence) → Occurs p anchored haystack start end m → Occurs (record p { kind = kind }) anchored haystack start end m
  to_kind kind anchored haystack start end m h = record { numbered = h.numbered; after_start = h.after_start; before_end = h.before_end; sized = h.sized; same = h.same; admitted = h.admitted }

  from_kind : (kind : MatchKind) (anchored : Anchored) (haystack : List ℕ) (start end : ℕ) (m : Occurrence) → Occurs (record p { kind = kind }) anchored haystack start end m → Occurs p anchored haystack start end m
  from_kind kind anchored haystack start end m h = record { numbered = h.numbered; after_start = h.after_start; before_end = h.before_end; sized = h.sized; same = h.same; admitted = h.admitted }

  front-of_kind : (kind : MatchKind) (search : Search) (front : ℕ) → IsFront p search front → IsFront (record p { kind = kind }) search front
  front-of_kind kind search front h = record {
    within = h.within;
    some = (h.some.0, to_kind kind search.anchored search.haystack search.start front h.some.0 h.some.1);
    least = λ end m occurs. h.least end m (from_kind kind search.anchored search.haystack search.start end m occurs);
  }

  earliest-of_kind : (kind : MatchKind) (search : Search) (answer : Option Occurrence) → IsEarliestAnswer p search answer → IsEarliestAnswer (record p { kind = kind }) search answer
  earliest-of_kind kind search None none = λ m occurs. none m (from_kind kind search.anchored search.haystack search.start search.end m occurs)
  earliest-of_kind kind search (Some m) h = (
    h.0,
    front-of_kind kind search h.0 h.1,
    (
      to_kind kind search.anchored search.haystack search.start h.0 m h.2.0,
      λ other in_other.
          let occurs = from_kind kind search.anchored search.haystack search.start h.0 other in_other in
          let end_m = front-end search h.0 m h.1 h.2.0 in
          let end_other = front-end search h.0 other h.1 occurs in
          let together : m.end ≡ other.end = omega arith in
          elim (h.2.1 other occurs) [ inl same ↦ inl same | inr before ↦ inr (order-same_end kind m other together (same_end-order p.kind m other together before)) ],
    ),
  )

  -- an earliest search has the same answer under each kind
  pub IsAnswer-of_kind : (kind : MatchKind) (search : Search) (answer : Option Occurrence) → search.earliest ≡ true → IsAnswer p search answer → IsAnswer (record p { kind = kind }) search answer
  IsAnswer-of_kind kind search answer earliest h =
      true-matched search.earliest (IsEarliestAnswer (record p { kind = kind }) search answer) (IsBestOrNone kind (OccursIn (record p { kind = kind }) search) answer) earliest
      (earliest-of_kind kind search answer (MatchBool-at_true (IsEarliestAnswer p search answer) (IsBestOrNone p.kind (OccursIn p search) answer) earliest h))

  -- which is what Standard answers to the search that is not earliest
  earliest-standard : (search : Search) (answer : Option Occurrence) → IsEarliestAnswer p search answer → IsBestOrNone Standard (OccursIn p search) answer
  earliest-standard search None none = none
  earliest-standard search (Some m) h = (
    earliest-occurs search m h,
    λ other in_other.
        let end_m = front-end search h.0 m h.1 h.2.0 in
        let later = h.1.least other.end other (Occurs-of_end search.anchored search.haystack search.start search.end other.end other (omega arith) in_other) in
        elim (cases_lt m.end other.end) [
          | inl less ↦ inr (inl less)
          | inr upto ↦
              (let together : m.end ≡ other.end = omega arith in
              let occurs = Occurs-of_end search.anchored search.haystack search.start search.end h.0 other (omega arith) in_other in
              elim (h.2.1 other occurs) [ inl same ↦ inl same | inr before ↦ inr (order-same_end Standard m other together (same_end-order p.kind m other together before)) ])
        ],
  )

  pub IsAnswer-standard : (search : Search) (answer : Option Occurrence) → search.earliest ≡ true → IsAnswer p search answer → IsBestOrNone Standard (OccursIn p search) answer
  IsAnswer-standard search answer earliest h = earliest-standard search answer (MatchBool-at_true (IsEarliestAnswer p search answer) (IsBestOrNone p.kind (OccursIn p search) answer) earliest h)
