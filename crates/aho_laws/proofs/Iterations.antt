-- The matches of an iteration: they occur in the span, rise, and are one list.
use Rattle.std.proofs.Common.{◌≡◌, ◌⊎◌, inl, inr, ℕ, zero, suc, ◌+◌, ◌≤◌, ◌<◌, Bool, true, false, List, [], ◌∷◌, length, Option, Some, None, refl, sym, ◌∙◌, ap, subst, arith}
use Rattle.std.specs.Prelude.{MatchBool, nat_eq}
use Rattle.std.proofs.lemmas.Bool.{cases_Bool, cases_lt, eq-eqb, and_from, MatchBool-at_true, MatchBool-at_false}
use Rattle.aho_core.specs.declared.search.Anchored.TheVariants.{No}
use Rattle.aho_core.specs.Answer.{IsAnswer}
use Rattle.aho_core.specs.Iteration.{AreFinds, IsNextFind, repeats_end}
use Rattle.aho_core.specs.Listing.{IsListedBy, IsMember}
use Rattle.aho_core.specs.Occurrence.{Occurrence}
use Rattle.aho_core.specs.Occurs.{Occurs}
use Rattle.aho_core.specs.Patterns.{Patterns}
use Rattle.aho_core.specs.Search.{Search}
use Rattle.aho_laws.specs.SearchLaws.{EndsBefore, IsFollowedBy}
use Rattle.aho_laws.proofs.Members.{listed-by_weaker}
use Rattle.aho_laws.proofs.Answers.{IsAnswer-exists, IsAnswer-occurs, IsAnswer-unique, Occurs-unanchored}

module _ (p : Patterns) where
  -- the search from one place on
  abbrev later_search : Search → Search
  later_search search = record search { start = suc search.start }

  -- an occurrence's start is not above its end
  pub Occurs-ordered : (haystack : List ℕ) (start end : ℕ) (m : Occurrence) → Occurs p No haystack start end m → m.start ≤ m.end
  Occurs-ordered haystack start end m h = omega (arith, h.sized)

  -- a find is the answer, or the answer from one place on
  find-cases : (search : Search) (last : Option ℕ) (found : Option Occurrence) → IsNextFind p search last found
      → IsAnswer p (later_search search) found ⊎ (IsAnswer p search found × (repeats_end last found ≡ false))
  find-cases search last found h =
      let Again = IsAnswer p (later_search search) found in
      let Same = found ≡ h.0 in
      elim (cases_Bool (repeats_end last h.0)) [
        | inl repeats ↦ inl (MatchBool-at_true Again Same repeats h.2)
        | inr differs ↦
            (let same : found ≡ h.0 = MatchBool-at_false Again Same differs h.2 in
            inr (subst (IsAnswer p search) (sym same) h.1, ap (repeats_end last) same ∙ differs))
      ]

  -- a find occurs in the span
  pub find-occurs : (search : Search) (last : Option ℕ) (m : Occurrence) → IsNextFind p search last (Some m) → Occurs p No search.haystack search.start search.end m
  find-occurs search last m h =
      elim (find-cases search last (Some m) h) [
        | inl again ↦ Occurs-unanchored p search.anchored search.haystack (suc search.start) search.start search.end m (omega arith) (IsAnswer-occurs p (later_search search) m again)
        | inr same ↦ Occurs-unanchored p search.anchored search.haystack search.start search.start search.end m (omega arith) (IsAnswer-occurs p search m same.0)
      ]

  -- a find ends after the last match's end
  find-past : (search : Search) (m : Occurrence) → IsNextFind p search (Some search.start) (Some m) → search.start < m.end
  find-past search m h =
      elim (find-cases search (Some search.start) (Some m) h) [
        | inl again ↦ (let occurs = IsAnswer-occurs p (later_search search) m again in omega (arith, occurs.after_start, occurs.sized))
        | inr same ↦
            elim (cases_lt search.start m.end) [
              | inl past ↦ past
              | inr upto ↦
                  (let occurs = IsAnswer-occurs p search m same.0 in
                  let empty : m.start ≡ m.end = omega (arith, occurs.after_start, occurs.sized) in
                  let there : m.end ≡ search.start = omega (arith, occurs.after_start, occurs.sized) in
                  let repeats : repeats_end (Some search.start) (Some m) ≡ true = and_from (nat_eq m.start m.end) (nat_eq m.end search.start) (eq-eqb m.start m.end empty) (eq-eqb m.end search.start there) in
                  let clash : true ≡ false = sym repeats ∙ same.1 in
                  cc)
            ]
      ]

  -- what follows a match starts where it ended or later, and ends later
  finds-after : (ms : List Occurrence) (search : Search) (n : Occurrence) → AreFinds p search (Some search.start) ms → IsMember ms n → Occurs p No search.haystack search.start search.end n × (search.start < n.end)
  finds-after [] search n h in_ms = absurd in_ms
  finds-after (m ∷ ms) search n h in_ms =
      let occurs = find-occurs search (Some search.start) m h.0 in
      let past = find-past search m h.0 in
      elim in_ms [
        | inl same ↦ (subst (Occurs p No search.haystack search.start search.end) (sym same) occurs, subst (λ (o : Occurrence). search.start < o.end) (sym same) past)
        | inr later ↦
            (let t = finds-after ms (record search { start = m.end }) n h.1 later in
            (Occurs-unanchored p No search.haystack m.end search.start search.end n (omega arith) t.0, omega (arith, t.1)))
      ]

  -- each match occurs in the span
  pub finds-occur : (ms : List Occurrence) (search : Search) (last : Option ℕ) (n : Occurrence) → AreFinds p search last ms → IsMember ms n → Occurs p No search.haystack search.start search.end n
  finds-occur [] search last n h in_ms = absurd in_ms
  finds-occur (m ∷ ms) search last n h in_ms =
      let occurs = find-occurs search last m h.0 in
      elim in_ms [
        | inl same ↦ subst (Occurs p No search.haystack search.start search.end) (sym same) occurs
        | inr later ↦
            (let t = finds-after ms (record search { start = m.end }) n h.1 later in
            Occurs-unanchored p No search.haystack m.end search.start search.end n (omega (arith, occurs.after_start, occurs.sized)) t.0)
      ]

  pub finds-listed : (ms : List Occurrence) (search : Search) (last : Option ℕ) → AreFinds p search last ms → IsListedBy IsFollowedBy ms
  finds-listed [] search last h = tt
  finds-listed (m ∷ ms) search last h = (
    λ n later. (let t = finds-after ms (record search { start = m.end }) n h.1 later in (t.0.after_start, t.1)),
    finds-listed ms (record search { start = m.end }) (Some m.end) h.1,
  )

  pub finds-apart : (ms : List Occurrence) (search : Search) (last : Option ℕ) → AreFinds p search last ms → IsListedBy EndsBefore ms
  finds-apart ms search last h = listed-by_weaker IsFollowedBy EndsBefore ms (λ m n both. both.0) (finds-listed ms search last h)

  -- no match starts after its end
  pub finds-ordered : (ms : List Occurrence) (search : Search) (last : Option ℕ) → AreFinds p search last ms → (m : Occurrence) → IsMember ms m → m.start ≤ m.end
  finds-ordered ms search last h m in_ms = Occurs-ordered search.haystack search.start search.end m (finds-occur ms search last m h in_ms)

  find-unique : (search : Search) (last : Option ℕ) (x y : Option Occurrence) → IsNextFind p search last x → IsNextFind p search last y → x ≡ y
  find-unique search last x y h k =
      let same : h.0 ≡ k.0 = IsAnswer-unique p search h.0 k.0 h.1 k.1 in
      let AgainX = IsAnswer p (later_search search) x in
      let AgainY = IsAnswer p (later_search search) y in
      elim (cases_Bool (repeats_end last h.0)) [
        | inl repeats ↦
            IsAnswer-unique p (later_search search) x y (MatchBool-at_true AgainX (x ≡ h.0) repeats h.2)
            (MatchBool-at_true AgainY (y ≡ k.0) (sym (ap (repeats_end last) same) ∙ repeats) k.2)
        | inr differs ↦
            MatchBool-at_false AgainX (x ≡ h.0) differs h.2 ∙ same ∙ sym (MatchBool-at_false AgainY (y ≡ k.0) (sym (ap (repeats_end last) same) ∙ differs) k.2)
      ]

  -- an iteration has one list
  pub finds-unique : (xs ys : List Occurrence) (search : Search) (last : Option ℕ) → AreFinds p search last xs → AreFinds p search last ys → xs ≡ ys
  finds-unique [] [] search last h k = refl
  finds-unique [] (y ∷ ys) search last h k = let clash : None ≡ Some y = find-unique search last None (Some y) h k.0 in cc
  finds-unique (x ∷ xs) [] search last h k = let clash : Some x ≡ None = find-unique search last (Some x) None h.0 k in cc
  finds-unique (x ∷ xs) (y ∷ ys) search last h k =
      let both : Some x ≡ Some y = find-unique search last (Some x) (Some y) h.0 k.0 in
      let same : x ≡ y = cc in
      let after : AreFinds p (record search { start = x.end }) (Some x.end) ys = subst (λ (o : Occurrence). AreFinds p (record search { start = o.end }) (Some o.end) ys) (sym same) k.1 in
      let rest : xs ≡ ys = finds-unique xs ys (record search { start = x.end }) (Some x.end) h.1 after in
      cc

  find-exists : (search : Search) (last : Option ℕ) → search.end ≤ length search.haystack → (found : Option Occurrence) × IsNextFind p search last found
  find-exists search last within =
      let answer = IsAnswer-exists p search within in
      let again = IsAnswer-exists p (later_search search) within in
      elim (cases_Bool (repeats_end last answer.0)) [
        | inl repeats ↦ (again.0, (answer.0, answer.1, subst (λ (b : Bool). MatchBool b (IsAnswer p (later_search search) again.0) (again.0 ≡ answer.0)) (sym repeats) again.1))
        | inr differs ↦ (answer.0, (answer.0, answer.1, subst (λ (b : Bool). MatchBool b (IsAnswer p (later_search search) answer.0) (answer.0 ≡ answer.0)) (sym differs) refl))
      ]

  -- a find, and what follows it
  finds_from : (search : Search) (last : Option ℕ) (found : Option Occurrence) → IsNextFind p search last found
      → ((m : Occurrence) → IsNextFind p search last (Some m) → (ms : List Occurrence) × AreFinds p (record search { start = m.end }) (Some m.end) ms)
      → (ms : List Occurrence) × AreFinds p search last ms
  finds_from search last None h follows = ([], h)
  finds_from search last (Some m) h follows = let rest = follows m h in (m ∷ rest.0, (h, rest.1))

  -- each match after the first leaves fewer places
  finds_after_exist : (n : ℕ) (search : Search) → search.end ≤ length search.haystack → search.end < search.start + n → (ms : List Occurrence) × AreFinds p search (Some search.start) ms
  finds_after_exist zero search within few =
      let next = find-exists search (Some search.start) within in
      finds_from search (Some search.start) next.0 next.1
      (λ m h. absurd (omega (arith, find-past search m h, (find-occurs search (Some search.start) m h).before_end)))
  finds_after_exist (suc n) search within few =
      let next = find-exists search (Some search.start) within in
      finds_from search (Some search.start) next.0 next.1
      (λ m h. finds_after_exist n (record search { start = m.end }) within (omega (arith, find-past search m h)))

  -- an iteration over a span within the haystack ends
  pub finds-exist : (search : Search) (last : Option ℕ) → search.end ≤ length search.haystack → (ms : List Occurrence) × AreFinds p search last ms
  finds-exist search last within =
      let next = find-exists search last within in
      finds_from search last next.0 next.1 (λ m h. finds_after_exist (suc search.end) (record search { start = m.end }) within (omega arith))
