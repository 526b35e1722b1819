-- One call of `next` after another gives the finds.
use Rattle.std.proofs.Common.{◌≡◌, ◌+◌, ◌-◌, ◌<◌, ◌≤◌, ◌∙◌, ℕ, Bool, List, [], ◌∷◌, Option, None, Some, ap, refl, sym, arith, subst, inl, inr, true, false}
use Rattle.std.specs.Prelude.{IfSome, cond, nat_eq}
use Rattle.std.specs.Iterator.{Yields}
use Rattle.std.specs.Iterator.Runs.{Run, YieldsRun}
use Rattle.std.specs.List.{All}
use Rattle.std.proofs.lemmas.Bool.{MatchBool-at_false, MatchBool-at_true, and_from, cases_Bool, cases_lt, eq-eqb, eqb-true}
use Rattle.std.proofs.lemmas.List.Elements.{All-cons, All-nil}
use Rattle.aho_core.specs.Answer.{IsAnswer}
use Rattle.aho_core.specs.Iteration.{AreFinds, IsNextFind, repeats_end}
use Rattle.aho_core.specs.Occurrence.{Occurrence}
use Rattle.aho_core.specs.Patterns.{Patterns}
use Rattle.aho_core.specs.Search.{Search}
use Rattle.aho_automaton.specs.Finding.{AreFirstFinds, GivesNext, ended_at, from_next_place, last_after, places_left, search_after}
use Rattle.aho_automaton.specs.Fused.{CallsGive, IsFused}
use Rattle.aho_automaton.proofs.NextFinds.{find-within}
use Rattle.chromesquid.specs.Searcher.{IsBuiltFrom}
use Rattle.chromesquid.specs.declared.iter.FindIter.{FindIter}

-- a call of `next` gives the next find, and leaves the iterator to go on after it
abbrev find_steps : FindIter → Option Occurrence → FindIter → Type 0
find_steps it found rest = (rest.searcher ≡ it.searcher) × GivesNext (IsBuiltFrom it.searcher.now) it.input it.last_match_end found rest.input rest.last_match_end

module _ (p : Patterns) where
  -- where calls gave these matches and then none, these are the finds
  yielded-finds : (ms : List Occurrence) (it last rest : FindIter) → IsBuiltFrom it.searcher.now p → Yields find_steps it ms last → find_steps last None rest → AreFinds p it.input it.last_match_end ms
  yielded-finds [] it last rest of same ends =
      subst (λ (x : FindIter). IsNextFind p x.input x.last_match_end None) (sym same) (ends.1.next p (subst (λ (x : FindIter). IsBuiltFrom x.searcher.now p) same of))
  yielded-finds (m ∷ ms) it last rest of yields ends =
      let first = yields.1 in
      let stays = subst (λ (a : _). IsBuiltFrom a.now p) (sym first.0) of in
      (first.1.next p of, rw first.1.ended at (rw first.1.goes_on at (yielded-finds ms yields.0 last rest stays yields.2 ends)))

  -- whatever follows, they are the first finds
  yielded-first_finds : (ms : List Occurrence) (it last : FindIter) → IsBuiltFrom it.searcher.now p → Yields find_steps it ms last → AreFirstFinds p it.input it.last_match_end ms
  yielded-first_finds [] it last of same = tt
  yielded-first_finds (m ∷ ms) it last of yields =
      let first = yields.1 in
      let stays = subst (λ (a : _). IsBuiltFrom a.now p) (sym first.0) of in
      (first.1.next p of, rw first.1.ended at (rw first.1.goes_on at (yielded-first_finds ms yields.0 last stays yields.2)))

  pub run-finds : (run : Run find_steps) → run.whole ≡ true → IsBuiltFrom run.from.searcher.now p → AreFinds p run.from.input run.from.last_match_end run.items
  unfolding YieldsRun
  run-finds run whole of = let then = run.gave.0.2 whole in yielded-finds run.items run.from run.gave.0.0 then.0 of run.gave.0.1 then.1

  pub run-first_finds : (run : Run find_steps) → IsBuiltFrom run.from.searcher.now p → AreFirstFinds p run.from.input run.from.last_match_end run.items
  unfolding YieldsRun
  run-first_finds run of = yielded-first_finds run.items run.from run.gave.0.0 of run.gave.0.1

-- after a call that gave none the search is done
done-after_none : (it rest : FindIter) → find_steps it None rest → rest.input.end < rest.input.start
done-after_none it rest step = subst (λ (s : Search). s.end < s.start) (sym step.1.goes_on) (omega arith)

-- and of a search that is done each call gives none
done-gives_none : (given : List (Option Occurrence)) (it last : FindIter) → it.input.end < it.input.start → CallsGive find_steps it given last → All (λ (o : Option Occurrence). o ≡ None) given
done-gives_none [] it last done calls = All-nil (λ (o : Option Occurrence). o ≡ None)
done-gives_none (o ∷ given) it last done calls =
    let none : o ≡ None = calls.1.1.done done in
    All-cons (λ (x : Option Occurrence). x ≡ None) o given none
    (done-gives_none given calls.0 last (done-after_none it calls.0 (subst (λ (x : Option Occurrence). find_steps it x calls.0) none calls.1)) calls.2)

pub finds-fused : (it : FindIter) → IsFused find_steps it
finds-fused it ms after last given yielded calls = done-gives_none given after last (done-after_none yielded.0 after yielded.2) calls

-- an answer stands in what is searched
answer-within : (p : Patterns) (search : Search) (m : Occurrence) → IsAnswer p search (Some m) → (search.start ≤ m.start) × (m.start ≤ m.end) × (m.end ≤ search.end)
answer-within p search m answer = find-within p search None m (Some m, answer, refl)

-- a find ends after the last match's end
find-past : (p : Patterns) (search : Search) (m : Occurrence) → IsNextFind p search (Some search.start) (Some m) → search.start < m.end
find-past p search m h =
    let Again = IsAnswer p (from_next_place search) (Some m) in
    let Same = Some m ≡ h.0 in
    elim (cases_Bool (repeats_end (Some search.start) h.0)) [
      | inl repeats ↦
          (let within = answer-within p (from_next_place search) m (MatchBool-at_true Again Same repeats h.2) in
          omega (arith, within.0, within.1))
      | inr differs ↦
          (let same : Some m ≡ h.0 = MatchBool-at_false Again Same differs h.2 in
          let within = answer-within p search m (subst (IsAnswer p search) (sym same) h.1) in
          elim (cases_lt search.start m.end) [
            | inl past ↦ past
            | inr upto ↦
                (let empty : m.start ≡ m.end = omega (arith, within.0, within.1) in
                let there : m.end ≡ search.start = omega (arith, within.0, within.1) in
                let repeats : repeats_end (Some search.start) (Some m) ≡ true = and_from (nat_eq m.start m.end) (nat_eq m.end search.start) (eq-eqb m.start m.end empty) (eq-eqb m.end search.start there) in
                let clash : true ≡ false = sym repeats ∙ (ap (repeats_end (Some search.start)) same ∙ differs) in
                cc)
          ])
    ]

past_last : (p : Patterns) (search : Search) (last : Option ℕ) (m : Occurrence) → IsNextFind p search last (Some m) → ended_at last search.start ≡ true → search.start < m.end
past_last p search None m h there = cc
past_last p search (Some place) m h there = find-past p search m (subst (λ (k : ℕ). IsNextFind p search (Some k) (Some m)) (eqb-true place search.start there) h)

-- of numbers: the places from the end of a match on, without that end, are fewer than those before
fewer_by : (start from to end : ℕ) (here there : Bool) → here ≡ true → (there ≡ true → start < to) → start ≤ from → from ≤ to → to ≤ end
    → end + 1 - to - cond here 1 0 < end + 1 - start - cond there 1 0
fewer_by start from to end true true is past begins ordered ends = let less = past refl in omega (arith, less, begins, ordered, ends)
fewer_by start from to end true false is past begins ordered ends = omega (arith, begins, ordered, ends)
fewer_by start from to end false there is past begins ordered ends = cc

-- after a find fewer places are left
pub fewer_after : (p : Patterns) (search : Search) (last : Option ℕ) (found : Option Occurrence) → IsNextFind p search last found
    → IfSome found (λ m. places_left (search_after search found) (last_after last found) < places_left search last)
fewer_after p search last None h = tt
fewer_after p search last (Some m) h =
    let within = find-within p search last m h in
    fewer_by search.start m.start m.end search.end (nat_eq m.end m.end) (ended_at last search.start) (eq-eqb m.end m.end refl) (past_last p search last m h) within.0 within.1 within.2
