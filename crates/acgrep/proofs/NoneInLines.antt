-- What occurs in no line of a text does not occur in it.
use Rattle.acgrep.proofs.Common.{Job, Occurrence, Occurs-in, OccursIn, Patterns, State, cases_lt, length-drop, plain_search, take_rest}
use Rattle.std.proofs.Common.{◌++◌, ◌<◌, ◌∙◌, ◌≡◌, ◌≤◌, ◌⊎◌, List, [], ap, append-nil, arith, drop, inl, inr, length, subst, suc, take, zero, ℕ}
use Rattle.std.proofs.lemmas.List.Sums.{passes_at_first}
use Rattle.memchr.specs.Find.{is_byte}
use Rattle.aho_laws.proofs.SpanTexts.{moved_back}
use Rattle.acgrep.specs.Lines.{lines}
use Rattle.acgrep.specs.Selected.{HoldNoEnding, IsNoneSelected}
use Rattle.acgrep.specs.Written.{EachLine, HasNone, IsSettled, TellsOfLines}
use Rattle.acgrep.proofs.Around.{ends_before}
use Rattle.acgrep.proofs.FileTellings.{tells_each}
use Rattle.acgrep.proofs.FirstLines.{first_end, first_within, lines_cut}
use Rattle.acgrep.proofs.LineLists.{empty_first, in_part, slice_front}
use Rattle.acgrep.proofs.Tellings.{settled_some}

module _ (ending : ℕ) (p : Patterns) (plain : HoldNoEnding ending p) where
  -- nothing that is not empty
  none_full : (n : ℕ) (text : List ℕ) → length text ≤ n → EachLine (HasNone p) (lines ending text) → (m : Occurrence) → OccursIn p (plain_search text) m → m.start < m.end → ⊥
  none_full zero text short each m occurs full = absurd (omega (arith, short, occurs.before_end, full))
  none_full (suc n) text short each m occurs full =
      let end = first_end ending text in
      let some : 0 < length text = omega (arith, occurs.before_end, full) in
      let (none, rest) = subst (EachLine (HasNone p)) (lines_cut ending text some) each in
      elim (cases_lt end m.start) [
        | inr low ↦ none (moved_back 0 m) (subst (λ (l : List ℕ). OccursIn p (plain_search l) (moved_back 0 m)) (slice_front text end) (in_part ending p text 0 end m (omega arith) (first_within ending text)
            (Occurs-in p text 0 (length text) 0 end m (omega arith) (ends_before ending p plain text end m occurs low (passes_at_first (is_byte ending) text 0)) occurs)))
        | inl high ↦
            let at = suc end in
            none_full n (drop at text) (omega (arith, length-drop at text, short, some)) rest (moved_back at m) (subst (λ (l : List ℕ). OccursIn p (plain_search l) (moved_back at m)) (take_rest text at)
            (in_part ending p text at (length text) m (omega (arith, high, full, occurs.before_end)) (omega arith) (Occurs-in p text 0 (length text) at (length text) m (omega (arith, high)) occurs.before_end occurs)))
            (omega (arith, full, high))
      ]

  -- nor what is
  pub none_by_lines : (text : List ℕ) → 0 < length text → EachLine (HasNone p) (lines ending text) → HasNone p text
  none_by_lines text some each m occurs =
      elim (cases_lt m.start m.end) [
        | inl full ↦ none_full (length text) text (omega arith) each m occurs full
        | inr empty ↦ (subst (EachLine (HasNone p)) (lines_cut ending text some) each).0 (record { pattern = m.pattern; start = 0; end = 0 }) (empty_first ending p text (take (first_end ending text) text) m occurs empty)
      ]

-- where no line was selected all were searched, and nothing occurs in them
pub nothing_in : (p : Patterns) (job : Job) (a b : State) (text left bytes : List ℕ) (searched : List (List ℕ)) → HoldNoEnding job.style.ending p → lines job.style.ending text ≡ searched ++ lines job.style.ending left
    → (left ≡ []) ⊎ IsSettled job b → TellsOfLines p job a.place a.selected searched bytes b.selected → IsNoneSelected p job text b
nothing_in p job a b text left bytes searched plain cut ends tells invert part some gone =
    let none : left ≡ [] = elim ends [ inl none ↦ none | inr settled ↦ absurd (omega (arith, gone, settled_some job b settled)) ] in
    let all : lines job.style.ending text ≡ searched = cut ∙ ap (λ (l : List ℕ). searched ++ lines job.style.ending l) none ∙ append-nil searched in
    none_by_lines job.style.ending p plain text some (rw (← all, invert, part) at (tells_each p job searched a.place a.selected bytes b.selected tells gone))
