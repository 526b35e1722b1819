-- The lines of a text, as they come, with their runs.
use Rattle.std.proofs.Common.{◌≡◌, inl, inr, ℕ, suc, ◌+◌, List, [], ◌∷◌, ◌++◌, length, map, refl, sym, ◌∙◌, ap, subst, arith, append_assoc}
use Rattle.std.specs.Prelude.{◌==◌}
use Rattle.std.proofs.lemmas.Bool.{cases_Bool, cond-true, cond-false}
use Rattle.std.proofs.lemmas.List.{append-nil}
use Rattle.memchr.specs.Find.{Nowhere, Passes, is_byte}
use Rattle.aho_core.specs.Occurrence.{Occurrence}
use Rattle.aho_cover.specs.Pieces.{PieceRule}
use Rattle.aho_laws.proofs.CoverRuns.{runs-unique}
use Rattle.secret_rules.specs.Covering.{AreLineRuns, CoveredIn, Covering, lines_cover, seen_line}
use Rattle.secret_rules.specs.Lines.{Line, ended_line, last_line, lines_from}
use Rattle.secret_rules.specs.Writing.{line_cover}

-- no byte of a part ends a line
abbrev pub NoEnds : List ℕ → Type 0
NoEnds part = Nowhere (Passes (is_byte 10) part) 0 (length part)

-- a part without a line end goes to the line that is being read
pub lines-part : (read part more : List ℕ) → NoEnds part → lines_from read (part ++ more) ≡ lines_from (read ++ part) more
lines-part read [] more none = ap (λ (xs : List ℕ). lines_from xs more) (sym (append-nil read))
lines-part read (byte ∷ part) more none =
    elim (cases_Bool (byte == 10)) [
      | inl ends ↦ absurd (none 0 (omega arith) (omega arith) ends)
      | inr goes ↦
          cond-false (byte == 10) (ended_line read ∷ lines_from [] (part ++ more)) (lines_from (read ++ byte ∷ []) (part ++ more)) goes
          ∙ lines-part (read ++ byte ∷ []) part more (λ k low high. none (suc k) (omega arith) (omega arith))
          ∙ ap (λ (xs : List ℕ). lines_from xs more) (append_assoc read (byte ∷ []) part)
    ]

-- there always is a next line
pub lines-some : (read more : List ℕ) → (next : Line) × (later : List Line) × (lines_from read more ≡ next ∷ later)
lines-some read [] = (last_line read, [], refl)
lines-some read (byte ∷ more) =
    elim (cases_Bool (byte == 10)) [
      | inl ends ↦ (ended_line read, lines_from [] more, cond-true (byte == 10) (ended_line read ∷ lines_from [] more) (lines_from (read ++ byte ∷ []) more) ends)
      | inr goes ↦
          (let rest = lines-some (read ++ byte ∷ []) more in
          (rest.0, rest.1, cond-false (byte == 10) (ended_line read ∷ lines_from [] more) (lines_from (read ++ byte ∷ []) more) goes ∙ rest.2))
    ]

-- what rules see of some lines
abbrev pub seen_lines : ℕ → List Line → List (List ℕ)
seen_lines most lines = map (λ (line : Line). seen_line most line.bytes) lines

-- the covers of some lines and of more
pub lines_cover-append : (rule : PieceRule) (lines later : List Line) (runs more : List (List Occurrence)) → length runs ≡ length lines
    → lines_cover rule (lines ++ later) (runs ++ more) ≡ lines_cover rule lines runs ++ lines_cover rule later more
lines_cover-append rule [] later [] more same = refl
lines_cover-append rule [] later (own ∷ runs) more same = absurd (omega (arith, same))
lines_cover-append rule (line ∷ lines) later [] more same = absurd (omega (arith, same))
lines_cover-append rule (line ∷ lines) later (own ∷ runs) more same =
    ap (λ (xs : List ℕ). line_cover rule line own ++ xs) (lines_cover-append rule lines later runs more (omega (arith, same)))
    ∙ sym (append_assoc (line_cover rule line own) (lines_cover rule lines runs) (lines_cover rule later more))

module _ (covering : Covering) where
  seen-next : (before : List (List ℕ)) (line : Line) (lines : List Line)
      → (before ++ seen_line covering.most line.bytes ∷ []) ++ seen_lines covering.most lines ≡ before ++ seen_lines covering.most (line ∷ lines)
  seen-next before line lines = append_assoc before (seen_line covering.most line.bytes ∷ []) (seen_lines covering.most lines)

  -- the runs of some lines and of more
  pub runs-append : (before : List (List ℕ)) (lines later : List Line) (runs more : List (List Occurrence)) → AreLineRuns covering before lines runs
      → AreLineRuns covering (before ++ seen_lines covering.most lines) later more → AreLineRuns covering before (lines ++ later) (runs ++ more)
  runs-append before [] later [] more are next = subst (λ (b : List (List ℕ)). AreLineRuns covering b later more) (append-nil before) next
  runs-append before [] later (own ∷ runs) more are next = absurd are
  runs-append before (line ∷ lines) later [] more are next = absurd are
  runs-append before (line ∷ lines) later (own ∷ runs) more are next = (
    are.0,
    runs-append (before ++ seen_line covering.most line.bytes ∷ []) lines later runs more are.1
        (subst (λ (b : List (List ℕ)). AreLineRuns covering b later more) (sym (seen-next before line lines)) next),
  )

  -- of the runs of lines the first are those of the first lines
  pub runs-split : (before : List (List ℕ)) (lines later : List Line) (runs all : List (List Occurrence)) → AreLineRuns covering before lines runs → AreLineRuns covering before (lines ++ later) all
      → (more : List (List Occurrence)) × (all ≡ runs ++ more) × AreLineRuns covering (before ++ seen_lines covering.most lines) later more
  runs-split before [] later [] all are whole = (all, refl, subst (λ (b : List (List ℕ)). AreLineRuns covering b later all) (sym (append-nil before)) whole)
  runs-split before [] later (own ∷ runs) all are whole = absurd are
  runs-split before (line ∷ lines) later [] all are whole = absurd are
  runs-split before (line ∷ lines) later (own ∷ runs) [] are whole = absurd whole
  runs-split before (line ∷ lines) later (own ∷ runs) (other ∷ all) are whole =
      let rest = runs-split (before ++ seen_line covering.most line.bytes ∷ []) lines later runs all are.1 whole.1 in
      let one : other ≡ own = runs-unique (CoveredIn covering before line.bytes) other own whole.0 are.0 in (
        rest.0,
        ap (λ (o : List Occurrence). o ∷ all) one ∙ ap (λ (rs : List (List Occurrence)). own ∷ rs) rest.1,
        subst (λ (b : List (List ℕ)). AreLineRuns covering b later rest.0) (seen-next before line lines) rest.2,
      )
