-- What is told of a reader whose lines are searched, or those before the first that holds a zero byte alone.
use Rattle.acgrep.proofs.Common.{IsAtEnd, Job, Patterns, State, and_parts}
use Rattle.std.proofs.Common.{◌++◌, ◌==◌, ◌∙◌, ◌∷◌, ◌≡◌, ◌⊎◌, Bool, List, Option, [], ap, append-nil, false, inl, inr, refl, subst, sym, true, ℕ}
use Rattle.std.proofs.lemmas.Bool.{not-true}
use Rattle.std.specs.Prelude.{◌&&◌, nat_lt, not}
use Rattle.acgrep.specs.Binary.{is_guarded, is_text, lines_by, lines_sought, takes_text}
use Rattle.acgrep.specs.Contexts.{IsBegin, around_of}
use Rattle.acgrep.specs.Files.{EndsFile, IsRead, SearchesReader}
use Rattle.acgrep.specs.Guarded.{BeginsBinary, EndsFront, SearchesFront, SearchesPast}
use Rattle.acgrep.specs.Lines.{EndsLine, lines}
use Rattle.acgrep.specs.Streamed.{BeginsBehind, SearchesRead}
use Rattle.acgrep.specs.Written.{IsSettled, SomeLine}
use Rattle.acgrep.proofs.BinaryLines.{first_parts}
use Rattle.acgrep.proofs.FileTellings.{LinesSearched, TextTold, file_of, lines_told, settled_read, text_behind as text_read, text_told}
use Rattle.acgrep.proofs.LineLists.{lines_append}
use Rattle.acgrep.proofs.StreamsBegun.{behind_searched, by_cut}

some_behind : (P : List ℕ → Type 0) (ls ms : List (List ℕ)) → SomeLine P ms → SomeLine P (ls ++ ms)
some_behind P [] ms some = some
some_behind P (line ∷ ls) ms some = inr (some_behind P ls ms some)

no_lines : (alone : Bool) (ending : ℕ) → lines_by alone ending [] ≡ []
no_lines true ending = refl
no_lines false ending = refl

module _ (p : Patterns) (job : Job) (alone : Bool) where
  -- what stands behind the bytes that were searched: nothing, or they are whole lines; and no line of it is told
  abbrev pub Parts : State → (searched behind : List ℕ) → Type 0
  Parts state searched behind = ((behind ≡ []) ⊎ EndsLine job.style.ending searched) × ((lines_by alone job.style.ending behind ≡ []) ⊎ IsSettled job state)

  pub past_parts : (a b : State) (x y l m : Option (List ℕ)) (first : List ℕ) (past : SearchesPast p job alone a b x y l m first) (more : List ℕ) → (IsAtEnd m → more ≡ []) → Parts b past.some.searched (past.kept ++ more)
  past_parts a b x y l m first past more none = elim past.ends [
    | inl (empty, end) ↦
        let nothing : past.kept ++ more ≡ [] = ap (λ (l : List ℕ). l ++ more) empty ∙ none end in
        (inl nothing, inl (ap (lines_by alone job.style.ending) nothing ∙ no_lines alone job.style.ending))
    | inr (whole, settled) ↦ (inr whole, inr settled)
  ]

  module _ (before state : State) (left left' held meanwhile : Option (List ℕ)) (begin : IsBegin job before) where
    pub told_of : (kept : List ℕ) (some : SearchesRead p job alone before state held meanwhile left left' [] kept) → TextTold p job (around_of job) state held meanwhile some.searched
    told_of kept some = text_told p job (around_of job) before state held meanwhile some.searched begin some.searches

    -- no line with a zero byte came: up to its end the reader was read, or up to a line behind which nothing more is told
    pub past_read : (past : SearchesPast p job alone before state held meanwhile left left' []) (any : Bool) → any ≡ nat_lt 0 state.selected → IsRead p job left left' any
    past_read past any is =
        let some = past.some in
        elim past.ends [
          | inl (empty, end) ↦ record { bytes = some.came; read = some.consumed; ended = inl end }
          | inr (whole, settled) ↦ settled_read p job state held meanwhile some.searched (told_of past.kept some) (lines job.style.ending past.kept) left left' some.came some.consumed
              (ap (lines job.style.ending) some.cut ∙ lines_append job.style.ending some.searched past.kept whole) settled any is
        ]

    -- one came
    module _ (kept : List ℕ) (front : SearchesFront p job alone before state held meanwhile left left' [] kept) (binary : BeginsBinary job.style.ending kept) (other : (job.style.ending == 0) ≡ false)
        (more : List ℕ) where
      pub front_parts : alone ≡ true → Parts state front.some.searched (kept ++ more)
      front_parts asked = (inr front.whole, inl (ap (λ (b : Bool). lines_by b job.style.ending (kept ++ more)) asked ∙ (first_parts (lines job.style.ending (kept ++ more)) (binary other more)).0))

      pub front_zero : SomeLine (λ (line : List ℕ). is_text line ≡ false) (lines job.style.ending (front.some.came ++ more))
      front_zero = subst (SomeLine (λ (line : List ℕ). is_text line ≡ false))
          (sym (by_cut false job.style.ending front.some.came front.some.searched kept more front.some.cut (inr front.whole) (λ no. absurd (cc))))
          (some_behind (λ (line : List ℕ). is_text line ≡ false) (lines job.style.ending front.some.searched) (lines job.style.ending (kept ++ more)) (first_parts (lines job.style.ending (kept ++ more)) (binary other more)).2)

    module _ (is_alone : takes_text job ≡ alone) (plainly : is_guarded job ≡ false) where
      reader_told : (kept : List ℕ) (some : SearchesRead p job alone before state held meanwhile left left' [] kept)
          → ((more : List ℕ) → (IsAtEnd left' → more ≡ []) → Parts state some.searched (kept ++ more)) → (held' : Option (List ℕ)) (any : Bool) → IsRead p job left left' any → EndsFile job state.selected meanwhile held' any
          → SearchesReader p job left left' held held' any
      reader_told kept some follows held' any reads ends =
          let (more, known, none) = text_read left left' some.came some.consumed in
          let (parts, others) = follows more none in
          let same : lines_sought job (some.came ++ more) ≡ lines job.style.ending some.searched ++ lines_by alone job.style.ending (kept ++ more) =
          ap (λ (b : Bool). lines_by b job.style.ending (some.came ++ more)) is_alone ∙ by_cut alone job.style.ending some.came some.searched kept more some.cut parts some.text in
          record {
            file = file_of p job plainly left held held' (some.came ++ more) any known (subst (λ (ls : List (List ℕ)). LinesSearched p job held held' ls any) (sym same)
                (lines_told p job state held meanwhile some.searched (told_of kept some) (lines_by alone job.style.ending (kept ++ more)) others held' any ends));
            reads = reads;
          }

      -- whether one did or not
      pub ends_searched : (kept : List ℕ) (binary : Bool) → EndsFront p job alone before state held meanwhile left left' [] kept binary → (held' : Option (List ℕ)) (any : Bool)
          → EndsFile job state.selected meanwhile held' any → SearchesReader p job left left' held held' any
      ends_searched kept true (asked, front, binary) held' any ends =
          let other : (job.style.ending == 0) ≡ false = not-true (job.style.ending == 0)
          (and_parts job.text_alone (not (job.style.ending == 0)) (and_parts (not job.guards) (job.text_alone && not (job.style.ending == 0)) (is_alone ∙ asked)).1).1 in
          reader_told kept front.some (λ more none. front_parts kept front binary other more asked) held' any (record {
            bytes = front.some.came;
            read = front.some.consumed;
            ended = inr (inr (inr (inr (is_alone ∙ asked, rw (append-nil front.some.came) at (front_zero kept front binary other [])))));
          }) ends
      ends_searched kept false past held' any ends = reader_told past.kept past.some (past_parts before state held meanwhile left left' [] past) held' any (past_read past any ends.is_any) ends

  -- what was told of those lines is a beginning too
  pub ends_begun : (before state : State) (left left' held meanwhile : Option (List ℕ)) (kept : List ℕ) (binary : Bool)
      → EndsFront p job alone before state held meanwhile left left' [] kept binary → BeginsBehind p job alone before state held meanwhile left []
  ends_begun before state left left' held meanwhile kept true (asked, front, binary) = behind_searched p job alone before state held meanwhile left left' [] kept front.some (inr front.whole)
  ends_begun before state left left' held meanwhile kept false past =
      behind_searched p job alone before state held meanwhile left left' [] past.kept past.some (elim past.ends [ inl end ↦ inl end | inr (whole, settled) ↦ inr whole ])
