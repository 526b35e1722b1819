-- A search of a stream that is broken off, put together from its reads.
use Rattle.acgrep.proofs.Common.{Appends-trans, Consumes, Context, IsAtEnd, Job, Keeps, Patterns, State}
use Rattle.std.proofs.Common.{◌++◌, ◌-◌, ◌<◌, ◌∙◌, ◌≡◌, ◌≤◌, ◌⊎◌, Bool, List, None, Option, Some, [], ap, append-nil, append_assoc, drop, false, inl, inr, length, refl, subst, sym, take, take-append-drop, true, ℕ}
use Rattle.std.specs.Prelude.{IfSome}
use Rattle.acgrep.specs.Begun.{BeginsOf}
use Rattle.acgrep.specs.Binary.{lines_by, text_lines}
use Rattle.acgrep.specs.Contexts.{BeginsSearched, SearchesIn, SearchesText, TellsFrom, around_of, walk_of}
use Rattle.acgrep.specs.Filled.{FillsBehind}
use Rattle.acgrep.specs.Guarded.{SearchesFront}
use Rattle.acgrep.specs.Lines.{EndsLine, IsEnding, lines}
use Rattle.acgrep.specs.Streamed.{BeginsBehind, BeginsWhole, SearchesRead, TextIf}
use Rattle.acgrep.specs.Written.{IsSettled}
use Rattle.acgrep.proofs.Beginnings.{begins_join}
use Rattle.acgrep.proofs.Begun.{begins_all, begins_more, begins_nothing, begins_on}
use Rattle.acgrep.proofs.BinaryLines.{text_behind, text_parts}
use Rattle.acgrep.proofs.LineLists.{lines_append}
use Rattle.acgrep.proofs.Streams.{front_whole, keeps_nil}
use Rattle.acgrep.proofs.Walked.{begun_behind, text_lines as walked_lines}

-- a text that begins so
pub text_from : (left : Option (List ℕ)) (kept : List ℕ) → (more : List ℕ) × IfSome left (λ (bytes : List ℕ). kept ++ more ≡ kept ++ bytes) × (IsAtEnd left → more ≡ [])
text_from None kept = ([], tt, λ _. refl)
text_from (Some bytes) kept = (bytes, refl, λ end. end)

-- the lines of some bytes, and those of the bytes behind them: there are none, or the first are whole lines
pub lines_behind : (ending : ℕ) (front back : List ℕ) → (back ≡ []) ⊎ EndsLine ending front → lines ending (front ++ back) ≡ lines ending front ++ lines ending back
lines_behind ending front back (inl none) = rw none (ap (lines ending) (append-nil front) ∙ sym (append-nil (lines ending front)))
lines_behind ending front back (inr whole) = lines_append ending front back whole

by_behind : (alone : Bool) (ending : ℕ) (front back : List ℕ) → (back ≡ []) ⊎ EndsLine ending front → TextIf alone front → lines_by alone ending (front ++ back) ≡ lines ending front ++ lines_by alone ending back
by_behind true ending front back which text = ap text_lines (lines_behind ending front back which) ∙ text_behind ending front (lines ending back) (text refl)
by_behind false ending front back which text = lines_behind ending front back which

pub by_cut : (alone : Bool) (ending : ℕ) (all front rest more : List ℕ) → all ≡ front ++ rest → (rest ++ more ≡ []) ⊎ EndsLine ending front → TextIf alone front
    → lines_by alone ending (all ++ more) ≡ lines ending front ++ lines_by alone ending (rest ++ more)
by_cut alone ending all front rest more cut which text =
    ap (λ (l : List ℕ). lines_by alone ending (l ++ more)) cut ∙ ap (lines_by alone ending) (append_assoc front rest more) ∙ by_behind alone ending front (rest ++ more) which text

module _ (p : Patterns) (job : Job) where
  nothing_told : (around : Option Context) (a : State) → TellsFrom p job around a a.selected [] []
  nothing_told None a = (refl, refl)
  nothing_told (Some context) a = (walk_of a, (refl, refl))

  -- a text that was searched, and a beginning of what follows
  after_in : (around : Option Context) (a b : State) (count : ℕ) (x y z : Option (List ℕ)) (front : List ℕ) (ms : List (List ℕ)) → EndsLine job.style.ending front → (IsSettled job b → ⊥)
      → SearchesIn p job around a b x y front → BeginsOf (TellsFrom p job around b count) ms y z → BeginsOf (TellsFrom p job around a count) (lines job.style.ending front ++ ms) x z
  after_in None a b count x y z front ms whole goes one other =
      let first = one.searches in
      let none : one.left ≡ [] = elim one.ends [ inl none ↦ none | inr settled ↦ absurd (goes settled) ] in
      rw (first.cut ∙ ap (λ (l : List ℕ). first.searched ++ lines job.style.ending l) none ∙ append-nil first.searched) (begins_join p job a b count x y z first.searched ms first.tells (first.placed (inr whole)) other)
  after_in (Some context) a b count x y z front ms whole goes one other =
      rw (walked_lines p job context a b x y front one goes) (begun_behind p job context (walk_of a) (walk_of b) x y z one.searched ms one.tells other)

  -- what was told of a text is a beginning too
  whole_in : (around : Option Context) (a b : State) (x y : Option (List ℕ)) (text : List ℕ) → SearchesIn p job around a b x y text → BeginsOf (TellsFrom p job around a b.selected) (lines job.style.ending text) x y
  whole_in None a b x y text one =
      let to = one.searches in
      rw to.cut (begins_more _ _ (lines job.style.ending one.left) _ _ (begins_all _ _ _ _ _ to.tells.told to.tells.written))
  whole_in (Some context) a b x y text one =
      rw one.cut (begins_more _ one.searched (lines job.style.ending one.left) _ _ (begins_all _ one.searched _ _ one.tells.bytes (walk_of b, one.tells.walks) one.tells.written))

  module _ (alone : Bool) where
    -- nothing is written
    pub behind_none : (a : State) (x y left : Option (List ℕ)) (kept : List ℕ) → Keeps x y → BeginsBehind p job alone a a x y left kept
    behind_none a x y left kept keeps =
        let (more, of, none) = text_from _ _ in
        record { text = kept ++ more; of = of; begins = begins_nothing _ (lines_by alone job.style.ending (kept ++ more)) _ _ [] (nothing_told _ _) (keeps_nil _ _ keeps) }

    -- first lines of what is there were begun: whole ones, or all, behind which nothing comes
    pub behind_lines : (a b : State) (x y left : Option (List ℕ)) (kept searched rest : List ℕ) → kept ≡ searched ++ rest → ((rest ≡ []) × IsAtEnd left) ⊎ EndsLine job.style.ending searched
        → TextIf alone searched → BeginsSearched p job a b.selected x y (lines job.style.ending searched) → BeginsBehind p job alone a b x y left kept
    behind_lines a b x y left kept searched rest cut which text begins =
        let (more, of, none) = text_from left kept in
        let parts : (rest ++ more ≡ []) ⊎ EndsLine job.style.ending searched = elim which [ inl (empty, end) ↦ inl (ap (λ (l : List ℕ). l ++ more) empty ∙ none end) | inr whole ↦ inr whole ] in
        let Tells = TellsFrom p job (around_of job) a b.selected in
        record {
          text = kept ++ more;
          of = of;
          begins = subst (λ (ls : List (List ℕ)). BeginsOf Tells ls x y) (sym (by_cut alone job.style.ending kept searched rest more cut parts text))
              (begins_more Tells (lines job.style.ending searched) (lines_by alone job.style.ending (rest ++ more)) x y begins);
        }

    -- up to behind a newline
    pub behind_whole : (a b : State) (x y left : Option (List ℕ)) (bytes : List ℕ) (whole : ℕ) → whole ≤ length bytes → (0 < whole → IsEnding job.style.ending bytes (whole - 1))
        → TextIf alone (take whole bytes) → BeginsSearched p job a b.selected x y (lines job.style.ending (take whole bytes)) → BeginsBehind p job alone a b x y left bytes
    behind_whole a b x y left bytes whole within newline text begins =
        behind_lines a b x y left bytes (take whole bytes) (drop whole bytes) (sym (take-append-drop whole bytes)) (inr (front_whole job.style.ending bytes whole within newline)) text begins

    -- what was written before stays
    behind_kept : (a b : State) (x y z left : Option (List ℕ)) (kept : List ℕ) → Keeps x y → BeginsBehind p job alone a b y z left kept → BeginsBehind p job alone a b x z left kept
    behind_kept a b x y z left kept keeps begins = record {
      text = begins.text;
      of = begins.of;
      begins = begins_on _ _ y z x z begins.begins (Appends-trans x y z [] begins.begins.begun (keeps_nil x y keeps) begins.begins.written);
    }

    -- bytes were read
    behind_read : (a b : State) (x y left left' : Option (List ℕ)) (kept came : List ℕ) → Consumes left left' came → BeginsBehind p job alone a b x y left' (kept ++ came) → BeginsBehind p job alone a b x y left kept
    behind_read a b x y left left' kept came read begins = record { text = begins.text; of = of_read left left' read begins.of; begins = begins.begins }
      where
        of_read : (left left' : Option (List ℕ)) → Consumes left left' came → IfSome left' (λ (bytes : List ℕ). begins.text ≡ (kept ++ came) ++ bytes) → IfSome left (λ (bytes : List ℕ). begins.text ≡ kept ++ bytes)
        of_read None left' read of = tt
        of_read (Some all) None read of = absurd read
        of_read (Some all) (Some rest) read of = of ∙ append_assoc kept came rest ∙ ap (λ (l : List ℕ). kept ++ l) (sym read)

    pub behind_filled : (a b : State) (x y z left left' : Option (List ℕ)) (kept filled : List ℕ) (count : ℕ) → Keeps x y → FillsBehind kept filled left left' count
        → BeginsBehind p job alone a b y z left' filled → BeginsBehind p job alone a b x z left kept
    behind_filled a b x y z left left' kept filled count keeps fills begins =
        behind_kept a b x y z left kept keeps (behind_read a b y z left left' kept fills.came fills.read (subst (BeginsBehind p job alone a b y z left') fills.behind begins))

    -- whole lines stand before them that were searched
    behind_front : (a b c : State) (x y z left : Option (List ℕ)) (searched kept : List ℕ) → EndsLine job.style.ending searched → (IsSettled job b → ⊥) → TextIf alone searched
        → SearchesText p job a b x y searched → BeginsBehind p job alone b c y z left kept → BeginsBehind p job alone a c x z left (searched ++ kept)
    behind_front a b c x y z left searched kept whole goes text one begins = record {
      text = searched ++ begins.text;
      of = of_front left begins.of;
      begins = rw (by_behind alone job.style.ending searched begins.text (inr whole) text) (after_in (around_of job) a b c.selected x y z searched (lines_by alone job.style.ending begins.text) whole goes one begins.begins);
    }
      where
        of_front : (left : Option (List ℕ)) → IfSome left (λ (bytes : List ℕ). begins.text ≡ kept ++ bytes) → IfSome left (λ (bytes : List ℕ). searched ++ begins.text ≡ (searched ++ kept) ++ bytes)
        of_front None of = tt
        of_front (Some bytes) of = ap (λ (l : List ℕ). searched ++ l) of ∙ sym (append_assoc searched kept bytes)

    -- a read whose lines were searched, and what follows
    pub behind_reads : (a b c : State) (x y z left left' : Option (List ℕ)) (first kept : List ℕ) → SearchesFront p job alone a b x y left left' first kept → (IsSettled job b → ⊥)
        → BeginsBehind p job alone b c y z left' kept → BeginsBehind p job alone a c x z left first
    behind_reads a b c x y z left left' first kept front goes begins =
        let some = front.some in
        behind_read a c x z left left' first some.came some.consumed (rw some.cut (behind_front a b c x y z left' some.searched kept front.whole goes some.text some.searches begins))

    -- what was searched is a beginning too
    pub behind_searched : (a b : State) (x y left left' : Option (List ℕ)) (first kept : List ℕ) → (some : SearchesRead p job alone a b x y left left' first kept)
        → ((kept ≡ []) × IsAtEnd left') ⊎ EndsLine job.style.ending some.searched → BeginsBehind p job alone a b x y left first
    behind_searched a b x y left left' first kept some which = behind_read _ _ _ _ _ _ _ _ some.consumed
        (behind_lines _ _ _ _ _ _ _ _ some.cut which some.text (whole_in _ _ _ _ _ _ some.searches))

  -- whatever follows
  pub whole_begins : (a b : State) (x y : Option (List ℕ)) (bytes : List ℕ) (whole : ℕ) → whole ≤ length bytes → (0 < whole → IsEnding job.style.ending bytes (whole - 1))
      → BeginsSearched p job a b.selected x y (lines job.style.ending (take whole bytes)) → BeginsWhole p job a b x y bytes
  whole_begins a b x y bytes whole within newline begins = λ alone text left. behind_whole alone a b x y left bytes whole within newline
      (λ is. (text_parts (take whole bytes) (drop whole bytes) (rw (take-append-drop whole bytes) (text is))).0) begins
