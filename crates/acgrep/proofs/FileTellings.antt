-- What is written of a file, from what was searched of its reader.
use Rattle.acgrep.proofs.Common.{Appends, Appends-trans, Consumes, Context, Fit, IsAtEnd, Job, Lines, Matches, Nothing, Objects, Patterns, Place, Shown, State, Style, cases_Bool, common_steps, lt-ltb, ltb-true, true≢false}
use Rattle.std.proofs.Common.{◌++◌, ◌<◌, ◌∙◌, ◌∷◌, ◌≡◌, ◌⊎◌, Bool, List, None, Option, Some, [], ap, append-nil, append_assoc, arith, false, inl, inr, refl, subst, sym, true, ℕ}
use Rattle.std.proofs.lemmas.Bool.{ltb-false}
use Rattle.std.specs.Prelude.{IfSome, MatchBool, if◌then◌else◌, nat_lt}
use Rattle.acgrep.specs.Binary.{TellsGuarded, is_guarded, lines_by, lines_sought, takes_text}
use Rattle.acgrep.specs.Contexts.{IsBegin, SearchesIn, TellsFile, TellsIn, around_by, around_of, walk_of}
use Rattle.acgrep.specs.Files.{EndsFile, IsRead, SearchesFile, TellsBy, TellsSearched, count_if, total_if}
use Rattle.acgrep.specs.Lines.{lines}
use Rattle.acgrep.specs.Printed.{file_line}
use Rattle.acgrep.specs.Written.{EachLine, IsAny, IsPassedOver, IsSelected, IsSettled, ShowsBy, ShowsLine, SomeLine, TellsOfLines, is_full, needs_one, one_more}
use Rattle.acgrep.specs.declared.options.Shown.TheVariants.{Count, Lacking, Names}
use Rattle.acgrep.proofs.Grouped.{told_around}
use Rattle.acgrep.proofs.Tellings.{full_some, settled_some, tells_full}
use Rattle.acgrep.proofs.Walked.{walks_append, walks_full, walks_tells}

-- where one selected line tells all nothing is written of it
shows_none : (p : Patterns) (shown : Shown) (fit : Fit) (invert : Bool) (style : Style) (place : Place) (line bytes : List ℕ) → needs_one shown ≡ true
    → ShowsBy p shown fit invert style place line bytes → bytes ≡ []
shows_none p shown fit invert style place line bytes one shows = grind (arith, common_steps)

more_positive : (count : ℕ) → 0 < one_more count
more_positive count = omega arith

pub some_front : (P : List ℕ → Type 0) (ls ms : List (List ℕ)) → SomeLine P ls → SomeLine P (ls ++ ms)
some_front P [] ms some = absurd some
some_front P (line ∷ ls) ms (inl here) = inl here
some_front P (line ∷ ls) ms (inr later) = inr (some_front P ls ms later)

-- all lines of a text are searched, or those before the first with a zero byte
pub sought_all : (job : Job) (text : List ℕ) → takes_text job ≡ false → lines_sought job text ≡ lines job.style.ending text
sought_all job text wholly = ap (λ (b : Bool). lines_by b job.style.ending text) wholly

-- the text of a reader of which some bytes were read
pub text_behind : (left left' : Option (List ℕ)) (bytes : List ℕ) → Consumes left left' bytes
    → (more : List ℕ) × IfSome left (λ (all : List ℕ). bytes ++ more ≡ all) × (IsAtEnd left' → more ≡ [])
text_behind None left' bytes read = ([], tt, λ _. refl)
text_behind (Some all) None bytes read = absurd read
text_behind (Some all) (Some rest) bytes read = (rest, sym read, λ end. end)

module _ (p : Patterns) (job : Job) where
  pub shows_nothing : needs_one job.shown ≡ true → (place : Place) (line bytes : List ℕ) → ShowsLine p job place line bytes → bytes ≡ []
  shows_nothing one place line bytes shows = shows_none p job.shown _ job.invert job.style place line bytes one shows

  -- where nothing is written of a line nothing is of all
  pub tells_none : (ls : List (List ℕ)) (place : Place) (count : ℕ) (bytes : List ℕ) (total : ℕ) → ((place : Place) (line bytes : List ℕ) → ShowsLine p job place line bytes → bytes ≡ []) → TellsOfLines p job place count ls bytes total → bytes ≡ []
  tells_none [] place count bytes total one told = told.0
  tells_none (line ∷ rest) place count bytes total one (inl (full, none, same)) = none
  tells_none (line ∷ rest) place count bytes total one (inr (goes, inl (selected, (shown, more, shows, behind, is)))) =
      is ∙ ap (λ (l : List ℕ). l ++ more) (one place line shown shows)
      ∙ tells_none rest _ (one_more count) more total one behind
  tells_none (line ∷ rest) place count bytes total one (inr (goes, inr (passed, behind))) = tells_none rest _ count bytes total one behind

  -- the count only grows
  tells_positive : (ls : List (List ℕ)) (place : Place) (count : ℕ) (bytes : List ℕ) (total : ℕ) → TellsOfLines p job place count ls bytes total → 0 < count → 0 < total
  tells_positive [] place count bytes total told some = omega (arith, told.1, some)
  tells_positive (line ∷ rest) place count bytes total (inl (full, none, same)) some = omega (arith, same, some)
  tells_positive (line ∷ rest) place count bytes total (inr (goes, inl (selected, (shown, more, shows, behind, is)))) some =
      tells_positive rest _ (one_more count) more total behind (more_positive count)
  tells_positive (line ∷ rest) place count bytes total (inr (goes, inr (passed, behind))) some = tells_positive rest _ count bytes total behind some

  -- where it is not 0 a line is selected
  tells_some : (ls : List (List ℕ)) (place : Place) (count : ℕ) (bytes : List ℕ) (total : ℕ) → TellsOfLines p job place count ls bytes total → count ≡ 0 → 0 < total
      → SomeLine (IsSelected p job.fit job.invert) ls
  tells_some [] place count bytes total told zero some = absurd (omega (arith, told.1, zero, some))
  tells_some (line ∷ rest) place count bytes total (inl (full, none, same)) zero some = absurd (omega (arith, same, zero, some))
  tells_some (line ∷ rest) place count bytes total (inr (goes, inl (selected, told))) zero some = inl selected
  tells_some (line ∷ rest) place count bytes total (inr (goes, inr (passed, behind))) zero some = inr (tells_some rest _ count bytes total behind zero some)

  -- and where it is, none
  pub tells_each : (ls : List (List ℕ)) (place : Place) (count : ℕ) (bytes : List ℕ) (total : ℕ) → TellsOfLines p job place count ls bytes total → total ≡ 0
      → EachLine (IsPassedOver p job.fit job.invert) ls
  tells_each [] place count bytes total told zero = tt
  tells_each (line ∷ rest) place count bytes total (inl (full, none, same)) zero = absurd (omega (arith, full_some job.most count full, same, zero))
  tells_each (line ∷ rest) place count bytes total (inr (goes, inl (selected, (shown, more, shows, behind, is)))) zero =
      absurd (omega (arith, zero, tells_positive rest _ (one_more count) more total behind (more_positive count)))
  tells_each (line ∷ rest) place count bytes total (inr (goes, inr (passed, behind))) zero = (passed, tells_each rest _ count bytes total behind zero)

  -- whether one is selected
  pub tells_any : (ls : List (List ℕ)) (place : Place) (bytes : List ℕ) (total : ℕ) → TellsOfLines p job place 0 ls bytes total → IsAny p job.fit job.invert ls (nat_lt 0 total)
  tells_any ls place bytes total told =
      elim (cases_Bool (nat_lt 0 total)) [
        | inl some ↦ rw some (tells_some ls place 0 bytes total told refl (ltb-true 0 total some))
        | inr none ↦ rw none (tells_each ls place 0 bytes total told (omega (arith, ltb-false 0 total none)))
      ]

  -- what is written of all lines
  by_whole : (shown : Shown) → shown ≡ job.shown → (ls : List (List ℕ)) (told : List ℕ) (count : ℕ) → TellsIn p job (around_by shown job.context) ls told count
      → TellsBy p job shown ls (nat_lt 0 count) (told ++ total_if shown job.style count)
  by_whole Names is ls told count tells =
      ap (λ (l : List ℕ). l ++ total_if Names job.style count) (tells_none ls job.first 0 told count (shows_nothing (ap needs_one (sym is))) tells)
  by_whole Lacking is ls told count tells =
      ap (λ (l : List ℕ). l ++ total_if Lacking job.style count) (tells_none ls job.first 0 told count (shows_nothing (ap needs_one (sym is))) tells)
  by_whole Nothing is ls told count tells =
      ap (λ (l : List ℕ). l ++ []) (tells_none ls job.first 0 told count (shows_nothing (ap needs_one (sym is))) tells)
  by_whole _ is ls told count tells =
      (told, count, subst (λ (shown : Shown). TellsIn p job (around_by shown job.context) ls told count) is tells, ap (λ (shown : Shown). told ++ count_if shown job.style count) is)

  -- and where one selected line told all
  by_front : (shown : Shown) (ls : List (List ℕ)) (count : ℕ) → needs_one shown ≡ true → 0 < count → TellsBy p job shown ls true (total_if shown job.style count)
  by_front Lines ls count one some = absurd (cc)
  by_front Matches ls count one some = absurd (cc)
  by_front Objects ls count one some = absurd (cc)
  by_front Count ls count one some = absurd (cc)
  by_front Names ls count one some = ap (λ (any : Bool). if any then file_line job.style else []) (lt-ltb 0 count some)
  by_front Lacking ls count one some = ap (λ (any : Bool). if any then [] else file_line job.style) (lt-ltb 0 count some)
  by_front Nothing ls count one some = refl

  -- what is told where lines with a zero byte are written too, or not searched
  unguarded : is_guarded job ≡ false → (text : List ℕ) (any : Bool) (bytes : List ℕ) → TellsSearched p job (lines_sought job text) any bytes
      → MatchBool (is_guarded job) (TellsGuarded p job text any bytes) (TellsSearched p job (lines_sought job text) any bytes)
  unguarded plainly text any bytes tells = rw plainly tells

  -- what is asked of a file is written of which these lines are searched
  pub record LinesSearched (held held' : Option (List ℕ)) (ls : List (List ℕ)) (any : Bool) : Type 0 where
    pub bytes : List ℕ
    pub tells : TellsSearched p job ls any bytes
    pub written : Appends held held' bytes

  -- a text of which these are the lines that are searched is that of the file
  pub file_of : is_guarded job ≡ false → (known held held' : Option (List ℕ)) (text : List ℕ) (any : Bool) → IfSome known (λ (all : List ℕ). text ≡ all)
      → LinesSearched held held' (lines_sought job text) any → SearchesFile p job known held held' any
  file_of plainly known held held' text any of done = record {
    text = text;
    of = of;
    bytes = done.bytes;
    tells = unguarded plainly text any done.bytes done.tells;
    written = done.written;
  }

  -- what was told of the lines of a text from the begin of its file on, and of any that follow where nothing more is told
  pub record TextTold (around : Option Context) (state : State) (held meanwhile : Option (List ℕ)) (text : List ℕ) : Type 0 where
    pub left : List ℕ
    pub searched : List (List ℕ)
    pub cut : lines job.style.ending text ≡ searched ++ lines job.style.ending left
    pub bytes : List ℕ
    pub plain : List ℕ
    pub tells : TellsOfLines p job job.first 0 searched plain state.selected
    pub file : (later : List (List ℕ)) → (later ≡ []) ⊎ ((is_full job.most state.selected ≡ true) × (state.trail.due ≡ 0)) → TellsIn p job around (searched ++ later) bytes state.selected
    pub single : around ≡ None → bytes ≡ plain
    pub written : Appends held meanwhile bytes
    pub ends : (left ≡ []) ⊎ IsSettled job state

  pub from_begin : (before : State) (ls : List (List ℕ)) (told : List ℕ) (count : ℕ) → IsBegin job before → TellsOfLines p job before.place before.selected ls told count
      → TellsOfLines p job job.first 0 ls told count
  from_begin before ls told count begin tells = rw begin.place at (rw begin.selected at tells)

  pub text_told : (around : Option Context) (before state : State) (held meanwhile : Option (List ℕ)) (text : List ℕ) → IsBegin job before
      → SearchesIn p job around before state held meanwhile text → TextTold around state held meanwhile text
  text_told None before state held meanwhile text begin one =
      let to = one.searches in
      let bytes = to.tells.bytes in
      let tells = from_begin before to.searched bytes state.selected begin to.tells.told in
      record {
        left = one.left;
        searched = to.searched;
        cut = to.cut;
        bytes = bytes;
        plain = bytes;
        tells = tells;
        file = λ later h. elim h [
          | inl none ↦ subst (λ (ls : List (List ℕ)). TellsOfLines p job job.first 0 ls bytes state.selected)
              (sym (ap (λ (l : List (List ℕ)). to.searched ++ l) none ∙ append-nil to.searched)) tells
          | inr (full, past) ↦ tells_full p job to.searched later job.first 0 state.selected bytes full tells
        ];
        single = λ _. refl;
        written = to.tells.written;
        ends = one.ends;
      }
  text_told (Some context) before state held meanwhile text begin one =
      let bytes = one.tells.bytes in
      let (plain, tells) = walks_tells p job context one.searched (walk_of before) (walk_of state) bytes one.tells.walks in
      record {
        left = one.left;
        searched = one.searched;
        cut = one.cut;
        bytes = bytes;
        plain = plain;
        tells = from_begin before one.searched plain state.selected begin tells;
        file = λ later h. elim h [
          | inl none ↦ subst (λ (ls : List (List ℕ)). TellsIn p job (Some context) ls bytes state.selected)
              (sym (ap (λ (l : List (List ℕ)). one.searched ++ l) none ∙ append-nil one.searched))
              (told_around p job context one.searched (walk_of before) (walk_of state) bytes begin.place begin.selected begin.trail.due begin.trail.some begin.trail.apart begin.trail.held one.tells.walks)
          | inr (full, past) ↦
              let (w, walks, same) = walks_full p job context later (walk_of state) full past in
              subst (λ (n : ℕ). TellsIn p job (Some context) (one.searched ++ later) bytes n) same
              (subst (λ (l : List ℕ). TellsIn p job (Some context) (one.searched ++ later) l w.selected) (append-nil bytes)
              (told_around p job context (one.searched ++ later) (walk_of before) w (bytes ++ []) begin.place begin.selected begin.trail.due begin.trail.some begin.trail.apart begin.trail.held
              (walks_append p job context one.searched later (walk_of before) (walk_of state) w bytes [] one.tells.walks walks)))
        ];
        single = λ none. absurd (cc);
        written = one.tells.written;
        ends = one.ends;
      }

  one_around : (shown : Shown) (context : Option Context) → needs_one shown ≡ true → around_by shown context ≡ None
  one_around shown context one = grind (arith, common_steps)

  -- what was told of some lines
  pub record LinesTold (held meanwhile : Option (List ℕ)) (ls : List (List ℕ)) (count : ℕ) : Type 0 where
    pub bytes : List ℕ
    pub tells : TellsFile p job ls bytes count
    pub written : Appends held meanwhile bytes

  -- lines of which what is asked was told, and others behind them: there are none, or nothing more is told
  module _ (state : State) (held meanwhile : Option (List ℕ)) (text : List ℕ) (told : TextTold (around_of job) state held meanwhile text) (others : List (List ℕ)) where
    abbrev later : List (List ℕ)
    later = lines job.style.ending told.left ++ others

    same : lines job.style.ending text ++ others ≡ told.searched ++ later
    same = ap (λ (l : List (List ℕ)). l ++ others) told.cut ∙ append_assoc told.searched (lines job.style.ending told.left) others

    settles : (others ≡ []) ⊎ IsSettled job state → (later ≡ []) ⊎ IsSettled job state
    settles (inr settled) = inr settled
    settles (inl none) = elim told.ends [
      | inl whole ↦ inl (ap (λ (l : List ℕ). lines job.style.ending l ++ others) whole ∙ none)
      | inr settled ↦ inr settled
    ]

    all : (later ≡ []) ⊎ ((is_full job.most state.selected ≡ true) × (state.trail.due ≡ 0)) → LinesTold held meanwhile (lines job.style.ending text ++ others) state.selected
    all which = record { bytes = told.bytes; tells = rw same (told.file later which); written = told.written }

    -- where lines or matches are written
    pub several_told : needs_one job.shown ≡ false → (others ≡ []) ⊎ IsSettled job state → LinesTold held meanwhile (lines job.style.ending text ++ others) state.selected
    several_told several which = elim (settles which) [
      | inl none ↦ all (inl none)
      | inr (inl (one, some)) ↦ absurd (true≢false (sym one ∙ several))
      | inr (inr full) ↦ all (inr full)
    ]

    -- whether a line is selected
    pub any_told : (others ≡ []) ⊎ IsSettled job state → IsAny p job.fit job.invert (lines job.style.ending text ++ others) (nat_lt 0 state.selected)
    any_told which =
        let any : IsAny p job.fit job.invert told.searched (nat_lt 0 state.selected) = tells_any told.searched job.first told.plain state.selected told.tells in
        elim (settles which) [
          | inl none ↦ subst (λ (ls : List (List ℕ)). IsAny p job.fit job.invert ls (nat_lt 0 state.selected))
              (sym (same ∙ ap (λ (l : List (List ℕ)). told.searched ++ l) none ∙ append-nil told.searched)) any
          | inr settled ↦
              let is : nat_lt 0 state.selected ≡ true = lt-ltb 0 state.selected (settled_some job state settled) in
              rw is (rw same (some_front (IsSelected p job.fit job.invert) told.searched later (rw is at any)))
        ]

    -- what is asked of a file of which these lines are searched is written
    pub lines_told : (others ≡ []) ⊎ IsSettled job state → (held' : Option (List ℕ)) (any : Bool) → EndsFile job state.selected meanwhile held' any
        → LinesSearched held held' (lines job.style.ending text ++ others) any
    lines_told which held' any ends = elim (settles which) [
      | inl none ↦ whole (all (inl none))
      | inr (inl (one, some)) ↦ record {
        bytes = total_if job.shown job.style state.selected;
        tells = (is_any, rw (ends.is_any ∙ lt-ltb 0 state.selected some) (by_front _ _ _ one some));
        written = rw (told.single (one_around job.shown job.context one) ∙ tells_none _ _ 0 _ _ (shows_nothing one) told.tells) at (Appends-trans _ _ _ _ _ told.written ends.written);
      }
      | inr (inr full) ↦ whole (all (inr full))
    ]
      where
        is_any : IsAny p job.fit job.invert (lines job.style.ending text ++ others) any
        is_any = rw ends.is_any (any_told which)

        whole : LinesTold held meanwhile (lines job.style.ending text ++ others) state.selected → LinesSearched held held' (lines job.style.ending text ++ others) any
        whole to = record {
          bytes = to.bytes ++ total_if job.shown job.style state.selected;
          tells = (is_any, rw ends.is_any (by_whole _ refl _ _ _ to.tells));
          written = Appends-trans _ _ _ _ _ to.written ends.written;
        }

    -- up to these bytes a reader was read
    pub full_read : (left left' : Option (List ℕ)) (bytes : List ℕ) → Consumes left left' bytes → lines job.style.ending bytes ≡ lines job.style.ending text ++ others → is_full job.most state.selected ≡ true
        → (any : Bool) → IsRead p job left left' any
    full_read left left' bytes read cut full any = record {
      bytes = bytes;
      read = read;
      ended = inr (inr (inl (told.plain, state.selected, rw (cut ∙ same) (tells_full p job told.searched later job.first 0 state.selected told.plain full told.tells), full)));
    }

    pub settled_read : (left left' : Option (List ℕ)) (bytes : List ℕ) → Consumes left left' bytes → lines job.style.ending bytes ≡ lines job.style.ending text ++ others → IsSettled job state
        → (any : Bool) → any ≡ nat_lt 0 state.selected → IsRead p job left left' any
    settled_read left left' bytes read cut (inl (one, some)) any is = record { bytes = bytes; read = read; ended = inr (inl (one, is ∙ lt-ltb 0 state.selected some)) }
    settled_read left left' bytes read cut (inr full) any is = full_read left left' bytes read cut full.0 any
