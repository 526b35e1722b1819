-- What is told where lines from the first on that holds a zero byte are kept from the output.
use Rattle.acgrep.proofs.Common.{Appends, Appends-nil, Appends-trans, AppendsBeginning, Consumes, Consumes-trans, Context, Fit, IsAtEnd, Job, Nothing, Patterns, Shown, State, and_parts, common_steps, lt-ltb, or-false, or_right, true≢false}
use Rattle.std.proofs.Common.{◌++◌, ◌==◌, ◌∙◌, ◌≡◌, ◌⊎◌, Bool, List, None, Option, Some, [], ap, append-nil, append_assoc, arith, drop, false, inl, inr, refl, subst, sym, take, take-append-drop, true, ℕ}
use Rattle.std.proofs.lemmas.Bool.{not-true}
use Rattle.std.specs.Prelude.{◌&&◌, ◌||◌, IfSome, MatchBool, if◌then◌else◌, nat_lt, not}
use Rattle.acgrep.specs.Begun.{BeginsOf}
use Rattle.acgrep.specs.Binary.{TellsBinary, TellsGuarded, binary_by, binary_lines, is_guarded, lines_by, lines_sought, seeking, takes_text, text_lines, writes_lines}
use Rattle.acgrep.specs.Contexts.{IsBegin, TellsFrom, around_of}
use Rattle.acgrep.specs.Files.{BeginsFile, IsRead, SearchesFile, SearchesReader, TellsSearched, total_if}
use Rattle.acgrep.specs.Guarded.{BeginsBinary, EndsFront, SearchesFront, SearchesPast}
use Rattle.acgrep.specs.Lines.{EndsLine, lines}
use Rattle.acgrep.specs.Streamed.{BeginsBehind, SearchesRead}
use Rattle.acgrep.specs.Written.{IsAny, IsSelected, IsSettled, SomeLine, is_full, needs_one}
use Rattle.acgrep.proofs.Begun.{nil_front}
use Rattle.acgrep.proofs.BinaryLines.{binary_behind, first_parts, some_part}
use Rattle.acgrep.proofs.FileTellings.{LinesTold, any_told, full_read, several_told, shows_nothing, sought_all, tells_none, text_behind as text_read, text_told}
use Rattle.acgrep.proofs.FilesBegun.{shows_lines}
use Rattle.acgrep.proofs.LineLists.{lines_append}
use Rattle.acgrep.proofs.StreamsBegun.{by_cut}
use Rattle.acgrep.proofs.Tellings.{settled_some}
use Rattle.acgrep.proofs.TextAlone.{Parts, front_parts, front_zero, past_parts, past_read, told_of}

-- what follows from lines or matches being written
lines_needed : (shown : Shown) → writes_lines shown ≡ true → needs_one shown ≡ false
lines_needed shown is = grind (arith, common_steps)

-- a line of a text is selected where one of its first lines is, or one of the others
guarded_some : (p : Patterns) (job : Job) (ls : List (List ℕ)) (some more full : Bool) → IsAny p job.fit job.invert (text_lines ls) some
    → MatchBool full (more ≡ false) (IsAny p job.fit job.invert (binary_lines ls) more) → true ≡ (some || more) → SomeLine (IsSelected p job.fit job.invert) ls
guarded_some p job ls true more full first others is = some_part (IsSelected p job.fit job.invert) ls (inl first)
guarded_some p job ls false true false first others is = some_part (IsSelected p job.fit job.invert) ls (inr others)
guarded_some p job ls false _ _ first others is = absurd (cc)

-- where lines are kept from the output all are searched
guarded_all : (job : Job) → is_guarded job ≡ true → takes_text job ≡ false
guarded_all job guarded = grind (arith, common_steps)

pub either_some : (p : Patterns) (job : Job) (text bytes : List ℕ) (guarded : Bool) → is_guarded job ≡ guarded
    → MatchBool guarded (TellsGuarded p job text true bytes) (TellsSearched p job (lines_sought job text) true bytes) → SomeLine (IsSelected p job.fit job.invert) (lines_sought job text)
either_some p job text bytes true is tells =
    rw (sought_all job text (guarded_all job is)) (guarded_some p job (lines job.style.ending text) tells.some tells.more (is_full job.most tells.count) tells.selected tells.others tells.is_any)
either_some p job text bytes false is tells = tells.0

-- bytes came behind those that are there, and it is known whether a line of both is selected, whatever follows; nothing is written
pub record FindsSelected (p : Patterns) (fit : Fit) (invert : Bool) (ending : ℕ) (kept : List ℕ) (left left' held held' : Option (List ℕ)) (any : Bool) : Type 0 where
  pub came : List ℕ
  pub consumed : Consumes left left' came
  pub found : (more : List ℕ) → (IsAtEnd left' → more ≡ []) → IsAny p fit invert (lines ending (kept ++ (came ++ more))) any
  pub ends : IsAtEnd left' ⊎ (any ≡ true)
  pub unwritten : Appends held held' []

module _ (p : Patterns) (job : Job) where
  -- what is found of a job that writes nothing, in what is there and what comes
  finds_of : (before state : State) (left left' held held' : Option (List ℕ)) (kept : List ℕ) → job.shown ≡ Nothing → IsBegin job before
      → SearchesPast p job false before state held held' left left' kept → FindsSelected p job.fit job.invert job.style.ending kept left left' held held' (nat_lt 0 state.selected)
  finds_of before state left left' held held' kept shown begin past =
      let some = past.some in
      let told = text_told p job (around_of job) before state held held' some.searched begin some.searches in
      let alone : around_of job ≡ None = rw shown refl in
      let nothing : told.bytes ≡ [] = told.single alone ∙ tells_none p job told.searched job.first 0 told.plain state.selected (shows_nothing p job (ap needs_one shown)) told.tells in
      record {
        came = some.came;
        consumed = some.consumed;
        found = λ more none.
            let (parts, others) = past_parts p job false before state held held' left left' kept past more none in
            let same : lines job.style.ending (kept ++ (some.came ++ more)) ≡ lines job.style.ending some.searched ++ lines job.style.ending (past.kept ++ more) =
            ap (lines job.style.ending) (sym (append_assoc kept some.came more)) ∙ by_cut false job.style.ending (kept ++ some.came) some.searched past.kept more some.cut parts some.text in
            subst (λ (ls : List (List ℕ)). IsAny p job.fit job.invert ls (nat_lt 0 state.selected)) (sym same)
            (any_told p job state held held' some.searched told (lines job.style.ending (past.kept ++ more)) others);
        ends = elim past.ends [ inl (empty, end) ↦ inl end | inr (whole, settled) ↦ inr (lt-ltb 0 state.selected (settled_some job state settled)) ];
        unwritten = subst (Appends held held') nothing told.written;
      }

  nothing_in : (around : Option Context) → around ≡ None → (before : State) (count : ℕ) (held held' : Option (List ℕ)) (ls : List (List ℕ)) → needs_one job.shown ≡ true
      → BeginsOf (TellsFrom p job around before count) ls held held' → Appends held held' []
  nothing_in None is before count held held' ls one begins =
      let none : begins.all ≡ [] = tells_none p job begins.first before.place before.selected begins.all count (shows_nothing p job one) begins.tells in
      subst (Appends held held') (nil_front begins.begun begins.missing (sym none ∙ begins.is)) begins.written
  nothing_in (Some context) is before count held held' ls one begins = absurd (cc)

  -- and where it is broken off nothing is written either
  pub begins_nothing : (before state : State) (left held held' : Option (List ℕ)) (kept : List ℕ) → job.shown ≡ Nothing → BeginsBehind p job false before state held held' left kept → Appends held held' []
  begins_nothing before state left held held' kept shown behind =
      nothing_in (around_of job) (rw shown refl) before state.selected held held' (lines job.style.ending behind.text) (ap needs_one shown) behind.begins

  none_found : (full : Bool) (ls : List (List ℕ)) → (full ≡ true) ⊎ (ls ≡ []) → MatchBool full (false ≡ false) (IsAny p job.fit job.invert ls false)
  none_found true ls which = refl
  none_found false ls (inl is) = absurd (cc)
  none_found false ls (inr none) = rw none tt

  module _ (guarded : is_guarded job ≡ true) (before state : State) (left left' held meanwhile : Option (List ℕ)) (begin : IsBegin job before) where
    several : needs_one job.shown ≡ false
    several = lines_needed job.shown (shows_lines job guarded)

    ends_otherwise : (job.style.ending == 0) ≡ false
    ends_otherwise = not-true (job.style.ending == 0) (and_parts job.guards (not (job.style.ending == 0)) (and_parts (writes_lines job.shown) (job.guards && not (job.style.ending == 0)) guarded).1).1

    full_of : IsSettled job state → is_full job.most state.selected ≡ true
    full_of (inl (one, some)) = absurd (true≢false (sym one ∙ several))
    full_of (inr full) = full.0

    -- the first lines of a text and those behind them
    first_lines : (kept : List ℕ) (some : SearchesRead p job true before state held meanwhile left left' [] kept) (more : List ℕ) → (kept ++ more ≡ []) ⊎ EndsLine job.style.ending some.searched
        → (text_lines (lines job.style.ending (some.came ++ more)) ≡ lines job.style.ending some.searched ++ text_lines (lines job.style.ending (kept ++ more)))
        × (binary_lines (lines job.style.ending (some.came ++ more)) ≡ binary_lines (lines job.style.ending (kept ++ more)))
    first_lines kept some more parts = (
      by_cut true job.style.ending some.came some.searched kept more some.cut parts some.text,
      ap binary_lines (by_cut false job.style.ending some.came some.searched kept more some.cut parts (λ no. absurd (cc)))
          ∙ binary_behind job.style.ending some.searched (lines job.style.ending (kept ++ more)) (some.text refl),
    )

    first_told : (kept : List ℕ) (some : SearchesRead p job true before state held meanwhile left left' [] kept) (behind : List ℕ) → (text_lines (lines job.style.ending behind) ≡ []) ⊎ IsSettled job state
        → LinesTold p job held meanwhile (lines job.style.ending some.searched ++ text_lines (lines job.style.ending behind)) state.selected
    first_told kept some behind others =
        several_told p job state held meanwhile some.searched (told_of p job true before state left left' held meanwhile begin kept some) (text_lines (lines job.style.ending behind)) several others

    -- a file whose first lines are told, and of the others whether one is selected
    file_told : (kept : List ℕ) (some : SearchesRead p job true before state held meanwhile left left' [] kept) (more : List ℕ) → IfSome left (λ (all : List ℕ). some.came ++ more ≡ all)
        → Parts p job true state some.searched (kept ++ more) → (held' : Option (List ℕ)) (found any : Bool)
        → MatchBool (is_full job.most state.selected) (found ≡ false) (IsAny p job.fit job.invert (binary_lines (lines job.style.ending (kept ++ more))) found)
        → Appends meanwhile held' (if found then binary_by job.style else []) → any ≡ (nat_lt 0 state.selected || found) → SearchesFile p job left held held' any
    file_told kept some more known (parts, others) held' found any rest written is =
        let (first, binary) = first_lines kept some more parts in
        let told = first_told kept some (kept ++ more) others in
        record {
          text = some.came ++ more;
          of = known;
          bytes = told.bytes ++ (if found then binary_by job.style else []);
          tells = rw guarded (record {
            told = told.bytes;
            count = state.selected;
            tells = rw first told.tells;
            some = nat_lt 0 state.selected;
            selected = rw first (any_told p job state held meanwhile some.searched (told_of p job true before state left left' held meanwhile begin kept some) (text_lines (lines job.style.ending (kept ++ more))) others);
            more = found;
            others = rw binary rest;
            is_any = is;
            all = refl;
          });
          written = Appends-trans held meanwhile held' told.bytes (if found then binary_by job.style else []) told.written written;
        }

    -- of the others none is to be told
    reader_told : (kept : List ℕ) (some : SearchesRead p job true before state held meanwhile left left' [] kept)
        → ((more : List ℕ) → (IsAtEnd left' → more ≡ []) → Parts p job true state some.searched (kept ++ more) × ((is_full job.most state.selected ≡ true) ⊎ (binary_lines (lines job.style.ending (kept ++ more)) ≡ [])))
        → IsRead p job left left' (nat_lt 0 state.selected) → SearchesReader p job left left' held meanwhile (nat_lt 0 state.selected)
    reader_told kept some behind reads =
        let (more, known, none) = text_read left left' some.came some.consumed in
        let (parts, which) = behind more none in
        record {
          file = file_told kept some more known parts meanwhile false (nat_lt 0 state.selected) (none_found (is_full job.most state.selected) (binary_lines (lines job.style.ending (kept ++ more))) which)
              (Appends-nil meanwhile) (sym (or-false (nat_lt 0 state.selected)));
          reads = reads;
        }

    -- no line with a zero byte came, or none that is to be told of
    pub reader_past : SearchesPast p job true before state held meanwhile left left' [] → SearchesReader p job left left' held meanwhile (nat_lt 0 state.selected)
    reader_past past = reader_told past.kept past.some (λ more none. (
      past_parts p job true before state held meanwhile left left' [] past more none,
      elim past.ends [
        | inl (empty, end) ↦ inr (ap (λ (l : List ℕ). binary_lines (lines job.style.ending l)) (ap (λ (l : List ℕ). l ++ more) empty ∙ none end))
        | inr (whole, settled) ↦ inl (full_of settled)
      ],
    )) (past_read p job true before state left left' held meanwhile begin past (nat_lt 0 state.selected) refl)

    module _ (kept : List ℕ) (front : SearchesFront p job true before state held meanwhile left left' [] kept) (binary : BeginsBinary job.style.ending kept) where
      parts_of : (more : List ℕ) → Parts p job true state front.some.searched (kept ++ more)
      parts_of more = front_parts p job true before state left left' held meanwhile begin kept front binary ends_otherwise more refl

      -- so many lines are selected before a line with a zero byte as are asked for
      pub reader_full : is_full job.most state.selected ≡ true → SearchesReader p job left left' held meanwhile (nat_lt 0 state.selected)
      reader_full full = reader_told kept front.some (λ more none. (parts_of more, inl full))
          (full_read p job state held meanwhile front.some.searched (told_of p job true before state left left' held meanwhile begin kept front.some) (lines job.style.ending kept) left left' front.some.came front.some.consumed
          (ap (lines job.style.ending) front.some.cut ∙ lines_append job.style.ending front.some.searched kept front.whole) full (nat_lt 0 state.selected))

      module _ (last between held' : Option (List ℕ)) (unfilled : is_full job.most state.selected ≡ false) (found : Bool)
          (finds : FindsSelected p job.fit job.invert job.style.ending kept left' last meanwhile between found) where
        -- what stands behind what came first, and whether one of those lines is selected
        rest_found : (later : List ℕ) × IfSome left (λ (all : List ℕ). front.some.came ++ later ≡ all) × IsAny p job.fit job.invert (binary_lines (lines job.style.ending (kept ++ later))) found
        rest_found =
            let (more, known, none) = text_read left last (front.some.came ++ finds.came) (Consumes-trans left left' last front.some.came finds.came front.some.consumed finds.consumed) in
            let later = finds.came ++ more in (
              later,
              subst (λ (l : List ℕ). IfSome left (λ (all : List ℕ). l ≡ all)) (append_assoc front.some.came finds.came more) known,
              subst (λ (ls : List (List ℕ)). IsAny p job.fit job.invert ls found) (sym (first_parts (lines job.style.ending (kept ++ later)) (binary ends_otherwise later)).1) (finds.found more none),
            )

        -- of a line with a zero byte and those behind it is told whether one is selected
        pub reader_found : (any : Bool) → Appends between held' (if found then binary_by job.style else []) → any ≡ (nat_lt 0 state.selected || found) → SearchesReader p job left last held held' any
        reader_found any written is =
            let (later, known, rest) = rest_found in
            record {
              file = file_told kept front.some later known (parts_of later) held' found any
                  (subst (λ (b : Bool). MatchBool b (found ≡ false) (IsAny p job.fit job.invert (binary_lines (lines job.style.ending (kept ++ later))) found)) (sym unfilled) rest)
                  (Appends-trans meanwhile between held' [] (if found then binary_by job.style else []) finds.unwritten written) is;
              reads = record {
                bytes = front.some.came ++ finds.came;
                read = Consumes-trans left left' last front.some.came finds.came front.some.consumed finds.consumed;
                ended = elim finds.ends [
                  | inl end ↦ inl end
                  | inr seen ↦ inr (inr (inr (inl (
                    guarded,
                    is ∙ or_right (nat_lt 0 state.selected) found seen,
                    front_zero p job true before state left left' held meanwhile begin kept front binary ends_otherwise finds.came,
                  ))))
                ];
              };
            }

        -- or a beginning of that is written
        pub begins_found : found ≡ true → AppendsBeginning between held' (binary_by job.style) → BeginsFile p job left held held'
        begins_found is (n, short, written) =
            let (later, known, rest) = rest_found in
            let (parts, others) = parts_of later in
            let (first, behind) = first_lines kept front.some later parts in
            let text = front.some.came ++ later in
            let told = first_told kept front.some (kept ++ later) others in
            let message = binary_by job.style in
            let binary : TellsBinary p job text (text_lines (lines job.style.ending text)) state.selected = (refl, unfilled, rw behind (subst (IsAny p job.fit job.invert (binary_lines (lines job.style.ending (kept ++ later)))) is rest)) in
            record {
              text = text;
              of = known;
              begins = record {
                first = text_lines (lines job.style.ending text);
                left = [];
                cut = ap (λ (b : Bool). lines_by (b || takes_text job) job.style.ending text) guarded ∙ sym (append-nil (text_lines (lines job.style.ending text)));
                all = told.bytes ++ message;
                tells = record {
                  told = told.bytes;
                  count = state.selected;
                  tells = rw first told.tells;
                  tail = message;
                  behind = subst (λ (b : Bool). MatchBool b ((message ≡ []) ⊎ (TellsBinary p job text (text_lines (lines job.style.ending text)) state.selected × (message ≡ message))) (message ≡ total_if job.shown job.style state.selected))
                      (sym guarded) (inr (binary, refl));
                  is = refl;
                };
                begun = told.bytes ++ take n message;
                missing = drop n message;
                is = ap (λ (l : List ℕ). told.bytes ++ l) (sym (take-append-drop n message)) ∙ sym (append_assoc told.bytes (take n message) (drop n message));
                written = Appends-trans held meanwhile held' told.bytes (take n message) told.written (Appends-trans meanwhile between held' [] (take n message) finds.unwritten written);
              };
            }

-- where zero bytes are as any other all lines are searched
past_all : (p : Patterns) (job : Job) (a b : State) (x y l m : Option (List ℕ)) (first kept : List ℕ) (binary : Bool) → EndsFront p job false a b x y l m first kept binary → SearchesPast p job false a b x y l m first
past_all p job a b x y l m first kept true (asked, front, binary) = absurd (cc)
past_all p job a b x y l m first kept false past = past

-- what was sought of a job is what is found
pub finds_sought : (p : Patterns) (job sought : Job) → sought ≡ seeking job → (before state : State) (left left' held held' : Option (List ℕ)) (first kept : List ℕ) (binary : Bool) → IsBegin sought before
    → EndsFront p sought false before state held held' left left' first kept binary → FindsSelected p job.fit job.invert job.style.ending first left left' held held' (nat_lt 0 state.selected)
finds_sought p job sought same before state left left' held held' first kept binary begin ends =
    rw same at (finds_of p sought before state left left' held held' first (ap (λ (j : Job). j.shown) same) begin (past_all p sought before state held held' left left' first kept binary ends))
