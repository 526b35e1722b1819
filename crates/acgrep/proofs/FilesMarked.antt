-- What is written of files whose lines rules mark.
use Rattle.acgrep.proofs.Common.{Appends-trans, Consumes, Covering, IsAtEnd, Job, Keeps, Occurrence, Outcome, Place, Rule, SinkGhosts, StartsWith, Unread, common_steps, is_input, stream_lines}
use Rattle.std.proofs.Common.{◌++◌, ◌∙◌, ◌∷◌, ◌≡◌, ◌⊎◌, Bool, List, None, Option, Some, [], ap, append-nil, arith, false, inl, inr, refl, subst, sym, true, ℕ}
use Rattle.std.proofs.KnownBytes.{Consumes-whole}
use Rattle.std.specs.Prelude.{◌&&◌, ◌≢◌, Err, IfSome, Ok, Result, nat_lt}
use Rattle.aho_automaton.specs.declared.automaton.Automaton.{Ghosts as Automata}
use Rattle.aho_cover.proofs.Copied.{begins_with}
use Rattle.aho_devices.specs.Counts.{counted}
use Rattle.aho_devices.specs.declared.device.Source.{Ghosts as SourceGhosts}
use Rattle.aho_stream.specs.After.{MayFollow}
use Rattle.aho_stream.specs.Replacing.{MayBe}
use Rattle.secret_rules.specs.Ready.{CanCoverLines, CoversTheSame, rules_of}
use Rattle.secret_rules.specs.declared.error.LineError.{LineError}
use Rattle.secret_rules.specs.declared.line_cover.LineCover.{LineCover}
use Rattle.acgrep.specs.Files.{BeginsTotal, EndsFile, IsNamed, known_of, shown_name, total_if}
use Rattle.acgrep.specs.InTurn.{IfBroken, IfSearched}
use Rattle.acgrep.specs.Marked.{FileAsked, marked_line, marked_lines, pass_behind}
use Rattle.acgrep.specs.MarkedFiles.{BeginsInput, BeginsMarks, BeginsWalk, ComesName, FirstGiven, HasFirst, HasToldAll, MarksBy, MarksFile, MarksInput, MarksText, TellsAll, WalksGiven, WalksLines, file_asked, file_marked, file_selected, pass_from, seen_lines}
use Rattle.acgrep.specs.Written.{needs_one}
use Rattle.acgrep.specs.declared.marked.Pass.{Pass}
use Rattle.acgrep.proofs.FilesBegun.{total_none}
use Rattle.acgrep.proofs.InTurn.{if_broken, if_searched}
use Rattle.acgrep.proofs.Streams.{keeps_nil}

-- a stream that has seen no end before is at its end where it sees one
pub ends_seen : {P : Type 0} (before after : ℕ) (ended : Bool) → before ≡ 0 → (after ≢ 0 → P) → after ≡ counted ended before → ended ≡ true → P
ends_seen before after ended none ends count is =
    ends (λ zero. let one : after ≡ 1 = count ∙ ap (λ (b : Bool). counted b before) is ∙ ap (counted true) none in omega (arith, one, zero))

-- what is left may follow
follows : (ended : Bool) (rest : List ℕ) → (ended ≡ true → rest ≡ []) → MayFollow ended rest
follows true rest at_end = at_end refl
follows false rest at_end = tt

-- the bytes of a file, by what its reader gave
file_text : (known left : Option (List ℕ)) (given : List ℕ) (ended : Bool) → Consumes known left given → (ended ≡ true → IsAtEnd left)
    → (text : List ℕ) × IfSome known (λ bytes. text ≡ bytes) × MayBe given ended text
file_text None left given ended read at_end = (given, tt, ([], sym (append-nil given), follows ended [] (λ is. refl)))
file_text (Some all) None given ended read at_end = absurd read
file_text (Some all) (Some rest) given ended read at_end = (all, refl, (rest, read, follows ended rest at_end))

-- and its first lines
abbrev first_of : (covering : Covering) (known left : Option (List ℕ)) (given : List ℕ) (ended : Bool) → FirstGiven covering given ended → Consumes known left given → (ended ≡ true → IsAtEnd left)
    → HasFirst covering known
first_of covering known left given ended first read at_end =
    let text = file_text known left given ended read at_end in
    record { text = text.0; of = text.1; lines = first.lines; first = first.first text.0 text.2; runs = first.runs; are = first.are }

-- where a selected line tells all nothing is written of lines
line_none : (asked : FileAsked) → needs_one asked.shown ≡ true → (place : Place) (line : List ℕ) (runs : List Occurrence) → marked_line asked place line runs ≡ []
line_none asked needs place line runs = grind (arith, common_steps)

lines_none : (asked : FileAsked) → needs_one asked.shown ≡ true → (pass : Pass) (lines : List (List ℕ)) (runs : List (List Occurrence)) → marked_lines asked pass lines runs ≡ []
lines_none asked needs pass (line ∷ lines) (own ∷ runs) =
    ap (λ l. l ++ marked_lines asked (pass_behind pass line own) lines runs) (line_none asked needs pass.place line own) ∙ lines_none asked needs (pass_behind pass line own) lines runs
lines_none asked needs pass _ _ = refl

starts_nothing : (all part : List ℕ) → all ≡ [] → StartsWith all part → part ≡ []
starts_nothing all part none starts = grind (arith, common_steps)

-- where no more is known, what is read is too
kept_read : (known left left' : Option (List ℕ)) (given : List ℕ) → Keeps known left → Consumes left left' given → Consumes known left' given
kept_read known left left' given kept read = grind (arith, common_steps)

module _ {R W : Type 0} (S : SourceGhosts R) (K : SinkGhosts W) (job : Job) (covering : Covering) (source source' : R) (output output' : W) (known : Option (List ℕ)) (pass' : Pass) (held' : Option (List ℕ))
    (left : Keeps known (S.remaining source)) (none : S.empty_reads source ≡ 0) (ends : S.empty_reads source' ≢ 0 → IsAtEnd (S.remaining source')) where
  reads_given : (given : List ℕ) → Consumes (S.remaining source) (S.remaining source') given → Consumes known (S.remaining source') given
  reads_given given read = kept_read known (S.remaining source) (S.remaining source') given left read

  -- a file that was read to its end
  pub file_whole : (asked : FileAsked) → asked ≡ file_asked job covering.rules → WalksGiven S K asked (pass_from job.first) pass' source source' output output' covering → (any : Bool)
      → EndsFile job pass'.selected (K.taken output') held' any → MarksText job covering known (K.taken output) held' any
  file_whole asked same whole any ends_file =
      let lines = stream_lines whole.text in
      let selected = ap (λ (p : Pass). p.selected) whole.comes in
      record {
        text = whole.text;
        of = Consumes-whole known (S.remaining source') whole.text (λ bytes. whole.text ≡ bytes) (reads_given whole.text whole.gives.bytes) (ends_seen (S.empty_reads source) (S.empty_reads source') true none ends whole.gives.end refl) refl;
        runs = whole.runs;
        are = whole.are;
        any_is = ends_file.is_any ∙ ap (nat_lt 0) selected;
        written = Appends-trans (K.taken output) (K.taken output') held' (file_marked job covering lines whole.runs) (total_if job.shown job.style (file_selected job covering lines whole.runs))
            (rw same at whole.written) (rw selected at ends_file.written);
      }

  -- one of which a selected line told all
  pub file_told : (asked : FileAsked) → asked ≡ file_asked job covering.rules → BeginsWalk S K asked (pass_from job.first) pass' source source' output output' covering → HasToldAll job.shown pass' → (any : Bool)
      → EndsFile job pass'.selected (K.taken output') held' any → TellsAll job covering known (K.taken output) held' any
  file_told asked same begun all any ends_file =
      let selected = ap (λ (p : Pass). p.selected) begun.comes in
      let needs : needs_one asked.shown ≡ true = ap (λ (a : FileAsked). needs_one a.shown) same ∙ all.0 in
      let nothing : begun.part ≡ [] = starts_nothing (marked_lines asked (pass_from job.first) (seen_lines covering.most begun.told.lines) begun.told.runs) begun.part (lines_none asked needs (pass_from job.first) (seen_lines covering.most begun.told.lines) begun.told.runs) begun.begins in
      record {
        needs = all.0;
        is_any = ends_file.is_any ∙ all.1;
        has = first_of covering known (S.remaining source') begun.given begun.ended begun.passed (reads_given begun.given begun.gives.bytes)
            (ends_seen (S.empty_reads source) (S.empty_reads source') begun.ended none ends begun.gives.end);
        selected = sym (ap (nat_lt 0) selected) ∙ all.1;
        written = Appends-trans (K.taken output) (K.taken output') held' [] (total_if job.shown job.style (file_selected job covering begun.passed.lines begun.passed.runs))
            (rw nothing at begun.written) (rw selected at ends_file.written);
      }

  -- and one that was not read to its end, or not all was written
  pub file_part : (asked : FileAsked) → asked ≡ file_asked job covering.rules → BeginsWalk S K asked (pass_from job.first) pass' source source' output output' covering → (count : ℕ)
      → BeginsTotal job count (K.taken output') held' → BeginsMarks job covering known (K.taken output) held'
  file_part asked same begun count total = record {
    has = first_of covering known (S.remaining source') begun.given begun.ended begun.told (reads_given begun.given begun.gives.bytes)
        (ends_seen (S.empty_reads source) (S.empty_reads source') begun.ended none ends begun.gives.end);
    part = begun.part;
    begins = subst (λ (a : FileAsked). StartsWith (marked_lines a (pass_from job.first) (seen_lines covering.most begun.told.lines) begun.told.runs) begun.part) same begun.begins;
    count = count;
    tail = total.begun;
    ends = subst (λ (l : List ℕ). StartsWith l total.begun) (sym total.cut) (begins_with total.begun total.missing);
    written = Appends-trans (K.taken output) (K.taken output') held' begun.part total.begun begun.written total.written;
  }

  -- a file was searched that was read to its end, or of which a selected line told all
  pub file_searched : (asked : FileAsked) → asked ≡ file_asked job covering.rules → (done : Result (Unit {0}) LineError) → WalksLines S K asked (pass_from job.first) pass' done source source' output output' covering
      → (done ≡ Ok tt) ⊎ HasToldAll job.shown pass' → (any : Bool) → EndsFile job pass'.selected (K.taken output') held' any → MarksFile job covering known (K.taken output) held' any
  file_searched asked same (Ok tt) walks (inl is) any ends_file = inl (file_whole asked same walks.whole any ends_file)
  file_searched asked same (Err error) walks (inl is) any ends_file = absurd (cc)
  file_searched asked same done walks (inr told) any ends_file = inr (file_told asked same walks.begun told any ends_file)

-- the rules of a cover are those of a covering by it
pub covering_rules : {A : Type 0} (G : Automata A) (cover : LineCover A) (covering : Covering) (rules : List Rule) → MarksBy G cover covering → rules_of cover ≡ rules → covering.rules ≡ rules
covering_rules G cover covering rules by same = ap (λ (c : Covering). c.rules) by.is ∙ same

-- a cover marks by the same afterwards
pub still_marks : {A : Type 0} (G : Automata A) (old new : LineCover A) (covering : Covering) → CanCoverLines G new → CoversTheSame old new → MarksBy G old covering → MarksBy G new covering
still_marks G old new covering can same is = record {
  can = can;
  searched = rw same.automaton is.searched;
  is = rw (same.words, same.rules, same.most) is.is;
}

-- nothing is written of a file that is not read
pub marks_none : (job : Job) (covering : Covering) (known held held' : Option (List ℕ)) → Keeps held held' → BeginsMarks job covering known held held'
marks_none job covering known held held' kept = record {
  has = record { text = (nothing_of known).0; of = (nothing_of known).1; lines = []; first = (stream_lines (nothing_of known).0, refl); runs = []; are = tt };
  part = [];
  begins = refl;
  count = 0;
  tail = [];
  ends = refl;
  written = keeps_nil held held' kept;
}
  where
    nothing_of : (known : Option (List ℕ)) → (text : List ℕ) × IfSome known (λ bytes. text ≡ bytes)
    nothing_of None = ([], tt)
    nothing_of (Some all) = (all, refl)

-- what comes of the file of a name
module _ (job named : Job) (covering : Covering) (holds : List ℕ → Option (List ℕ)) (left : Option (List ℕ)) (read : Bool) (name : List ℕ) (held held' : Option (List ℕ))
    (is_named : IsNamed job (shown_name job.label.now name) false named) where
  -- by whether it is standard input, which was read before
  pub name_comes : (again : Bool) → (read && is_input name) ≡ again → (outcome : Outcome) → IfSearched outcome (MarksInput named covering again (known_of holds name left) held held')
      → IfBroken outcome (BeginsInput named covering again (known_of holds name left) held held') → ComesName job covering holds left read name held held' outcome
  name_comes again is outcome searched begun = record {
    searched = if_searched outcome _ _ (λ any file. record { named = named; is_named = is_named; file = rw is file }) searched;
    begun = if_broken outcome (λ file. record { named = named; is_named = is_named; file = rw is file }) begun;
  }

  -- of one that is not searched
  pub name_none : Keeps held held' → ComesName job covering holds left read name held held' Unread
  name_none kept = name_comes (read && is_input name) refl Unread tt (none (read && is_input name))
    where
      none : (again : Bool) → BeginsInput named covering again (known_of holds name left) held held'
      none true = total_none named 0 held held' kept
      none false = marks_none named covering (known_of holds name left) held held' kept
