-- What is written of a file that is not searched to its end.
use Rattle.acgrep.proofs.Common.{Appends, Appends-trans, AppendsBeginning, Context, Fit, Job, Keeps, Lines, Matches, Objects, Patterns, Place, Shown, State, Style, and_parts, common_steps}
use Rattle.std.proofs.Common.{◌++◌, ◌==◌, ◌∙◌, ◌≡◌, ◌⊎◌, Bool, List, None, Option, Some, [], ap, append-nil, arith, drop, false, inl, inr, refl, subst, sym, take, take-append-drop, true, ℕ}
use Rattle.std.specs.Prelude.{◌&&◌, ◌||◌, IfSome, MatchBool, not}
use Rattle.acgrep.specs.Binary.{TellsBinary, binary_by, is_guarded, lines_by, takes_text, writes_lines}
use Rattle.acgrep.specs.Contexts.{IsBegin, TellsFrom, TellsIn, around_by, around_of, walk_of}
use Rattle.acgrep.specs.Files.{BeginsFile, BeginsTotal, IsTail, SearchesFile, TellsFirst, total_if}
use Rattle.acgrep.specs.Streamed.{BeginsBehind}
use Rattle.acgrep.specs.Written.{ShowsBy}
use Rattle.acgrep.proofs.Begun.{begins_both, begins_nothing, begins_on, nil_front}
use Rattle.acgrep.proofs.FileTellings.{from_begin, tells_none}
use Rattle.acgrep.proofs.Grouped.{told_around}
use Rattle.acgrep.proofs.Streams.{keeps_nil}
use Rattle.acgrep.proofs.StreamsBegun.{text_from}

-- nothing of the total is written
pub total_none : (job : Job) (count : ℕ) (x y : Option (List ℕ)) → Keeps x y → BeginsTotal job count x y
total_none job count x y keeps = record { begun = []; missing = total_if job.shown job.style count; cut = refl; written = keeps_nil x y keeps }

pub total_kept : (job : Job) (count : ℕ) (x y z : Option (List ℕ)) → Keeps x y → BeginsTotal job count y z → BeginsTotal job count x z
total_kept job count x y z keeps begins = record {
  begun = begins.begun;
  missing = begins.missing;
  cut = begins.cut;
  written = Appends-trans x y z [] begins.begun (keeps_nil x y keeps) begins.written;
}

-- a beginning of it is
pub total_begins : (job : Job) (count : ℕ) (x y : Option (List ℕ)) → AppendsBeginning x y (total_if job.shown job.style count) → BeginsTotal job count x y
total_begins job count x y (n, within, written) = record { begun = take n _; missing = drop n _; cut = sym (take-append-drop n _); written = written }

-- what follows from lines or matches being written
pub lines_total : (shown : Shown) (style : Style) (count : ℕ) → writes_lines shown ≡ true → total_if shown style count ≡ []
lines_total shown style count is = grind (arith, common_steps)

pub shows_lines : (job : Job) → is_guarded job ≡ true → writes_lines job.shown ≡ true
shows_lines job guarded = (and_parts (writes_lines job.shown) (job.guards && not (job.style.ending == 0)) guarded).0

-- nothing is asked of a file as a whole, or nothing is written of its lines
one_none : (p : Patterns) (shown : Shown) → ((style : Style) (count : ℕ) → total_if shown style count ≡ [])
    ⊎ ((fit : Fit) (invert : Bool) (style : Style) (place : Place) (line bytes : List ℕ) → ShowsBy p shown fit invert style place line bytes → bytes ≡ [])
one_none p Lines = inl (λ style count. refl)
one_none p Matches = inl (λ style count. refl)
one_none p Objects = inl (λ style count. refl)
one_none p _ = inr (λ fit invert style place line bytes none. none)

module _ (p : Patterns) (job : Job) where
  -- nothing is asked of a file as a whole where lines around selected ones are written
  no_total : (shown : Shown) (asked : Option Context) (context : Context) (style : Style) (count : ℕ) → around_by shown asked ≡ Some context → total_if shown style count ≡ []
  no_total shown asked context style count is = grind (arith, common_steps)

  -- what was told of first lines from the begin of their file on, or what is asked of it as a whole, is nothing
  told_in : (around : Option Context) → around_of job ≡ around → (before : State) (count : ℕ) (first : List (List ℕ)) (told : List ℕ) → IsBegin job before → TellsFrom p job around before count first told
      → (n : ℕ) × TellsIn p job around first told n × (total_if job.shown job.style n ≡ total_if job.shown job.style count) × ((told ≡ []) ⊎ (total_if job.shown job.style n ≡ []))
  told_in None is before count first told begin tells = (
    count,
    from_begin p job before first told count begin tells,
    refl,
    elim (one_none p job.shown) [
      | inl none ↦ inr (none job.style count)
      | inr quiet ↦ inl (tells_none p job first before.place before.selected told count (λ place line bytes shows. quiet _ _ _ place line bytes shows) tells)
    ],
  )
  told_in (Some context) is before count first told begin (end, walks) =
      let none : (n : ℕ) → total_if job.shown job.style n ≡ [] = λ n. no_total job.shown job.context context job.style n is in (
        end.selected,
        told_around p job context first (walk_of before) end told begin.place begin.selected begin.trail.due begin.trail.some begin.trail.apart begin.trail.held walks,
        none end.selected ∙ sym (none count),
        inr (none end.selected),
      )

  tail_by : (guarded : Bool) → is_guarded job ≡ guarded → (text : List ℕ) (first : List (List ℕ)) (count : ℕ) (tail : List ℕ) → tail ≡ total_if job.shown job.style count
      → MatchBool guarded ((tail ≡ []) ⊎ (TellsBinary p job text first count × (tail ≡ binary_by job.style))) (tail ≡ total_if job.shown job.style count)
  tail_by true is text first count tail same = inl (same ∙ lines_total job.shown job.style count (shows_lines job is))
  tail_by false is text first count tail same = same

  -- what is asked of a file as a whole stands behind its lines
  tail_total : (text : List ℕ) (first : List (List ℕ)) (count : ℕ) → IsTail p job text first count (total_if job.shown job.style count)
  tail_total text first count = tail_by (is_guarded job) refl text first count (total_if job.shown job.style count) refl

  -- what a reader gives was begun, and what is asked of the file as a whole
  pub file_begins : (alone : Bool) → (is_guarded job || takes_text job) ≡ alone → (before state : State) (left held meanwhile held' : Option (List ℕ)) → IsBegin job before
      → BeginsBehind p job alone before state held meanwhile left [] → BeginsTotal job state.selected meanwhile held' → BeginsFile p job left held held'
  file_begins alone is before state left held meanwhile held' begin behind total =
      let b = behind.begins in
      let (n, tells, same, none) = told_in (around_of job) refl before state.selected b.first b.all begin b.tells in
      let tail = total_if job.shown job.style n in
      let (missing, cut) = begins_both b.all b.begun b.missing tail total.begun total.missing b.is (same ∙ total.cut) none in
      record {
        text = behind.text;
        of = behind.of;
        begins = record {
          first = b.first;
          left = b.left;
          cut = ap (λ (t : Bool). lines_by t job.style.ending behind.text) is ∙ b.cut;
          all = b.all ++ tail;
          tells = record { told = b.all; count = n; tells = tells; tail = tail; behind = tail_total behind.text b.first n; is = refl };
          begun = b.begun ++ total.begun;
          missing = missing;
          is = cut;
          written = Appends-trans held meanwhile held' b.begun total.begun b.written total.written;
        };
      }

  -- where lines are kept from the output nothing is asked of the file as a whole
  pub file_grown : is_guarded job ≡ true → (known held meanwhile held' : Option (List ℕ)) (count : ℕ) → BeginsFile p job known held meanwhile → BeginsTotal job count meanwhile held' → BeginsFile p job known held held'
  file_grown guarded known held meanwhile held' count begins total =
      let none : total.begun ≡ [] = nil_front total.begun total.missing (sym (lines_total job.shown job.style count (shows_lines job guarded)) ∙ total.cut) in
      let b = begins.begins in
      let written = Appends-trans held meanwhile held' b.begun [] b.written (subst (Appends meanwhile held') none total.written) in
      record { text = begins.text; of = begins.of; begins = begins_on (TellsFirst p job begins.text) (lines_by (is_guarded job || takes_text job) job.style.ending begins.text) held meanwhile held held' b (subst (Appends held held') (append-nil b.begun) written) }

  tells_nothing : (around : Option Context) → TellsIn p job around [] [] 0
  tells_nothing None = (refl, refl)
  tells_nothing (Some context) = record {
    chosen = [];
    written = [];
    are_chosen = refl;
    are_written = record { as_many = refl; near = λ i is. absurd (cc); all = λ i low near. absurd (omega (arith, low)) };
    tells = refl;
  }

  -- nothing is written of a file
  pub file_none : (known held held' : Option (List ℕ)) → Keeps held held' → BeginsFile p job known held held'
  file_none known held held' keeps =
      let (text, of, none) = text_from known [] in
      let total = total_if job.shown job.style 0 in
      let Tells = TellsFirst p job text in
      let told : Tells [] total = record { told = []; count = 0; tells = tells_nothing (around_of job); tail = total; behind = tail_total text [] 0; is = refl } in
      record { text = text; of = of; begins = begins_nothing Tells (lines_by (is_guarded job || takes_text job) job.style.ending text) held held' total told (keeps_nil held held' keeps) }

pub of_kept : (known known' : Option (List ℕ)) (text : List ℕ) → Keeps known known' → IfSome known' (λ (bytes : List ℕ). text ≡ bytes) → IfSome known (λ (bytes : List ℕ). text ≡ bytes)
of_kept known known' text keeps of = grind (arith, common_steps)

-- the bytes of the file are those of its reader
pub file_known : (p : Patterns) (job : Job) (known known' held held' : Option (List ℕ)) → Keeps known known' → BeginsFile p job known' held held' → BeginsFile p job known held held'
file_known p job known known' held held' keeps begins = record { text = begins.text; of = of_kept known known' begins.text keeps begins.of; begins = begins.begins }

-- the same where all of it was searched
pub file_read : (p : Patterns) (job : Job) (known known' held held' : Option (List ℕ)) (any : Bool) → Keeps known known' → SearchesFile p job known' held held' any
    → SearchesFile p job known held held' any
file_read p job known known' held held' any keeps all = record {
  text = all.text;
  of = of_kept known known' all.text keeps all.of;
  bytes = all.bytes;
  tells = all.tells;
  written = all.written;
}
