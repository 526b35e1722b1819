-- What is written of files whose lines rules mark, one after another.
use Rattle.acgrep.specs.Common.{Appends, Occurrence, Rule, SinkGhosts, is_input}
use Rattle.std.specs.Io.{StartsWith}
use Rattle.std.specs.Prelude.{◌&&◌, ◌++◌, ◌||◌, ◌≡◌, ◌⊎◌, Bool, IfSome, List, MatchBool, OnOk, Option, Result, [], false, map, nat_lt, true, ℕ}
use Rattle.aho_automaton.specs.declared.automaton.Automaton.{Ghosts as Automata}
use Rattle.aho_devices.specs.declared.device.Source.{Ghosts as SourceGhosts}
use Rattle.aho_stream.specs.Replacing.{MayBe, SourceGave}
use Rattle.secret_rules.specs.Covering.{AreLineRuns, Covering, covering_by, seen_line}
use Rattle.secret_rules.specs.LineCovers.{AreSearchedFor}
use Rattle.secret_rules.specs.Lines.{Line, stream_lines}
use Rattle.secret_rules.specs.Ready.{CanCoverLines, CoversTheSame, most_of, rules_of, searched_automaton, words_of}
use Rattle.secret_rules.specs.Visits.{AreFirstLines}
use Rattle.secret_rules.specs.declared.error.LineError.{LineError}
use Rattle.secret_rules.specs.declared.line_cover.LineCover.{LineCover}
use Rattle.acgrep.specs.Files.{BeginsTotal, EndsFile, IsNamed, known_of, shown_name, total_if}
use Rattle.acgrep.specs.InTurn.{AreBegun, AreDoneOr, FileWork, IfBroken, IfSearched}
use Rattle.acgrep.specs.Marked.{FileAsked, marked_lines, pass_after}
use Rattle.acgrep.specs.Written.{needs_one}
use Rattle.acgrep.specs.declared.files.Outcome.{Outcome}
use Rattle.acgrep.specs.declared.marked.Pass.{Pass}
use Rattle.acgrep.specs.declared.marked_files.Marking.{Marking}
use Rattle.acgrep.specs.declared.options.Shown.{Shown}
use Rattle.acgrep.specs.declared.print.Place.{Place}
use Rattle.acgrep.specs.declared.job.Job.{Job}

-- what is asked of the lines of a file, by these rules
abbrev pub file_asked : Job → List Rule → FileAsked
file_asked job rules = record { shown = job.shown; style = job.style; rules = rules }

-- before its first line, which stands there
abbrev pub pass_from : Place → Pass
pass_from place = record { place = place; selected = 0; long = 0 }

-- a selected line told all
abbrev pub HasToldAll : Shown → Pass → Type 0
HasToldAll shown pass = (needs_one shown ≡ true) × (nat_lt 0 pass.selected ≡ true)

-- lines as they are taken: those that are too long come without their bytes
abbrev pub seen_lines : ℕ → List Line → List (List ℕ)
seen_lines most lines = map (λ (line : Line). seen_line most line.bytes) lines

-- what is written of the first lines of a file, which have these runs, and how many of them are selected
abbrev pub file_marked : Job → Covering → List Line → List (List Occurrence) → List ℕ
file_marked job covering lines runs = marked_lines (file_asked job covering.rules) (pass_from job.first) (seen_lines covering.most lines) runs

abbrev pub file_selected : Job → Covering → List Line → List (List Occurrence) → ℕ
file_selected job covering lines runs = (pass_after (pass_from job.first) (seen_lines covering.most lines) runs).selected

-- a file whose bytes are these, where they are known, was read to its end: what is asked of its lines was written, and then what is asked
-- of it as a whole
pub record MarksText (job : Job) (covering : Covering) (known held held' : Option (List ℕ)) (any : Bool) : Type 0 where
  pub text : List ℕ
  pub of : IfSome known (λ bytes. text ≡ bytes)
  pub runs : List (List Occurrence)
  pub are : AreLineRuns covering [] (stream_lines text) runs
  pub any_is : any ≡ nat_lt 0 (file_selected job covering (stream_lines text) runs)
  pub written : Appends held held' (file_marked job covering (stream_lines text) runs ++ total_if job.shown job.style (file_selected job covering (stream_lines text) runs))

-- some first lines of it, and their runs
pub record HasFirst (covering : Covering) (known : Option (List ℕ)) : Type 0 where
  pub text : List ℕ
  pub of : IfSome known (λ bytes. text ≡ bytes)
  pub lines : List Line
  pub first : AreFirstLines lines (stream_lines text)
  pub runs : List (List Occurrence)
  pub are : AreLineRuns covering [] lines runs

-- one of them is selected
abbrev pub HasSelectedLine : (job : Job) (covering : Covering) (known : Option (List ℕ)) → HasFirst covering known → Type 0
HasSelectedLine job covering known has = nat_lt 0 (file_selected job covering has.lines has.runs) ≡ true

-- a selected line of it told all
pub record TellsAll (job : Job) (covering : Covering) (known held held' : Option (List ℕ)) (any : Bool) : Type 0 where
  pub needs : needs_one job.shown ≡ true
  pub is_any : any ≡ true
  pub has : HasFirst covering known
  pub selected : HasSelectedLine job covering known has
  pub written : Appends held held' (total_if job.shown job.style (file_selected job covering has.lines has.runs))

abbrev pub MarksFile : Job → Covering → (known held held' : Option (List ℕ)) → Bool → Type 0
MarksFile job covering known held held' any = MarksText job covering known held held' any ⊎ TellsAll job covering known held held' any

-- a beginning of what is asked of some first lines was written, and then one of what is asked of the file as a whole
pub record BeginsMarks (job : Job) (covering : Covering) (known held held' : Option (List ℕ)) : Type 0 where
  pub has : HasFirst covering known
  pub part : List ℕ
  pub begins : StartsWith (file_marked job covering has.lines has.runs) part
  pub count : ℕ
  pub tail : List ℕ
  pub ends : StartsWith (total_if job.shown job.style count) tail
  pub written : Appends held held' (part ++ tail)

-- what covers lines does so by this
pub record MarksBy {A : Type 0} (G : Automata A) (cover : LineCover A) (covering : Covering) : Type 0 where
  pub can : CanCoverLines G cover
  pub searched : AreSearchedFor G (searched_automaton cover) covering.patterns
  pub is : covering ≡ covering_by (words_of cover) (rules_of cover) (most_of cover) covering.patterns

-- a line of a file is selected
abbrev pub HasMarkedLine : Job → Covering → Option (List ℕ) → Type 0
HasMarkedLine job covering known = (has : HasFirst covering known) × HasSelectedLine job covering known has

-- what comes of a file of these bytes
pub record ComesMarked (job : Job) (covering : Covering) (known held held' : Option (List ℕ)) (outcome : Outcome) : Type 0 where
  pub searched : IfSearched outcome (MarksFile job covering known held held')
  pub begun : IfBroken outcome (BeginsMarks job covering known held held')

-- standard input has nothing more where it was read before
abbrev pub MarksInput : Job → Covering → (again : Bool) → (known held held' : Option (List ℕ)) → Bool → Type 0
MarksInput job covering again known held held' any = MatchBool again (EndsFile job 0 held held' any) (MarksFile job covering known held held' any)

abbrev pub BeginsInput : Job → Covering → (again : Bool) → (known held held' : Option (List ℕ)) → Type 0
BeginsInput job covering again known held held' = MatchBool again (BeginsTotal job 0 held held') (BeginsMarks job covering known held held')

-- what is written of the file of a name; `left` is what the input has left at first, and `read` says whether it was read before
pub record MarksName (job : Job) (covering : Covering) (holds : List ℕ → Option (List ℕ)) (left : Option (List ℕ)) (read : Bool) (name : List ℕ) (held held' : Option (List ℕ)) (any : Bool) : Type 0 where
  pub named : Job
  pub is_named : IsNamed job (shown_name job.label.now name) false named
  pub file : MarksInput named covering (read && is_input name) (known_of holds name left) held held' any

pub record BeginsMarksName (job : Job) (covering : Covering) (holds : List ℕ → Option (List ℕ)) (left : Option (List ℕ)) (read : Bool) (name : List ℕ) (held held' : Option (List ℕ)) : Type 0 where
  pub named : Job
  pub is_named : IsNamed job (shown_name job.label.now name) false named
  pub file : BeginsInput named covering (read && is_input name) (known_of holds name left) held held'

pub record ComesName (job : Job) (covering : Covering) (holds : List ℕ → Option (List ℕ)) (left : Option (List ℕ)) (read : Bool) (name : List ℕ) (held held' : Option (List ℕ)) (outcome : Outcome) : Type 0 where
  pub searched : IfSearched outcome (MarksName job covering holds left read name held held')
  pub begun : IfBroken outcome (BeginsMarksName job covering holds left read name held held')

-- the same, where so much is left of standard input now: what it had at first is known where it was not read before
abbrev pub ComesOfName : Job → Covering → (List ℕ → Option (List ℕ)) → (now : Option (List ℕ)) → (read : Bool) → List ℕ → (held held' : Option (List ℕ)) → Outcome → Type 0
ComesOfName job covering holds now read name held held' outcome =
    (left : Option (List ℕ)) → (read ≡ false → now ≡ left) → ComesName job covering holds left read name held held' outcome

-- what is searched of files by rules, where what stands under a name is held so and the input has this left at first: what is left of
-- it then is whether it was read
abbrev pub mark_work : Job → Covering → (List ℕ → Option (List ℕ)) → (left : Option (List ℕ)) → FileWork Bool
mark_work job covering holds left = record {
  Does = λ follows name read read' held held' any. (read' ≡ (read || is_input name)) × MarksName job covering holds left read name held held' any;
  Begins = λ follows name read held held'. BeginsMarksName job covering holds left read name held held';
  Leaves = λ name read read'. read' ≡ (read || is_input name);
  Has = λ name read. (named : Job) × IsNamed job (shown_name job.label.now name) false named × HasMarkedLine named covering (known_of holds name left);
}

-- the files of these names were searched, and the status tells it
abbrev pub AreMarkedOr : Job → Covering → (List ℕ → Option (List ℕ)) → (left : Option (List ℕ)) → List (List ℕ) → (held held' : Option (List ℕ)) → ℕ → Type 0
AreMarkedOr job covering holds left names held held' status = (read : Bool) × AreDoneOr (mark_work job covering holds left) job.shown names false read held held' status

-- of some first ones of them all that is asked is written, or a beginning of it
abbrev pub AreMarksBegun : Job → Covering → (List ℕ → Option (List ℕ)) → (left : Option (List ℕ)) → List (List ℕ) → (held held' : Option (List ℕ)) → Type 0
AreMarksBegun job covering holds left names held held' = AreBegun (mark_work job covering holds left) false names false held held'

-- a marking can begin a file: its rules are those by which it covers lines
pub record IsMarking {A : Type 0} (G : Automata A) (marking : Marking A) : Type 0 where
  pub can : CanCoverLines G marking.cover
  pub rules : rules_of marking.cover ≡ marking.rules.now

-- and goes on by the same
pub record SameMarking {A : Type 0} (one other : Marking A) : Type 0 where
  pub cover : CoversTheSame one.cover other.cover
  pub rules : other.rules ≡ one.rules

-- the stream has ended, and what is asked of each of its lines was written, from how far a file was searched on
pub record WalksGiven {R W : Type 0} (S : SourceGhosts R) (K : SinkGhosts W) (asked : FileAsked) (pass pass' : Pass) (source source' : R) (output output' : W) (covering : Covering) : Type 0 where
  pub text : List ℕ
  pub gives : SourceGave S source source' text true
  pub runs : List (List Occurrence)
  pub are : AreLineRuns covering [] (stream_lines text) runs
  pub comes : pass' ≡ pass_after pass (seen_lines covering.most (stream_lines text)) runs
  pub written : Appends (K.taken output) (K.taken output') (marked_lines asked pass (seen_lines covering.most (stream_lines text)) runs)

-- some first lines of what a source gave, whatever follows, and their runs
pub record FirstGiven (covering : Covering) (given : List ℕ) (ended : Bool) : Type 0 where
  pub lines : List Line
  pub first : (bytes : List ℕ) → MayBe given ended bytes → AreFirstLines lines (stream_lines bytes)
  pub runs : List (List Occurrence)
  pub are : AreLineRuns covering [] lines runs

-- the search came behind some first lines, and a beginning of what is asked of some first lines was written
pub record BeginsWalk {R W : Type 0} (S : SourceGhosts R) (K : SinkGhosts W) (asked : FileAsked) (pass pass' : Pass) (source source' : R) (output output' : W) (covering : Covering) : Type 0 where
  pub given : List ℕ
  pub ended : Bool
  pub gives : SourceGave S source source' given ended
  pub told : FirstGiven covering given ended
  pub part : List ℕ
  pub begins : StartsWith (marked_lines asked pass (seen_lines covering.most told.lines) told.runs) part
  pub written : Appends (K.taken output) (K.taken output') part
  pub passed : FirstGiven covering given ended
  pub comes : pass' ≡ pass_after pass (seen_lines covering.most passed.lines) passed.runs

-- what comes of the lines of a source
pub record WalksLines {R W : Type 0} (S : SourceGhosts R) (K : SinkGhosts W) (asked : FileAsked) (pass pass' : Pass) (result : Result (Unit {0}) LineError) (source source' : R) (output output' : W) (covering : Covering) : Type 0 where
  pub whole : OnOk result (WalksGiven S K asked pass pass' source source' output output' covering)
  pub begun : BeginsWalk S K asked pass pass' source source' output output' covering

-- what holds of all by which a cover marks lines
abbrev pub IfMarks : {A : Type 0} → Automata A → LineCover A → (Covering → Type 0) → Type 0
IfMarks G cover Holds = (covering : Covering) → MarksBy G cover covering → Holds covering
