-- What is written of a line that rules mark.
use Rattle.acgrep.specs.Common.{Appends, Occurrence, Rule, SinkGhosts, flat_map}
use Rattle.std.specs.Borrow.{MutBor}
use Rattle.std.specs.Prelude.{◌%◌, ◌&&◌, ◌++◌, ◌+◌, ◌==◌, ◌^◌, ◌||◌, ◌∷◌, ◌≡◌, ◌⊎◌, Bool, List, None, Option, Some, [], codes, false, if◌then◌else◌, length, not, slice_get, string_bytes, true, ℕ}
use Rattle.aho_devices.specs.Counts.{AppendsBeginning}
use Rattle.acgrep.specs.Objects.{FieldsTold, bytes_named, fields_by, json_escaped, json_front}
use Rattle.acgrep.specs.Printed.{line_by, matches_by}
use Rattle.acgrep.specs.Written.{needs_one, one_more}
use Rattle.acgrep.specs.declared.marked.Pass.{Pass}
use Rattle.acgrep.specs.declared.marked.Task.{Task}
use Rattle.acgrep.specs.declared.options.Shown.{Shown}
use Rattle.acgrep.specs.declared.options.Shown.TheVariants.{Lines, Matches, Objects}
use Rattle.acgrep.specs.declared.print.Place.{Place}
use Rattle.acgrep.specs.declared.print.Style.{Style}

-- the name of the rule of a number
abbrev pub id_or_none : Option Rule → List ℕ
id_or_none None = []
id_or_none (Some rule) = string_bytes rule.id

abbrev pub rule_id : List Rule → ℕ → List ℕ
rule_id rules number = id_or_none (slice_get rules number)

-- a run as an object, on a line of its own: as a match, with the name of its rule before its bytes
abbrev pub ruled_json : FieldsTold → List ℕ → List ℕ
ruled_json fields id = json_front fields ++ (codes ",\"id\":\"" ++ (json_escaped id ++ (codes "\"" ++ (bytes_named fields.text ++ codes "\"}\n"))))

abbrev pub ruled_object : Style → List Rule → Place → List ℕ → Occurrence → List ℕ
ruled_object style rules place line run = ruled_json (fields_by style place line run) (rule_id rules run.pattern)

-- one run after another
abbrev pub ruled_objects : Style → List Rule → Place → List ℕ → List Occurrence → List ℕ
ruled_objects style rules place line runs = flat_map (λ run. ruled_object style rules place line run) runs

-- what is written of a line with these runs: the line, or its runs so or so
abbrev pub marked_shown : Shown → Style → List Rule → Place → List ℕ → List Occurrence → List ℕ
marked_shown Lines style rules place line runs = line_by style place line
marked_shown Matches style rules place line runs = matches_by style place line runs
marked_shown Objects style rules place line runs = ruled_objects style rules place line runs
marked_shown _ style rules place line runs = []

-- whether a line is selected: rules mark something in it, or it is too long, and then it comes without its bytes and as one run
abbrev pub is_marked : List Occurrence → Bool
is_marked runs = not (length runs == 0)

abbrev pub is_too_long : List ℕ → List Occurrence → Bool
is_too_long line runs = (length line == 0) && is_marked runs

-- how many bytes it has
abbrev pub first_end : List Occurrence → ℕ
first_end [] = 0
first_end (run ∷ runs) = run.end

abbrev pub line_len : List ℕ → List Occurrence → ℕ
line_len line runs = if length line == 0 then first_end runs else length line

-- what is asked of a file: what is written of a selected line, what stands before it, and the rules
pub record FileAsked : Type 0 where
  pub shown : Shown
  pub style : Style
  pub rules : List Rule

abbrev pub asked_of : Task → FileAsked
asked_of task = record { shown = task.shown; style = task.style; rules = task.rules.now }

-- nothing is written of a line that is not selected, and of one that is too long
abbrev pub marked_line : FileAsked → Place → List ℕ → List Occurrence → List ℕ
marked_line asked place line runs =
    if (length runs == 0) || (length line == 0) then [] else marked_shown asked.shown asked.style asked.rules place line runs

-- by what is asked of a file
abbrev pub task_line : Task → Place → List ℕ → List Occurrence → List ℕ
task_line task place line runs = marked_line (asked_of task) place line runs

-- one more, if that is so; a count stays at the greatest number
abbrev pub more_if : Bool → ℕ → ℕ
more_if asked count = if asked then one_more count else count

-- how far a file was searched behind a line
abbrev pub pass_behind : Pass → List ℕ → List Occurrence → Pass
pass_behind pass line runs = record {
  place = record { lines = (pass.place.lines + 1) % 2 ^ 64; bytes = (pass.place.bytes + (line_len line runs + 1)) % 2 ^ 64 };
  selected = more_if (is_marked runs) pass.selected;
  long = more_if (is_too_long line runs) pass.long;
}

-- and behind some lines, and what is written of them
abbrev pub pass_after : Pass → List (List ℕ) → List (List Occurrence) → Pass
pass_after pass (line ∷ lines) (runs ∷ more) = pass_after (pass_behind pass line runs) lines more
pass_after pass lines runs = pass

abbrev pub marked_lines : FileAsked → Pass → List (List ℕ) → List (List Occurrence) → List ℕ
marked_lines asked pass (line ∷ lines) (runs ∷ more) = marked_line asked pass.place line runs ++ marked_lines asked (pass_behind pass line runs) lines more
marked_lines asked pass lines runs = []

module _ {W : Type 0} (K : SinkGhosts W) where
  -- what is asked of a line was written to the same output, and it does not tell all
  pub record WritesMarked (output output' : MutBor W) (task task' : Task) (pass pass' : Pass) (line : List ℕ) (runs : List Occurrence) : Type 0 where
    pub same : output'.ghost_name ≡ output.ghost_name
    pub same_task : task' ≡ task
    pub written : Appends (K.taken output.now) (K.taken output'.now) (marked_line (asked_of task) pass.place line runs)
    pub behind : pass' ≡ pass_behind pass line runs
    pub goes_on : (needs_one task.shown && is_marked runs) ≡ false

  -- a beginning of that was, or the line is selected and tells all
  pub record StopsMarked (output output' : MutBor W) (task task' : Task) (pass pass' : Pass) (line : List ℕ) (runs : List Occurrence) : Type 0 where
    pub same : output'.ghost_name ≡ output.ghost_name
    pub same_task : task' ≡ task
    pub begun : AppendsBeginning (K.taken output.now) (K.taken output'.now) (marked_line (asked_of task) pass.place line runs)
    pub why : (pass' ≡ pass) ⊎ ((pass' ≡ pass_behind pass line runs) × ((needs_one task.shown && is_marked runs) ≡ true))
