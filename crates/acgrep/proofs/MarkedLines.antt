-- What is written of lines, one after another, by what a visitor of them leaves.
use Rattle.acgrep.proofs.Common.{Appends, Appends-nil, Appends-trans, Covering, Occurrence, Patterns, Rule, SinkGhosts, length-map, stream_lines, take_all}
use Rattle.std.proofs.Common.{◌++◌, ◌∙◌, ◌∷◌, ◌≡◌, Bool, List, [], ap, append-nil, append_assoc, arith, inl, inr, length, refl, subst, suc, sym, take, true, ℕ}
use Rattle.std.proofs.lemmas.List.{map-append}
use Rattle.std.specs.Borrow.{MutBor}
use Rattle.std.specs.Prelude.{Err, Ok, Result}
use Rattle.aho_core.specs.declared.error.stream.StreamError.{StreamError}
use Rattle.aho_cover.proofs.Copied.{begins_shorter}
use Rattle.aho_devices.specs.declared.device.Source.{Ghosts as SourceGhosts}
use Rattle.aho_stream.specs.Replacing.{MayBe, SourceGave}
use Rattle.secret_rules.specs.Covering.{AreLineRuns, covering_by, seen_line}
use Rattle.secret_rules.specs.Lines.{Line}
use Rattle.secret_rules.specs.Visits.{AreFirstLines, LeavesVisited, StopsWithin, VisitsEach, taken_line}
use Rattle.secret_rules.specs.declared.error.LineError.{LineError}
use Rattle.secret_rules.specs.declared.visitor.LineVisitor.{Ghosts as VisitorGhosts}
use Rattle.acgrep.specs.Marked.{FileAsked, StopsMarked, WritesMarked, asked_of, marked_line, marked_lines, pass_after, pass_behind}
use Rattle.acgrep.specs.MarkedFiles.{BeginsWalk, FirstGiven, WalksLines, seen_lines}
use Rattle.acgrep.specs.declared.marked.Pass.{Pass}
use Rattle.acgrep.specs.declared.marked.Task.{Task}

-- the runs of some lines without the last
runs_front : (covering : Covering) (before : List (List ℕ)) (first : List Line) (line : Line) (more : List (List Occurrence)) (own : List Occurrence) → AreLineRuns covering before (first ++ line ∷ []) (more ++ own ∷ [])
    → length first ≡ length more → AreLineRuns covering before first more
runs_front covering before [] line [] own are same = tt
runs_front covering before (one ∷ first) line (runs ∷ more) own are same =
    (are.0, runs_front covering (before ++ seen_line covering.most one.bytes ∷ []) first line more own are.1 (omega (arith, same)))
runs_front covering before _ line _ own are same = absurd (omega (arith, same))

lines_append : (most : ℕ) (first : List Line) (line : Line) → seen_lines most (first ++ line ∷ []) ≡ seen_lines most first ++ seen_line most line.bytes ∷ []
lines_append most first line = map-append (λ (line : Line). seen_line most line.bytes) first (line ∷ [])

-- what is written of some lines and one more
marked_append : (asked : FileAsked) (pass : Pass) (first : List (List ℕ)) (line : List ℕ) (more : List (List Occurrence)) (own : List Occurrence) → length first ≡ length more
    → marked_lines asked pass (first ++ line ∷ []) (more ++ own ∷ []) ≡ marked_lines asked pass first more ++ marked_line asked (pass_after pass first more).place line own
marked_append asked pass [] line [] own same = append-nil (marked_line asked pass.place line own)
marked_append asked pass (one ∷ first) line (runs ∷ more) own same =
    let next = pass_behind pass one runs in
    ap (λ l. marked_line asked pass.place one runs ++ l) (marked_append asked next first line more own (omega (arith, same)))
    ∙ sym (append_assoc (marked_line asked pass.place one runs) (marked_lines asked next first more) (marked_line asked (pass_after next first more).place line own))
marked_append asked pass _ line _ own same = absurd (omega (arith, same))

after_append : (pass : Pass) (first : List (List ℕ)) (line : List ℕ) (more : List (List Occurrence)) (own : List Occurrence) → length first ≡ length more
    → pass_after pass (first ++ line ∷ []) (more ++ own ∷ []) ≡ pass_behind (pass_after pass first more) line own
after_append pass [] line [] own same = refl
after_append pass (one ∷ first) line (runs ∷ more) own same = after_append (pass_behind pass one runs) first line more own (omega (arith, same))
after_append pass _ line _ own same = absurd (omega (arith, same))

module _ {V W : Type 0} (L : VisitorGhosts V) (K : SinkGhosts W) (most : ℕ) (output_of : V → MutBor W) (task_in : V → Task) (pass_in : V → Pass)
    (writes : (visitor visitor' : V) (line : Line) (runs : List Occurrence) → L.visits visitor visitor' line runs
    → WritesMarked K (output_of visitor) (output_of visitor') (task_in visitor) (task_in visitor') (pass_in visitor) (pass_in visitor') line.bytes runs)
    (stops : (visitor visitor' : V) (line : Line) (runs : List Occurrence) (error : StreamError) → L.stops visitor visitor' line runs error
    → StopsMarked K (output_of visitor) (output_of visitor') (task_in visitor) (task_in visitor') (pass_in visitor) (pass_in visitor') line.bytes runs) where
  record WritesEach (visitor visitor' : V) (lines : List Line) (runs : List (List Occurrence)) : Type 0 where
    same : (output_of visitor').ghost_name ≡ (output_of visitor).ghost_name
    same_task : task_in visitor' ≡ task_in visitor
    as_many : length lines ≡ length runs
    written : Appends (K.taken (output_of visitor).now) (K.taken (output_of visitor').now) (marked_lines (asked_of (task_in visitor)) (pass_in visitor) (seen_lines most lines) runs)
    comes : pass_in visitor' ≡ pass_after (pass_in visitor) (seen_lines most lines) runs

  each_written : (visitor visitor' : V) (lines : List Line) (runs : List (List Occurrence)) → VisitsEach L most visitor visitor' lines runs → WritesEach visitor visitor' lines runs
  each_written visitor visitor' [] [] is = record {
    same = ap (λ (v : V). (output_of v).ghost_name) is;
    same_task = ap task_in is;
    as_many = refl;
    written = subst (λ (v : V). Appends (K.taken (output_of visitor).now) (K.taken (output_of v).now) []) (sym is) (Appends-nil (K.taken (output_of visitor).now));
    comes = ap pass_in is;
  }
  each_written visitor visitor' (line ∷ lines) (own ∷ runs) (next, visits, rest) =
      let one = writes visitor next (taken_line most line) own visits in
      let later = each_written next visitor' lines runs rest in
      let asked = asked_of (task_in visitor) in
      let seen = seen_lines most lines in
      let behind = pass_behind (pass_in visitor) (seen_line most line.bytes) own in
      let more = subst (λ (p : Pass). Appends (K.taken (output_of next).now) (K.taken (output_of visitor').now) (marked_lines asked p seen runs)) one.behind
      (subst (λ (t : Task). Appends (K.taken (output_of next).now) (K.taken (output_of visitor').now) (marked_lines (asked_of t) (pass_in next) seen runs)) one.same_task later.written) in
      record {
        same = later.same ∙ one.same;
        same_task = later.same_task ∙ one.same_task;
        as_many = ap suc later.as_many;
        written = Appends-trans (K.taken (output_of visitor).now) (K.taken (output_of next).now) (K.taken (output_of visitor').now)
            (marked_line asked (pass_in visitor).place (seen_line most line.bytes) own) (marked_lines asked behind seen runs) one.written more;
        comes = later.comes ∙ ap (λ (p : Pass). pass_after p seen runs) one.behind;
      }
  each_written visitor visitor' _ _ is = absurd is

  -- what is left of a source whose first lines were taken: all of them, or all but the last, at which a visit failed
  module _ {R : Type 0} (S : SourceGhosts R) (words : Bool) (rules : List Rule) (p : Patterns) (source source' : R) (visitor visitor' : V) (given : List ℕ) (ended : Bool) (gives : SourceGave S source source' given ended) where
    abbrev First : Type 0
    First = FirstGiven (covering_by words rules most p) given ended

    abbrev Begins : Type 0
    Begins = BeginsWalk S K (asked_of (task_in visitor)) (pass_in visitor) (pass_in visitor') source source' (output_of visitor).now (output_of visitor').now (covering_by words rules most p)

    begun_whole : (told : First) → VisitsEach L most visitor visitor' told.lines told.runs → Begins
    begun_whole told is =
        let each = each_written visitor visitor' told.lines told.runs is in
        let all = marked_lines (asked_of (task_in visitor)) (pass_in visitor) (seen_lines most told.lines) told.runs in
        record {
          given = given;
          ended = ended;
          gives = gives;
          told = told;
          part = all;
          begins = take_all (length all) all (omega arith);
          written = each.written;
          passed = told;
          comes = each.comes;
        }

    module _ (first : List Line) (line : Line) (more : List (List Occurrence)) (own : List Occurrence) (between : V) (cause : StreamError)
        (visits : VisitsEach L most visitor between first more) (fails : L.stops between visitor' (taken_line most line) own cause)
        (are : AreLineRuns (covering_by words rules most p) [] (first ++ line ∷ []) (more ++ own ∷ [])) (begin : (bytes : List ℕ) → MayBe given ended bytes → AreFirstLines (first ++ line ∷ []) (stream_lines bytes)) where
      abbrev all_told : First
      all_told = record { lines = first ++ line ∷ []; first = begin; runs = more ++ own ∷ []; are = are }

      each_first : WritesEach visitor between first more
      each_first = each_written visitor between first more visits

      stop_last : StopsMarked K (output_of between) (output_of visitor') (task_in between) (task_in visitor') (pass_in between) (pass_in visitor') (seen_line most line.bytes) own
      stop_last = stops between visitor' (taken_line most line) own cause fails

      abbrev seen_last : List ℕ
      seen_last = seen_line most line.bytes

      as_many : length (seen_lines most first) ≡ length more
      as_many = length-map first (λ (line : Line). seen_line most line.bytes) ∙ each_first.as_many

      all_is : marked_lines (asked_of (task_in visitor)) (pass_in visitor) (seen_lines most (first ++ line ∷ [])) (more ++ own ∷ [])
          ≡ marked_lines (asked_of (task_in visitor)) (pass_in visitor) (seen_lines most first) more ++ marked_line (asked_of (task_in between)) (pass_in between).place seen_last own
      all_is =
          let asked = asked_of (task_in visitor) in
          let front = marked_lines asked (pass_in visitor) (seen_lines most first) more in
          ap (λ (l : List (List ℕ)). marked_lines asked (pass_in visitor) l (more ++ own ∷ [])) (lines_append most first line)
          ∙ marked_append asked (pass_in visitor) (seen_lines most first) seen_last more own as_many
          ∙ ap (λ (p : Pass). front ++ marked_line asked p.place seen_last own) (sym each_first.comes)
          ∙ ap (λ (t : Task). front ++ marked_line (asked_of t) (pass_in between).place seen_last own) (sym each_first.same_task)

      begun_by : (passed : First) → pass_in visitor' ≡ pass_after (pass_in visitor) (seen_lines most passed.lines) passed.runs → Begins
      begun_by passed comes =
          let front = marked_lines (asked_of (task_in visitor)) (pass_in visitor) (seen_lines most first) more in
          let rest = marked_line (asked_of (task_in between)) (pass_in between).place seen_last own in
          let count = stop_last.begun.0 in
          record {
            given = given;
            ended = ended;
            gives = gives;
            told = all_told;
            part = front ++ take count rest;
            begins = rw all_is (begins_shorter (front ++ rest) front rest count stop_last.begun.1 (take_all (length (front ++ rest)) (front ++ rest) (omega arith)));
            written = Appends-trans _ _ _ _ (take count rest) each_first.written stop_last.begun.2;
            passed = passed;
            comes = comes;
          }

      begun_last : Begins
      begun_last = elim stop_last.why [
        | inl kept ↦ begun_by (record {
          lines = first;
          first = λ bytes may. let (later, is) = begin bytes may in (line ∷ later, is ∙ append_assoc first (line ∷ []) later);
          runs = more;
          are = runs_front (covering_by words rules most p) [] first line more own are each_first.as_many;
        }) (kept ∙ each_first.comes)
        | inr moved ↦ begun_by all_told (moved.0 ∙ ap (λ (p : Pass). pass_behind p seen_last own) each_first.comes ∙ sym (after_append _ _ seen_last more own as_many)
            ∙ ap (λ (l : List (List ℕ)). pass_after (pass_in visitor) l (more ++ own ∷ [])) (sym (lines_append most first line)))
      ]

    begun_within : (told : First) (error : LineError) → StopsWithin L most visitor visitor' told.lines told.runs error → Begins
    begun_within told error (inl is) = begun_whole told is.0
    begun_within told error (inr last) = begun_last last.first last.line last.more last.own last.between last.cause last.visits last.stops (rw (last.lines_are, last.runs_are) at told.are) (rw last.lines_are at told.first)

  module _ {R : Type 0} (S : SourceGhosts R) (Searched : Patterns → Type 0) (words : Bool) (rules : List Rule) (source source' : R) (visitor visitor' : V) where
    pub walked_lines : (p : Patterns) → Searched p → (done : Result (Unit {0}) LineError) → LeavesVisited S L Searched words rules most source source' visitor visitor' done
        → WalksLines S K (asked_of (task_in visitor)) (pass_in visitor) (pass_in visitor') done source source' (output_of visitor).now (output_of visitor').now (covering_by words rules most p)
    walked_lines p sought (Ok tt) leaves =
        let whole = leaves.visited in
        let each = each_written visitor visitor' (stream_lines whole.given) whole.runs whole.visits in
        record {
          whole = record {
            text = whole.given;
            gives = whole.gives;
            runs = whole.runs;
            are = whole.runs_are p sought;
            comes = each.comes;
            written = each.written;
          };
          begun = begun_whole S words rules p source source' visitor visitor' whole.given true whole.gives (record {
            lines = stream_lines whole.given;
            first = λ bytes may. ([], ap stream_lines (may.1 ∙ ap (λ l. whole.given ++ l) may.2 ∙ append-nil whole.given) ∙ sym (append-nil (stream_lines whole.given)));
            runs = whole.runs;
            are = whole.runs_are p sought;
          }) whole.visits;
        }
    walked_lines p sought (Err error) leaves =
        let begun = leaves.begun in
        record {
          whole = tt;
          begun = begun_within S words rules p source source' visitor visitor' begun.given begun.ended begun.gives (record { lines = begun.lines; first = begun.first; runs = begun.runs; are = begun.runs_are p sought }) error begun.stops;
        }

    -- to the same output
    pub walked_same : (done : Result (Unit {0}) LineError) → LeavesVisited S L Searched words rules most source source' visitor visitor' done → (output_of visitor').ghost_name ≡ (output_of visitor).ghost_name
    walked_same (Ok tt) leaves = (each_written visitor visitor' (stream_lines leaves.visited.given) leaves.visited.runs leaves.visited.visits).same
    walked_same (Err error) leaves = elim leaves.begun.stops [
      | inl is ↦ (each_written visitor visitor' leaves.begun.lines leaves.begun.runs is.0).same
      | inr last ↦ (stops last.between visitor' (taken_line most last.line) last.own last.cause last.stops).same ∙ (each_written visitor last.between last.first last.more last.visits).same
    ]
