-- What a look at a text says: for patterns by what the first call of an iterator over its matches answers, or by what a cover of its words counts; for
-- lines by what a visitor of them leaves.
use Rattle.acredact.proofs.Common.{Appends, Appends-nil, Appends-trans, AreLineRuns, AreTotals, Automata, Bool, Consumes-nil, Covering, Err, Failure, Ghosts, IfOk, IsStreamFault, Line, LineError, List, Look, LooksAt, MatchBool, Memory, MutBor, None, Occurrence, Ok, OnErr, OnOk, Option, Patterns, Redactor, Refused, Result, SinkGhosts, Some, SomeStream, Sought, SourceGhosts, StartsWith, StreamError, Write, WriteZero, [], all-made, all_runs, ap, append-nil, append_assoc, arith, common_steps, counted, drop, false, inl, inr, is_write_fault, is_write_of_nothing, le_refl, length, lines_findings, map, occurs_of, or-false, or_assoc, plain_search, refl, replicate, runs_named, shortest, slice_index, sought, stream_lines, subst, sym, take, true, ℕ, ◌++◌, ◌<◌, ◌||◌, ◌∙◌, ◌∷◌, ◌≡◌, ◌≤◌}
use Rattle.secret_rules.specs.LineCovers.{AreSearchedFor}
use Rattle.aho_cover.specs.Covers.{CountsRunsWith}
use Rattle.secret_rules.specs.Covering.{covering_by}
use Rattle.secret_rules.specs.Ready.{most_of, rules_of, searched_automaton, words_of}
use Rattle.std.proofs.lemmas.List.{take-append-drop}
use Rattle.aho_core.specs.Answer.{IsAnswer}
use Rattle.aho_core.specs.Iteration.{IsNextFind}
use Rattle.aho_cover.proofs.Copied.{begins_with}
use Rattle.aho_cover.specs.Words.{AreRunsWith}
use Rattle.aho_stream.specs.FindRuns.{FindsAll, FindsAlong, FindsSoFar}
use Rattle.aho_stream.specs.Finds.{FindsError, FindsNextInStream}
use Rattle.aho_stream.specs.Iterators.{CanGoOn}
use Rattle.aho_stream.specs.declared.finds.StreamFindIter.{StreamFindIter}
use Rattle.aho_stream.specs.declared.progress.StreamProgress.{StreamProgress}
use Rattle.aho_stream.proofs.FindRuns.{find_steps}
use Rattle.acredact.specs.Looks.{CountsInGiven, IsLookEnd, LooksSo, SomeCounts}
use Rattle.acredact.proofs.Redactions.{all_of, occurs_some, runs_hide}
use Rattle.acredact.proofs.Totals.{totals_of}
use Rattle.secret_rules.specs.Visits.{LeavesVisited, StopsWithin, VisitsEach, taken_line}
use Rattle.secret_rules.specs.declared.line_cover.LineCover.{LineCover}
use Rattle.secret_rules.specs.declared.visitor.LineVisitor.{Ghosts as VisitorGhosts}
use Rattle.acredact.specs.Deeds.{BegunAs}
use Rattle.acredact.specs.Findings.{BeginsFindings, StopsTelling, TellsLine, TellsText, findings_of, is_some_line, is_some_run, labels_of}
use Rattle.acredact.specs.RuledChecks.{IsByLines}
use Rattle.acredact.specs.declared.legend.Findings.{Findings}
use Rattle.acredact.specs.declared.teller.Teller.{Teller}

-- an error of the iterator is one of a look
error_ends : (p : Patterns) (s s' : StreamProgress) (given : List ℕ) (error : StreamError) → FindsError p s s' given error → IsLookEnd error
error_ends p s s' given (Refused cause) is = is
error_ends p s s' given (Write fault) is = is
error_ends p s s' given WriteZero is = absurd is
error_ends p s s' given error is = tt

module _ {A R : Type 0} (G : Ghosts A) (S : SourceGhosts R) (p : Patterns) (it rest : StreamFindIter A R) (along : FindsAlong S (find_steps G S) p it) (can : CanGoOn G it.chunks) where
  -- what the first find says
  pub looks_first : (first : Option (Result Occurrence StreamError)) → FindsNextInStream G S it.chunks rest.chunks first → LooksAt S (sought p false) (occurs_of first) it.chunks.source.now rest.chunks.source.now
  looks_first None step =
      let all : FindsAll S p it.chunks.source.now rest.chunks.source.now [] = along.all [] rest (it, refl, step) refl in
      record { given = all.given; ended = true; gives = all.gives; seen = (refl, subst (IsAnswer p (plain_search all.given)) (sym all.all.2) all.all.1); only = tt }
  looks_first (Some (Ok m)) step =
      let so : FindsSoFar S p it.chunks.source.now rest.chunks.source.now (Ok m ∷ []) = along.so_far (Ok m ∷ []) rest (rest, step, refl) in
      record {
        given = so.given;
        ended = so.ended;
        gives = so.gives;
        seen = λ bytes may.
            let next : IsNextFind p (plain_search bytes) None (Some m) = subst (λ (l : List ℕ). IsNextFind p (plain_search l) None (Some m)) (sym may.1) (so.first may.0 may.2).0 in
            (m, (subst (IsAnswer p (plain_search bytes)) (sym next.2) next.1).0);
        only = tt;
      }
  looks_first (Some (Err error)) step =
      let so : FindsSoFar S p it.chunks.source.now rest.chunks.source.now (Err error ∷ []) = along.so_far (Err error ∷ []) rest (rest, step, refl) in
      record { given = so.given; ended = so.ended; gives = so.gives; seen = tt; only = error_ends can.0 it.chunks.progress rest.chunks.progress _ error (step.finds can.0 can.1 can.2 can.3) }

-- nothing was read, since there was no memory
pub looks_memory : {R : Type 0} (S : SourceGhosts R) (r : Redactor) (source : R) → LooksAt S r (Err Memory) source source
looks_memory S r source = record {
  given = [];
  ended = false;
  gives = record { bytes = Consumes-nil (S.remaining source); end = refl };
  seen = tt;
  only = tt;
}

-- a look for words says what the counts do
module _ (p : Patterns) (some : 1 ≤ shortest (map length p.words)) (counts : List ℕ) where
  abbrev SomeCounted : Bool → Type 0
  SomeCounted found = MatchBool found ((number : ℕ) × (number < length counts) × (1 ≤ slice_index counts number)) ((number : ℕ) → number < length counts → slice_index counts number ≡ 0)

  counts_say : (given : List ℕ) (runs : List Occurrence) → AreRunsWith true p given runs → AreTotals (length p.words) runs counts → (found : Bool) → SomeCounted found → CountsInGiven (sought p true) found given true
  counts_say given [] are totals true (number, within, one) =
      let none : runs_named number [] ≡ 0 = refl in
      absurd (omega (arith, one, none, totals.each number (omega (arith, within, totals.one_each))))
  counts_say given (run ∷ runs) are totals true counted = λ bytes may.
      let is_run = (are.members run).0 (inl refl) in
      subst (λ (l : List ℕ). SomeCounts (sought p true) l) (sym (all_of given bytes may)) (is_run.longest, is_run.longest_is.0.0)
  counts_say given [] are totals false none =
      (refl, λ m word. ((runs_hide (sought p true) given [] are).hidden m.start (record { found = m; member = word; after_start = le_refl m.start; before_end = occurs_some p some given 0 m word.occurs })).member)
  counts_say given (run ∷ runs) are totals false none =
      let is_run = (are.members run).0 (inl refl) in
      let within : run.pattern < length p.words = omega (arith, is_run.named, is_run.longest_is.0.0.occurs.numbered) in
      let one : 1 ≤ runs_named run.pattern (run ∷ runs) = grind (arith, common_steps) in
      absurd (omega (arith, one, totals.each run.pattern within, none run.pattern (omega (arith, within, totals.one_each))))

  -- which began at zero
  pub looks_counted : {R : Type 0} (S : SourceGhosts R) (AreSearched : Patterns → Type 0) {source source' : R} {size : ℕ} {zeros : List ℕ} → AreSearched p → zeros ≡ replicate size 0 → size ≡ length p.words
      → CountsRunsWith S AreSearched true source source' zeros counts → (found : Bool) → SomeCounted found → LooksAt S (sought p true) (Ok found) source source'
  looks_counted S AreSearched {size = size} {zeros = zeros} of are sized whole found tells =
      let runs = all_runs true p whole.given in
      let made = all-made p whole.given true in
      record {
        given = whole.given;
        ended = true;
        gives = whole.gives;
        seen = counts_say whole.given runs made (subst (λ (n : ℕ). AreTotals n runs counts) sized (totals_of size runs zeros counts are (whole.counted p runs of made))) found tells;
        only = tt;
      }

-- why a cover that writes to nowhere ends early
pub fault_looks : (error : StreamError) → IsStreamFault error → 0 ≡ counted (is_write_fault {A = Unit {0}} (Err error)) 0 → 0 ≡ counted (is_write_of_nothing {A = Unit {0}} (Err error)) 0 → IsLookEnd error
fault_looks (Refused cause) is failed nothing = absurd is
fault_looks (Write fault) is failed nothing = absurd (omega (arith, failed))
fault_looks WriteZero is failed nothing = absurd (omega (arith, nothing))
fault_looks error is failed nothing = tt

-- what a look at a stream means for its file
pub looked_stream : {R : Type 0} (S : SourceGhosts R) {r : Redactor} (name : List ℕ) (held : Option (List ℕ)) {source source' : R} (occurs : Result Bool StreamError) (result : Result Look Failure)
    → ((given : List ℕ) (ended : Bool) → IfOk occurs (λ found. CountsInGiven r found given ended) → LooksSo (inl r) name result given ended []) → LooksAt S r occurs source source'
    → SomeStream S (BegunAs (λ given ended part. LooksSo (inl r) name result given ended part) held held) source source'
looked_stream S name held occurs result so looks = record { given = looks.given; ended = looks.ended; gives = looks.gives; is = ([], so looks.given looks.ended looks.seen, Appends-nil held) }

-- what there is to tell of some lines, from what was found before them
abbrev all_findings : Findings → List (List Occurrence) → List ℕ
all_findings findings runs = lines_findings (labels_of findings.legend) findings.name.now findings.line runs

module _ {A W : Type 0} (K : SinkGhosts W) (L : VisitorGhosts (Teller W)) (cover : LineCover A)
    (tells : (visitor visitor' : Teller W) (line : Line) (runs : List Occurrence) → L.visits visitor visitor' line runs → TellsLine K visitor.output visitor'.output visitor.findings visitor'.findings runs)
    (stops : (visitor visitor' : Teller W) (line : Line) (runs : List Occurrence) (error : StreamError) → L.stops visitor visitor' line runs error → StopsTelling K visitor.output visitor'.output visitor.findings runs) where
  -- a part of it was told, which leaves this rest, and whether something was found by then
  record HasTold (findings : Findings) (output output' : MutBor W) (runs : List (List Occurrence)) (rest : List ℕ) (found : Bool) : Type 0 where
    same : output'.ghost_name ≡ output.ghost_name
    part : List ℕ
    are : all_findings findings runs ≡ part ++ rest
    told : Appends (K.taken output.now) (K.taken output'.now) part
    found_is : found ≡ (findings.found || is_some_line runs)

  -- all was told of some lines, and then so much of others
  told_then : (visitor visitor' : Teller W) (lines : List Line) (runs more : List (List Occurrence)) {output : MutBor W} {rest : List ℕ} {found : Bool} → VisitsEach L (most_of cover) visitor visitor' lines runs
      → HasTold visitor'.findings visitor'.output output more rest found → HasTold visitor.findings visitor.output output (runs ++ more) rest found
  told_then visitor visitor' [] [] more {output} {rest} {found} is later = subst (λ (v : Teller W). HasTold v.findings v.output output more rest found) is later
  told_then visitor visitor' (line ∷ lines) (own ∷ runs) more {output} {rest} {found} (next, visits, others) later =
      let one = tells visitor next (taken_line (most_of cover) line) own visits in
      let behind = told_then next visitor' lines runs more others later in
      let mine = findings_of visitor.findings own in
      record {
        same = behind.same ∙ one.same;
        part = mine ++ behind.part;
        are = ap (λ (l : List ℕ). mine ++ l) (ap (λ (f : Findings). all_findings f (runs ++ more)) (sym one.behind) ∙ behind.are) ∙ sym (append_assoc mine behind.part rest);
        told = Appends-trans (K.taken visitor.output.now) (K.taken next.output.now) (K.taken output.now) mine behind.part one.told behind.told;
        found_is = behind.found_is ∙ ap (λ (f : Findings). f.found || is_some_line (runs ++ more)) one.behind ∙ or_assoc visitor.findings.found (is_some_run own) (is_some_line (runs ++ more));
      }
  told_then visitor visitor' _ _ more is later = absurd is

  told_all : (visitor visitor' : Teller W) (lines : List Line) (runs : List (List Occurrence)) → VisitsEach L (most_of cover) visitor visitor' lines runs
      → HasTold visitor.findings visitor.output visitor'.output runs [] visitor'.findings.found
  told_all visitor visitor' lines runs visits =
      subst (λ (l : List (List Occurrence)). HasTold visitor.findings visitor.output visitor'.output l [] visitor'.findings.found) (append-nil runs)
      (told_then visitor visitor' lines runs [] visits (record { same = refl; part = []; are = refl; told = Appends-nil (K.taken visitor'.output.now); found_is = sym (or-false visitor'.findings.found) }))

  -- of the last line it may be a beginning
  told_some : (visitor visitor' : Teller W) (lines : List Line) (runs : List (List Occurrence)) (error : LineError) → StopsWithin L (most_of cover) visitor visitor' lines runs error
      → (rest : List ℕ) × (found : Bool) × HasTold visitor.findings visitor.output visitor'.output runs rest found
  told_some visitor visitor' lines runs error (inl all) = ([], visitor'.findings.found, told_all visitor visitor' lines runs all.0)
  told_some visitor visitor' lines runs error (inr last) =
      let stop = stops last.between visitor' (taken_line (most_of cover) last.line) last.own last.cause last.stops in
      let mine = findings_of last.between.findings last.own in
      let count = stop.begun.0 in
      let found = last.between.findings.found || is_some_line (last.own ∷ []) in (
        drop count mine,
        found,
        subst (λ (l : List (List Occurrence)). HasTold visitor.findings visitor.output visitor'.output l (drop count mine) found) (sym last.runs_are)
            (told_then visitor last.between last.first last.more (last.own ∷ []) last.visits
            (record { same = stop.same; part = take count mine; are = append-nil mine ∙ sym (take-append-drop count mine); told = stop.begun.2; found_is = refl })),
      )

  module _ {R : Type 0} (G : Automata A) (S : SourceGhosts R) (visitor visitor' : Teller W) {s : Sought} (by : IsByLines G cover visitor.findings.legend s) (source source' : R) (line : visitor.findings.line ≡ 1) (unfound : visitor.findings.found ≡ false) where
    -- from the first line on
    from_first : (runs : List (List Occurrence)) → all_findings visitor.findings runs ≡ lines_findings by.lines.labels visitor.findings.name.now 1 runs
    from_first runs = rw (by.labels, line) refl

    are_by : (lines : List Line) (runs : List (List Occurrence)) → AreLineRuns (covering_by (words_of cover) (rules_of cover) (most_of cover) by.lines.covering.patterns) [] lines runs → AreLineRuns by.lines.covering [] lines runs
    are_by lines runs are = subst (λ (c : Covering). AreLineRuns c [] lines runs) (sym by.covers) are

    -- what comes of a text, by what the visits of its lines leave
    pub looked_lines : (done : Result (Unit {0}) LineError) (result : Result Look Failure)
        → ((given part : List ℕ) (ended : Bool) → OnOk done (TellsText by.lines visitor.findings.name.now visitor'.findings.found given ended part) → OnErr done (BeginsFindings by.lines visitor.findings.name.now given ended part)
        → LooksSo (inr by.lines) visitor.findings.name.now result given ended part) → LeavesVisited S L (AreSearchedFor G (searched_automaton cover)) (words_of cover) (rules_of cover) (most_of cover) source source' visitor visitor' done
        → (visitor'.output.ghost_name ≡ visitor.output.ghost_name)
        × SomeStream S (BegunAs (λ given ended part. LooksSo (inr by.lines) visitor.findings.name.now result given ended part) (K.taken visitor.output.now) (K.taken visitor'.output.now)) source source'
    looked_lines (Ok tt) result so leaves =
        let whole = leaves.visited in
        let all = told_all visitor visitor' (stream_lines whole.given) whole.runs whole.visits in
        let is : TellsText by.lines visitor.findings.name.now visitor'.findings.found whole.given true all.part = record {
          whole = refl;
          runs = whole.runs;
          are = are_by (stream_lines whole.given) whole.runs (whole.runs_are by.lines.covering.patterns by.searched);
          found_is = all.found_is ∙ ap (λ (b : Bool). b || is_some_line whole.runs) unfound;
          told = sym (append-nil all.part) ∙ sym all.are ∙ from_first whole.runs;
        } in
        (all.same, record { given = whole.given; ended = true; gives = whole.gives; is = (all.part, so whole.given all.part true is tt, all.told) })
    looked_lines (Err error) result so leaves =
        let begun = leaves.begun in
        let (rest, found, some) = told_some visitor visitor' begun.lines begun.runs error begun.stops in
        let is : BeginsFindings by.lines visitor.findings.name.now begun.given begun.ended some.part = record {
          lines = begun.lines;
          runs = begun.runs;
          are = are_by begun.lines begun.runs (begun.runs_are by.lines.covering.patterns by.searched);
          first = begun.first;
          begins = subst (λ (l : List ℕ). StartsWith l some.part) (sym some.are ∙ from_first begun.runs) (begins_with some.part rest);
        } in
        (some.same, record { given = begun.given; ended = begun.ended; gives = begun.gives; is = (some.part, so begun.given some.part begun.ended tt is, some.told) })
