-- How far the visits of a stream's lines have come, from one read to the next.
use Rattle.std.proofs.Common.{◌≡◌, inr, ℕ, Bool, true, false, List, [], ◌∷◌, ◌++◌, refl, sym, ◌∙◌, ap, subst, arith, append_assoc}
use Rattle.std.specs.Prelude.{Result, Ok, Err, IfErr, OnOk}
use Rattle.std.specs.Io.KnownBytes.{Consumes}
use Rattle.std.proofs.lemmas.List.{append-nil}
use Rattle.aho_core.specs.declared.error.stream.StreamError.{StreamError}
use Rattle.aho_core.specs.declared.error.stream.StreamError.TheVariants.{Match, Read, Write, WriteZero, Memory, PositionLimit}
use Rattle.aho_automaton.specs.declared.automaton.Automaton.{Ghosts as Automata}
use Rattle.aho_devices.specs.Counts.{counted}
use Rattle.aho_devices.specs.Refusals.{IsFillRefusal, is_read_fault}
use Rattle.aho_devices.specs.declared.device.Source.{Ghosts as SourceGhosts}
use Rattle.aho_stream.specs.Replacing.{SourceGave}
use Rattle.secret_rules.specs.Covering.{AreLineRuns, covering_by}
use Rattle.secret_rules.specs.LineCovers.{AreSearchedFor, IsReadFailure, of_devices}
use Rattle.secret_rules.specs.Lines.{Line, last_line, stream_lines}
use Rattle.secret_rules.specs.SeenLines.{ComesTo, IsLineUnvisited, MissesLine, MissesLines, HoldsBehind, TakesLine, TakesLines}
use Rattle.secret_rules.specs.Visitors.{IsVisitRefusal}
use Rattle.secret_rules.specs.Visits.{AreFirstLines, BeginsVisiting, IsUnvisited, IsVisitFailure, LeavesVisited, VisitsEach, VisitsLines, VisitsWholeLines}
use Rattle.secret_rules.specs.declared.error.LineError.{LineError}
use Rattle.secret_rules.specs.declared.error.LineError.TheVariants.{Mark, Stream}
use Rattle.secret_rules.specs.declared.open_line.OpenLine.{OpenLine}
use Rattle.secret_rules.specs.declared.open_line.Setting.{Setting}
use Rattle.secret_rules.specs.declared.rule.Rule.{Rule}
use Rattle.secret_rules.specs.declared.visitor.LineVisitor.{Ghosts as VisitorGhosts}
use Rattle.secret_rules.proofs.Streaming.{gave-more, gave-nothing}
use Rattle.secret_rules.proofs.TakenLines.{misses-none, misses-then, runs-behind, takes-part, takes-then, visits-then, stops-then}

-- what a visit refuses is no failure of a read
visit-unread : (error : StreamError) → IsVisitRefusal error → IsFillRefusal error → ⊥
visit-unread (Match cause) refused filled = refused
visit-unread (Read fault) refused filled = refused
visit-unread (Write fault) refused filled = filled
visit-unread WriteZero refused filled = filled
visit-unread Memory refused filled = filled
visit-unread PositionLimit refused filled = refused

pub unvisited-unread : (rules : List Rule) (error : LineError) → IsLineUnvisited rules error → IsReadFailure error → ⊥
unvisited-unread rules (Stream error) refused read = visit-unread error refused read
unvisited-unread rules (Mark error) refused read = read

-- why the lines of a stream are not all visited
pub unvisited-fails : (rules : List Rule) (error : LineError) → IsLineUnvisited rules error → IsVisitFailure rules error
unvisited-fails rules (Stream error) refused = inr refused
unvisited-fails rules (Mark error) refused = refused

pub result-fails : (rules : List Rule) (result : Result (Unit {0}) LineError) → IfErr result (IsLineUnvisited rules) → IfErr result (IsVisitFailure rules)
result-fails rules (Ok done) refused = tt
result-fails rules (Err error) refused = unvisited-fails rules error refused

-- what follows where a call fails, of its error
pub if_error : {X E : Type 0} (r : Result X E) (P Q : E → Type 0) → ((error : E) → P error → Q error) → IfErr r P → IfErr r Q
if_error (Ok x) P Q f h = tt
if_error (Err e) P Q f h = f e h

-- the same rules refuse the same
pub same-refused : (rules rules' : List Rule) (result : Result (Unit {0}) LineError) → rules ≡ rules' → IfErr result (IsLineUnvisited rules) → IfErr result (IsLineUnvisited rules')
same-refused rules rules' result same refused = subst (λ (rs : List Rule). IfErr result (IsLineUnvisited rs)) same refused

-- no read failed where a visit did
visit-reads : (error : StreamError) → IsVisitRefusal error → is_read_fault {A = Unit {0}} (Err error) ≡ false
visit-reads (Match cause) refused = absurd refused
visit-reads (Read fault) refused = absurd refused
visit-reads (Write fault) refused = refl
visit-reads WriteZero refused = refl
visit-reads Memory refused = refl
visit-reads PositionLimit refused = absurd refused

unvisited-reads : (rules : List Rule) (result : Result (Unit {0}) LineError) → IfErr result (IsLineUnvisited rules) → is_read_fault (of_devices result) ≡ false
unvisited-reads rules (Ok done) refused = refl
unvisited-reads rules (Err (Stream error)) refused = visit-reads error refused
unvisited-reads rules (Err (Mark error)) refused = refl

pub failures-unread : {R : Type 0} (S : SourceGhosts R) (rules : List Rule) (first source : R) (result : Result (Unit {0}) LineError) → S.failures source ≡ S.failures first → IfErr result (IsLineUnvisited rules)
    → S.failures source ≡ counted (is_read_fault (of_devices result)) (S.failures first)
failures-unread S rules first source result same refused = same ∙ sym (ap (λ (b : Bool). counted b (S.failures first)) (unvisited-reads rules result refused))

-- and a read that failed is counted
same-fault : (error : StreamError) → is_read_fault {A = ℕ} (Err error) ≡ is_read_fault {A = Unit {0}} (Err error)
same-fault (Match cause) = refl
same-fault (Read fault) = refl
same-fault (Write fault) = refl
same-fault WriteZero = refl
same-fault Memory = refl
same-fault PositionLimit = refl

pub failures-read : {R : Type 0} (S : SourceGhosts R) (first source source' : R) (error : StreamError) → S.failures source ≡ S.failures first
    → S.failures source' ≡ counted (is_read_fault {A = ℕ} (Err error)) (S.failures source) → S.failures source' ≡ counted (is_read_fault {A = Unit {0}} (Err error)) (S.failures first)
failures-read S first source source' error same failed =
    failed ∙ ap (counted (is_read_fault {A = ℕ} (Err error))) same ∙ ap (λ (b : Bool). counted b (S.failures first)) (same-fault error)

module _ {A R V : Type 0} (G : Automata A) (setting : Setting A) (rules : List Rule) (S : SourceGhosts R) (L : VisitorGhosts V) (first : R) (begun : V) where
  abbrev Begins : R → V → LineError → Type 0
  Begins source visitor error = BeginsVisiting S L (AreSearchedFor G setting.automaton) setting.words rules setting.most first source begun visitor error

  abbrev pub Visits : R → V → Type 0
  Visits source visitor = VisitsLines S L (AreSearchedFor G setting.automaton) setting.words rules setting.most first source begun visitor

  abbrev VisitsWhole : R → V → Type 0
  VisitsWhole source visitor = VisitsWholeLines S L (AreSearchedFor G setting.automaton) setting.words rules setting.most first source begun visitor

  abbrev pub Leaves : R → V → Result (Unit {0}) LineError → Type 0
  Leaves source visitor result = LeavesVisited S L (AreSearchedFor G setting.automaton) setting.words rules setting.most first source begun visitor result

  -- what a failure of a read leaves
  pub leaves-unread : (source : R) (visitor : V) (error : LineError) → Begins source visitor error → VisitsWhole source visitor → Leaves source visitor (Err error)
  leaves-unread source visitor error begins whole = record { visited = tt; begun = begins; whole = λ failed. whole }

  -- and any other
  pub leaves-broken : (source : R) (visitor : V) (error : LineError) → Begins source visitor error → (IsReadFailure error → ⊥) → Leaves source visitor (Err error)
  leaves-broken source visitor error begins other = record { visited = tt; begun = begins; whole = λ failed. absurd (other failed) }

  pub leaves-last : (source : R) (visitor : V) (result : Result (Unit {0}) LineError) → OnOk result (Visits source visitor) → IfErr result (Begins source visitor) → IfErr result (IsLineUnvisited rules)
      → Leaves source visitor result
  leaves-last source visitor (Ok done) visits begins refused = record { visited = visits; begun = tt; whole = tt }
  leaves-last source visitor (Err error) visits begins refused = leaves-broken source visitor error begins (unvisited-unread rules error refused)

  -- so much was given and visited
  pub record GoingOn (line : OpenLine A) (count : ℕ) (source : R) (visitor : V) : Type 0 where
    pub given : List ℕ
    pub gives : SourceGave S first source given false
    pub before : List (List ℕ)
    pub read : List ℕ
    pub takes : TakesLines G setting rules L begun visitor [] [] given before read
    pub stands : HoldsBehind line count before read

  -- nothing was given yet
  pub going_on-first : (line : OpenLine A) → HoldsBehind line 0 [] [] → GoingOn line 0 first begun
  going_on-first line stands = record {
    given = [];
    gives = gave-nothing S first;
    before = [];
    read = [];
    takes = takes-part G setting rules L begun [] [] [] (λ k low high. absurd (omega (arith, high)));
    stands = stands;
  }

  module _ (line : OpenLine A) (count : ℕ) (source source' : R) (visitor visitor' : V) (going : GoingOn line count source visitor) where
    -- more was given, and its lines visited
    pub going_on-more : (line' : OpenLine A) (count' : ℕ) (bytes : List ℕ) → Consumes (S.remaining source) (S.remaining source') bytes → S.empty_reads source' ≡ counted false (S.empty_reads source)
        → ComesTo G setting rules L visitor visitor' line' count' going.before going.read bytes → GoingOn line' count' source' visitor'
    going_on-more line' count' bytes read ended comes = record {
      given = going.given ++ bytes;
      gives = gave-more S first source source' going.given bytes false going.gives read ended;
      before = comes.before';
      read = comes.read';
      takes = takes-then G setting rules L begun visitor visitor' [] going.before comes.before' [] going.read comes.read' going.given bytes going.takes comes.takes;
      stands = comes.stands;
    }

    -- or some of them
    pub going_on-stops : (bytes : List ℕ) (ended : Bool) (error : LineError) → Consumes (S.remaining source) (S.remaining source') bytes → S.empty_reads source' ≡ counted ended (S.empty_reads source)
        → MissesLines G setting rules L visitor visitor' going.before going.read bytes error → Begins source' visitor' error
    going_on-stops bytes ended error read counts misses =
        let all = misses-then G setting rules L begun visitor visitor' [] going.before [] going.read going.given bytes error going.takes misses in
        record {
          given = going.given ++ bytes;
          ended = ended;
          gives = gave-more S first source source' going.given bytes ended going.gives read counts;
          lines = all.lines;
          runs = all.runs;
          runs_are = all.runs_are;
          stops = all.stops;
          first = λ text may. subst (AreFirstLines all.lines) (sym (ap stream_lines may.1)) (all.first may.0);
        }

    -- the source gave nothing more
    given-nil : (ended : Bool) → Consumes (S.remaining source) (S.remaining source') [] → S.empty_reads source' ≡ counted ended (S.empty_reads source) → SourceGave S first source' going.given ended
    given-nil ended read counts = subst (λ (g : List ℕ). SourceGave S first source' g ended) (append-nil going.given) (gave-more S first source source' going.given [] ended going.gives read counts)

    lines-now : stream_lines going.given ≡ going.takes.lines ++ last_line going.read ∷ []
    lines-now = ap stream_lines (sym (append-nil going.given)) ∙ going.takes.splits []

    -- a read failed: all lines whose ends were given were visited
    pub going_on-whole : Consumes (S.remaining source) (S.remaining source') [] → S.empty_reads source' ≡ counted false (S.empty_reads source) → VisitsWhole source' visitor
    going_on-whole read counts = record {
      given = going.given;
      gives = given-nil false read counts;
      lines = going.takes.lines;
      last = last_line going.read;
      runs = going.takes.runs;
      lines_are = lines-now;
      runs_are = going.takes.runs_are;
      visits = going.takes.visits;
    }

    -- at the end the last line was
    pub going_on-visits : Consumes (S.remaining source) (S.remaining source') [] → S.empty_reads source' ≡ counted true (S.empty_reads source)
        → TakesLine G setting rules L visitor visitor' going.before (last_line going.read) → Visits source' visitor'
    going_on-visits read counts took =
        let all = going.takes.runs ++ took.own ∷ [] in
        record {
          given = going.given;
          gives = given-nil true read counts;
          runs = all;
          runs_are = λ p searched. subst (λ (ls : List Line). AreLineRuns (covering_by setting.words rules setting.most p) [] ls all) (sym lines-now)
              (runs-behind G setting rules [] going.before going.takes.lines (last_line going.read ∷ []) going.takes.runs (took.own ∷ []) going.takes.seen going.takes.runs_are took.runs_are p searched);
          visits = subst (λ (ls : List Line). VisitsEach L setting.most begun visitor' ls all) (sym lines-now)
              (visits-then L setting.most begun visitor visitor' going.takes.lines (last_line going.read ∷ []) going.takes.runs (took.own ∷ []) going.takes.visits took.visits);
        }

    -- or it was not, or the visitor failed at it
    pub going_on-ends : (error : LineError) → Consumes (S.remaining source) (S.remaining source') [] → S.empty_reads source' ≡ counted true (S.empty_reads source)
        → MissesLine G setting rules L visitor visitor' going.before (last_line going.read) error → Begins source' visitor' error
    going_on-ends error read counts missed = record {
      given = going.given;
      ended = true;
      gives = given-nil true read counts;
      lines = going.takes.lines ++ missed.lines;
      runs = going.takes.runs ++ missed.runs;
      runs_are = runs-behind G setting rules [] going.before going.takes.lines missed.lines going.takes.runs missed.runs going.takes.seen going.takes.runs_are missed.runs_are;
      stops = stops-then L setting.most begun visitor visitor' going.takes.lines missed.lines going.takes.runs missed.runs error going.takes.visits missed.stops;
      first = λ text may. (
        missed.first.0,
        ap stream_lines (may.1 ∙ ap (λ (xs : List ℕ). going.given ++ xs) may.2)
            ∙ going.takes.splits []
            ∙ ap (λ (ls : List Line). going.takes.lines ++ ls) missed.first.1
            ∙ sym (append_assoc going.takes.lines missed.lines missed.first.0),
      );
    }

  -- a read failed: no more was visited
  pub going_on-begins : (line : OpenLine A) (count : ℕ) (source source' : R) (visitor : V) (error : LineError) → GoingOn line count source visitor → Consumes (S.remaining source) (S.remaining source') []
      → S.empty_reads source' ≡ counted false (S.empty_reads source) → IsUnvisited error → Begins source' visitor error
  going_on-begins line count source source' visitor error going read counts unvisited =
      going_on-stops line count source source' visitor visitor going [] false error read counts (misses-none G setting rules L visitor going.before going.read [] error unvisited)
