-- Lines that come to their ends and are visited, some after others.
use Rattle.std.proofs.Common.{◌≡◌, inl, inr, ℕ, List, [], ◌∷◌, ◌++◌, refl, sym, ◌∙◌, ap, subst, arith, append_assoc}
use Rattle.std.proofs.lemmas.List.{append-nil, map-append}
use Rattle.aho_core.specs.Occurrence.{Occurrence}
use Rattle.aho_automaton.specs.declared.automaton.Automaton.{Ghosts as Automata}
use Rattle.secret_rules.specs.Covering.{AreLineRuns, covering_by, seen_line}
use Rattle.secret_rules.specs.Lines.{Line, ended_line, lines_from}
use Rattle.secret_rules.specs.SeenLines.{AreLineRunsBy, ComesTo, MissesLine, MissesLines, HoldsBehind, TakesLine, TakesLines}
use Rattle.secret_rules.specs.Visits.{IsUnvisited, StopsWithin, VisitsEach}
use Rattle.secret_rules.specs.declared.error.LineError.{LineError}
use Rattle.secret_rules.specs.declared.open_line.OpenLine.{OpenLine}
use Rattle.secret_rules.specs.declared.open_line.Setting.{Setting}
use Rattle.secret_rules.specs.declared.rule.Rule.{Rule}
use Rattle.secret_rules.specs.declared.visitor.LineVisitor.{Ghosts as VisitorGhosts}
use Rattle.secret_rules.proofs.LineRuns.{NoEnds, lines-part, runs-append, seen_lines}

module _ {V : Type 0} (L : VisitorGhosts V) (most : ℕ) where
  -- a visitor took some lines, and others behind them
  pub visits-then : (a b c : V) (lines later : List Line) (runs more : List (List Occurrence)) → VisitsEach L most a b lines runs → VisitsEach L most b c later more
      → VisitsEach L most a c (lines ++ later) (runs ++ more)
  visits-then a b c [] later [] more one two = subst (λ (v : V). VisitsEach L most v c later more) one two
  visits-then a b c [] later (own ∷ runs) more one two = absurd one
  visits-then a b c (line ∷ lines) later [] more one two = absurd one
  visits-then a b c (line ∷ lines) later (own ∷ runs) more one two = (one.0, one.1, visits-then one.0 b c lines later runs more one.2 two)

  -- and stopped within these
  pub stops-then : (a b c : V) (lines later : List Line) (runs more : List (List Occurrence)) (error : LineError) → VisitsEach L most a b lines runs → StopsWithin L most b c later more error
      → StopsWithin L most a c (lines ++ later) (runs ++ more) error
  stops-then a b c lines later runs more error one two =
      elim two [
        | inl all ↦ inl (visits-then a b c lines later runs more one all.0, all.1)
        | inr last ↦ inr (record {
          first = lines ++ last.first;
          line = last.line;
          lines_are = ap (λ (ls : List Line). lines ++ ls) last.lines_are ∙ sym (append_assoc lines last.first (last.line ∷ []));
          more = runs ++ last.more;
          own = last.own;
          runs_are = ap (λ (rs : List (List Occurrence)). runs ++ rs) last.runs_are ∙ sym (append_assoc runs last.more (last.own ∷ []));
          between = last.between;
          visits = visits-then a b last.between lines last.first runs last.more one last.visits;
          cause = last.cause;
          is = last.is;
          stops = last.stops;
        })
      ]

-- the runs of some lines and of more
pub runs-behind : {A : Type 0} (G : Automata A) (setting : Setting A) (rules : List Rule) (before before' : List (List ℕ)) (lines later : List Line) (runs more : List (List Occurrence)) → before' ≡ before ++ seen_lines setting.most lines → AreLineRunsBy G setting rules before lines runs
    → AreLineRunsBy G setting rules before' later more → AreLineRunsBy G setting rules before (lines ++ later) (runs ++ more)
runs-behind G setting rules before before' lines later runs more seen one two p searched =
    runs-append (covering_by setting.words rules setting.most p) before lines later runs more (one p searched)
    (subst (λ (b : List (List ℕ)). AreLineRuns (covering_by setting.words rules setting.most p) b later more) seen (two p searched))

module _ {A V : Type 0} (G : Automata A) (setting : Setting A) (rules : List Rule) (L : VisitorGhosts V) where
  -- a part without a line end, and nothing was visited
  pub takes-part : (visitor : V) (before : List (List ℕ)) (read part : List ℕ) → NoEnds part → TakesLines G setting rules L visitor visitor before read part before (read ++ part)
  takes-part visitor before read part none = record {
    lines = [];
    runs = [];
    splits = λ more. lines-part read part more none;
    seen = sym (append-nil before);
    runs_are = λ p searched. tt;
    visits = refl;
  }

  -- a part and the end of its line, which was visited
  pub takes-end : (visitor visitor' : V) (before : List (List ℕ)) (read part : List ℕ) → NoEnds part → TakesLine G setting rules L visitor visitor' before (ended_line (read ++ part))
      → TakesLines G setting rules L visitor visitor' before read (part ++ 10 ∷ []) (before ++ seen_line setting.most (read ++ part) ∷ []) []
  takes-end visitor visitor' before read part none took = record {
    lines = ended_line (read ++ part) ∷ [];
    runs = took.own ∷ [];
    splits = λ more. ap (lines_from read) (append_assoc part (10 ∷ []) more) ∙ lines-part read part (10 ∷ more) none;
    seen = refl;
    runs_are = took.runs_are;
    visits = took.visits;
  }

  -- some bytes, and more behind them
  pub takes-then : (a b c : V) (before before' before'' : List (List ℕ)) (read read' read'' bytes more : List ℕ) → TakesLines G setting rules L a b before read bytes before' read'
      → TakesLines G setting rules L b c before' read' more before'' read'' → TakesLines G setting rules L a c before read (bytes ++ more) before'' read''
  takes-then a b c before before' before'' read read' read'' bytes more one two = record {
    lines = one.lines ++ two.lines;
    runs = one.runs ++ two.runs;
    splits = λ rest.
        ap (lines_from read) (append_assoc bytes more rest)
        ∙ one.splits (more ++ rest)
        ∙ ap (λ (ls : List Line). one.lines ++ ls) (two.splits rest)
        ∙ sym (append_assoc one.lines two.lines (lines_from read'' rest));
    seen =
        two.seen
        ∙ ap (λ (b : List (List ℕ)). b ++ seen_lines setting.most two.lines) one.seen
        ∙ append_assoc before (seen_lines setting.most one.lines) (seen_lines setting.most two.lines)
        ∙ ap (λ (ls : List (List ℕ)). before ++ ls) (sym (map-append (λ (line : Line). seen_line setting.most line.bytes) one.lines two.lines));
    runs_are = runs-behind G setting rules before before' one.lines two.lines one.runs two.runs one.seen one.runs_are two.runs_are;
    visits = visits-then L setting.most a b c one.lines two.lines one.runs two.runs one.visits two.visits;
  }

  pub misses-then : (a b c : V) (before before' : List (List ℕ)) (read read' bytes more : List ℕ) (error : LineError) → TakesLines G setting rules L a b before read bytes before' read'
      → MissesLines G setting rules L b c before' read' more error → MissesLines G setting rules L a c before read (bytes ++ more) error
  misses-then a b c before before' read read' bytes more error one two = record {
    lines = one.lines ++ two.lines;
    runs = one.runs ++ two.runs;
    runs_are = runs-behind G setting rules before before' one.lines two.lines one.runs two.runs one.seen one.runs_are two.runs_are;
    stops = stops-then L setting.most a b c one.lines two.lines one.runs two.runs error one.visits two.stops;
    first = λ rest.
        let later = two.first rest in (
          later.0,
          ap (lines_from read) (append_assoc bytes more rest)
              ∙ one.splits (more ++ rest)
              ∙ ap (λ (ls : List Line). one.lines ++ ls) later.1
              ∙ sym (append_assoc one.lines two.lines later.0),
        );
  }

  -- no more was visited
  pub misses-none : (visitor : V) (before : List (List ℕ)) (read bytes : List ℕ) (error : LineError) → IsUnvisited error → MissesLines G setting rules L visitor visitor before read bytes error
  misses-none visitor before read bytes error unvisited = record {
    lines = [];
    runs = [];
    runs_are = λ p searched. tt;
    stops = inl (refl, unvisited);
    first = λ more. (lines_from read (bytes ++ more), refl);
  }

  -- an ended line was not, or the visitor failed at it
  pub misses-end : (visitor visitor' : V) (before : List (List ℕ)) (read part rest : List ℕ) (error : LineError) → NoEnds part → MissesLine G setting rules L visitor visitor' before (ended_line (read ++ part)) error
      → MissesLines G setting rules L visitor visitor' before read (part ++ 10 ∷ rest) error
  misses-end visitor visitor' before read part rest error none missed = record {
    lines = missed.lines;
    runs = missed.runs;
    runs_are = missed.runs_are;
    stops = missed.stops;
    first = λ more. (
      missed.first.0 ++ lines_from [] (rest ++ more),
      ap (lines_from read) (append_assoc part (10 ∷ rest) more)
          ∙ lines-part read part (10 ∷ (rest ++ more)) none
          ∙ ap (λ (ls : List Line). ls ++ lines_from [] (rest ++ more)) missed.first.1
          ∙ append_assoc missed.lines missed.first.0 (lines_from [] (rest ++ more)),
    );
  }

  -- a part of some bytes was taken in, and the others are left
  pub record HasGiven (line line' : OpenLine A) (count count' : ℕ) (visitor visitor' : V) (bytes rest : List ℕ) : Type 0 where
    pub taken : List ℕ
    pub parts : bytes ≡ taken ++ rest
    pub goes : (before : List (List ℕ)) (read : List ℕ) → HoldsBehind line count before read → ComesTo G setting rules L visitor visitor' line' count' before read taken

  -- none was yet
  pub given-none : (line : OpenLine A) (count : ℕ) (visitor : V) (bytes : List ℕ) → HasGiven line line count count visitor visitor bytes bytes
  given-none line count visitor bytes = record {
    taken = [];
    parts = refl;
    goes = λ before read stands. record {
      before' = before;
      read' = read;
      takes = subst (λ (r : List ℕ). TakesLines G setting rules L visitor visitor before read [] before r) (append-nil read) (takes-part visitor before read [] (λ k low high. absurd (omega (arith, high))));
      stands = stands;
    };
  }

  module _ (line line' : OpenLine A) (count count' : ℕ) (visitor visitor' : V) (bytes rest : List ℕ) (given : HasGiven line line' count count' visitor visitor' bytes rest) where
    -- a further line came to its end
    pub given-line : (line'' : OpenLine A) (count'' : ℕ) (visitor'' : V) (part later : List ℕ) → NoEnds part → rest ≡ part ++ 10 ∷ later
        → ((before : List (List ℕ)) (read : List ℕ) → HoldsBehind line' count' before read
        → TakesLine G setting rules L visitor' visitor'' before (ended_line (read ++ part)) × HoldsBehind line'' count'' (before ++ seen_line setting.most (read ++ part) ∷ []) [])
        → HasGiven line line'' count count'' visitor visitor'' bytes later
    given-line line'' count'' visitor'' part later none split took = record {
      taken = given.taken ++ (part ++ 10 ∷ []);
      parts = given.parts ∙ ap (λ (xs : List ℕ). given.taken ++ xs) (split ∙ sym (append_assoc part (10 ∷ []) later)) ∙ sym (append_assoc given.taken (part ++ 10 ∷ []) later);
      goes = λ before read stands.
          let so_far = given.goes before read stands in
          let more = took so_far.before' so_far.read' so_far.stands in
          record {
            before' = so_far.before' ++ seen_line setting.most (so_far.read' ++ part) ∷ [];
            read' = [];
            takes = takes-then visitor visitor' visitor'' before so_far.before' (so_far.before' ++ seen_line setting.most (so_far.read' ++ part) ∷ []) read so_far.read' [] given.taken (part ++ 10 ∷ [])
                so_far.takes (takes-end visitor' visitor'' so_far.before' so_far.read' part none more.0);
            stands = more.1;
          };
    }

    -- what is left holds no line end
    pub given-all : (line'' : OpenLine A) (count'' : ℕ) → NoEnds rest → ((before : List (List ℕ)) (read : List ℕ) → HoldsBehind line' count' before read → HoldsBehind line'' count'' before (read ++ rest))
        → (before : List (List ℕ)) (read : List ℕ) → HoldsBehind line count before read → ComesTo G setting rules L visitor visitor' line'' count'' before read bytes
    given-all line'' count'' none stands_on before read stands =
        let so_far = given.goes before read stands in
        record {
          before' = so_far.before';
          read' = so_far.read' ++ rest;
          takes = subst (λ (bs : List ℕ). TakesLines G setting rules L visitor visitor' before read bs so_far.before' (so_far.read' ++ rest)) (sym given.parts)
              (takes-then visitor visitor' visitor' before so_far.before' so_far.before' read so_far.read' (so_far.read' ++ rest) given.taken rest so_far.takes (takes-part visitor' so_far.before' so_far.read' rest none));
          stands = stands_on so_far.before' so_far.read' so_far.stands;
        }

    -- no more was visited
    pub given-stops : (error : LineError) → IsUnvisited error → (before : List (List ℕ)) (read : List ℕ) → HoldsBehind line count before read → MissesLines G setting rules L visitor visitor' before read bytes error
    given-stops error unvisited before read stands =
        let so_far = given.goes before read stands in
        subst (λ (bs : List ℕ). MissesLines G setting rules L visitor visitor' before read bs error) (sym given.parts)
        (misses-then visitor visitor' visitor' before so_far.before' read so_far.read' given.taken rest error so_far.takes (misses-none visitor' so_far.before' so_far.read' rest error unvisited))

    -- the next line was not, or the visitor failed at it
    pub given-breaks : (visitor'' : V) (part later : List ℕ) (error : LineError) → NoEnds part → rest ≡ part ++ 10 ∷ later
        → ((before : List (List ℕ)) (read : List ℕ) → HoldsBehind line' count' before read → MissesLine G setting rules L visitor' visitor'' before (ended_line (read ++ part)) error)
        → (before : List (List ℕ)) (read : List ℕ) → HoldsBehind line count before read → MissesLines G setting rules L visitor visitor'' before read bytes error
    given-breaks visitor'' part later error none split missed before read stands =
        let so_far = given.goes before read stands in
        subst (λ (bs : List ℕ). MissesLines G setting rules L visitor visitor'' before read bs error) (sym (given.parts ∙ ap (λ (xs : List ℕ). given.taken ++ xs) split))
        (misses-then visitor visitor' visitor'' before so_far.before' read so_far.read' given.taken (part ++ 10 ∷ later) error so_far.takes
        (misses-end visitor' visitor'' so_far.before' so_far.read' part later error none (missed so_far.before' so_far.read' so_far.stands)))

-- what is said of one setting is said of the same
pub moved : {A : Type 0} (s s' : Setting A) (rs rs' : List Rule) (P : Setting A → List Rule → Type 0) → s ≡ s' → rs ≡ rs' → P s rs → P s' rs'
moved s s' rs rs' P same_setting same_rules h = subst (λ (x : Setting _). P x rs') same_setting (subst (P s) same_rules h)
