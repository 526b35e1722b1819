-- What a visitor is to take of a line, and what its visit leaves.
use Rattle.std.proofs.Common.{◌≡◌, inl, inr, ℕ, ◌<◌, ◌≤◌, List, [], ◌∷◌, ◌++◌, length, refl, sym, ◌∙◌, ap, subst, arith}
use Rattle.std.specs.Prelude.{Result, Ok, Err, OnOk}
use Rattle.aho_core.specs.Cover.{AreRunsOf}
use Rattle.aho_core.specs.Occurrence.{Occurrence, occurrence}
use Rattle.aho_core.specs.declared.error.stream.StreamError.{StreamError}
use Rattle.aho_automaton.specs.declared.automaton.Automaton.{Ghosts as Automata}
use Rattle.secret_rules.specs.Covering.{CoveredIn, covering_by}
use Rattle.secret_rules.specs.Lines.{Line, line_with}
use Rattle.secret_rules.specs.Marking.{HasMarked}
use Rattle.secret_rules.specs.OpenLines.{AreRunsBy, IsSetting, line_rules}
use Rattle.secret_rules.specs.SeenLines.{MissesLine, SeesLine, SeesOpen, HoldsBehind, TakesLine}
use Rattle.secret_rules.specs.Visits.{IsUnvisited}
use Rattle.secret_rules.specs.declared.error.LineError.{LineError}
use Rattle.secret_rules.specs.declared.error.LineError.TheVariants.{Stream}
use Rattle.secret_rules.specs.declared.open_line.OpenLine.{OpenLine}
use Rattle.secret_rules.specs.declared.open_line.Setting.{Setting}
use Rattle.secret_rules.specs.declared.rule.Rule.{Rule}
use Rattle.secret_rules.specs.declared.visitor.LineVisitor.{Ghosts as VisitorGhosts}
use Rattle.secret_rules.proofs.Covered.{seen-long, seen-short, whole-runs}
use Rattle.secret_rules.proofs.Ending.{marked-long, marked-short, whole-numbered}

module _ {A : Type 0} (G : Automata A) (line line' : OpenLine A) (count : ℕ) (before : List (List ℕ)) (read : List ℕ) (stands : HoldsBehind line count before read) where
  -- of a line that is too long it is one run and no bytes
  pub sees-long : line.setting.most < count → IsSetting G line.setting (line_rules line) → line'.runs.items ≡ occurrence 0 count line.setting.whole ∷ [] → line'.line.items ≡ []
      → HasMarked line'.marker (before ++ [] ∷ []) → SeesLine G line line' before read
  sees-long long is runs items marked =
      let setting = line.setting in
      let over : setting.most < length read = omega (arith, long, stands.has.counted) in
      record {
        bytes = items ∙ sym (seen-long setting.most read over);
        runs = λ p searched. subst (AreRunsOf (CoveredIn (covering_by setting.words (line_rules line) setting.most p) before read))
            (sym (runs ∙ ap (λ (n : ℕ). occurrence 0 n setting.whole ∷ []) stands.has.counted ∙ ap (λ (n : ℕ). occurrence 0 (length read) n ∷ []) (whole-numbered G setting (line_rules line) is p searched)))
            (whole-runs (covering_by setting.words (line_rules line) setting.most p) before read over);
        marked = marked-long line'.marker before setting.most read over marked;
      }

  -- of any other the bytes and all runs
  pub sees-short : count ≤ line.setting.most → AreRunsBy G line.setting (line_rules line) before line.line.items line'.runs.items → line'.line.items ≡ line.line.items
      → HasMarked line'.marker (before ++ line.line.items ∷ []) → SeesLine G line line' before read
  sees-short within runs items marked =
      let setting = line.setting in
      let same : line.line.items ≡ read = stands.has.kept within in
      let short : length read ≤ setting.most = omega (arith, within, stands.has.counted) in
      record {
        bytes = items ∙ same ∙ sym (seen-short setting.most read short);
        runs = subst (λ (xs : List ℕ). AreRunsBy G setting (line_rules line) before xs line'.runs.items) same runs;
        marked = marked-short line'.marker before setting.most line.line.items read same short marked;
      }

  -- and a visitor took it
  pub takes-seen : {V : Type 0} (L : VisitorGhosts V) (visitor visitor' : V) (bytes end : List ℕ) (own : List Occurrence) → SeesLine G line line' before read → bytes ≡ line'.line.items → own ≡ line'.runs.items
      → L.visits visitor visitor' (line_with bytes end) own → TakesLine G line.setting (line_rules line) L visitor visitor' before (line_with read end)
  takes-seen L visitor visitor' bytes end own sees same_bytes same_runs visits = record {
    own = own;
    runs_are = λ p searched. (subst (AreRunsOf (CoveredIn (covering_by line.setting.words (line_rules line) line.setting.most p) before read)) (sym same_runs) (sees.runs p searched), tt);
    visits = (visitor', subst (λ (xs : List ℕ). L.visits visitor visitor' (line_with xs end) own) (same_bytes ∙ sees.bytes) visits, refl);
  }

  -- or failed at it
  pub fails-seen : {V : Type 0} (L : VisitorGhosts V) (visitor visitor' : V) (bytes end : List ℕ) (own : List Occurrence) (error : StreamError) → SeesLine G line line' before read → bytes ≡ line'.line.items → own ≡ line'.runs.items
      → L.stops visitor visitor' (line_with bytes end) own error → MissesLine G line.setting (line_rules line) L visitor visitor' before (line_with read end) (Stream error)
  fails-seen L visitor visitor' bytes end own error sees same_bytes same_runs stops = record {
    lines = line_with read end ∷ [];
    runs = own ∷ [];
    runs_are = λ p searched. (subst (AreRunsOf (CoveredIn (covering_by line.setting.words (line_rules line) line.setting.most p) before read)) (sym same_runs) (sees.runs p searched), tt);
    stops = inr (record {
      first = [];
      line = line_with read end;
      lines_are = refl;
      more = [];
      own = own;
      runs_are = refl;
      between = visitor;
      visits = refl;
      cause = error;
      is = refl;
      stops = subst (λ (xs : List ℕ). L.stops visitor visitor' (line_with xs end) own error) (same_bytes ∙ sees.bytes) stops;
    });
    first = ([], refl);
  }

module _ {A E : Type 0} (G : Automata A) (line line' : OpenLine A) (count : ℕ) where
  -- the same where a call ended well
  pub long-found : (r : Result (Unit {0}) E) → line.setting.most < count → IsSetting G line.setting (line_rules line) → OnOk r (line'.runs.items ≡ occurrence 0 count line.setting.whole ∷ []) → line'.line.items ≡ []
      → ((before : List (List ℕ)) → HasMarked line.marker before → OnOk r (HasMarked line'.marker (before ++ [] ∷ []))) → OnOk r (SeesOpen G line count line')
  long-found (Ok done) long is runs items marked = λ before read stands. sees-long G line line' count before read stands long is runs items (marked before stands.marked)
  long-found (Err e) long is runs items marked = tt

  pub short-found : (r : Result (Unit {0}) E) → count ≤ line.setting.most → OnOk r ((before : List (List ℕ)) → HasMarked line.marker before → AreRunsBy G line.setting (line_rules line) before line.line.items line'.runs.items)
      → line'.line.items ≡ line.line.items → ((before : List (List ℕ)) → HasMarked line.marker before → OnOk r (HasMarked line'.marker (before ++ line.line.items ∷ []))) → OnOk r (SeesOpen G line count line')
  short-found (Ok done) within runs items marked = λ before read stands. sees-short G line line' count before read stands within (runs before stands.marked) items (marked before stands.marked)
  short-found (Err e) within runs items marked = tt

-- a line was not visited
pub misses-unseen : {A V : Type 0} (G : Automata A) (setting : Setting A) (rules : List Rule) (L : VisitorGhosts V) (visitor : V) (before : List (List ℕ)) (line : Line) (error : LineError) → IsUnvisited error
    → MissesLine G setting rules L visitor visitor before line error
misses-unseen G setting rules L visitor before line error unvisited = record {
  lines = [];
  runs = [];
  runs_are = λ p searched. tt;
  stops = inl (refl, unvisited);
  first = (line ∷ [], refl);
}
