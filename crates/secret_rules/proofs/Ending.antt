-- A line that comes to its end: what was written of it, and which errors are told.
use Rattle.std.proofs.Common.{◌≡◌, ℕ, ◌+◌, ◌<◌, ◌≤◌, Bool, false, List, [], ◌∷◌, ◌++◌, drop, length, take, refl, sym, ◌∙◌, ap, subst, arith}
use Rattle.std.specs.Prelude.{◌-◌, Ok, Err}
use Rattle.std.specs.Io.{StartsWith}
use Rattle.std.specs.Io.KnownBytes.{Appends}
use Rattle.std.proofs.KnownBytes.{Appends-nil}
use Rattle.std.proofs.lemmas.List.{append-nil, drop_all, length-take-le, take_all}
use Rattle.aho_core.specs.Cover.{AreRunsOf}
use Rattle.aho_core.specs.Occurrence.{Occurrence, occurrence}
use Rattle.aho_core.specs.Patterns.{Patterns}
use Rattle.aho_core.specs.Replacement.{replaced_by}
use Rattle.aho_core.specs.declared.error.stream.StreamError.{StreamError}
use Rattle.aho_devices.specs.Counts.{AppendsBeginning}
use Rattle.aho_devices.specs.declared.device.Sink.{Ghosts as SinkGhosts}
use Rattle.aho_cover.specs.Counting.{CountsThese}
use Rattle.aho_cover.specs.Pieces.{PieceRule, piece_in}
use Rattle.aho_cover.specs.Writes.{TellsWrites}
use Rattle.aho_laws.proofs.CoverRuns.{runs-unique}
use Rattle.aho_automaton.specs.declared.automaton.Automaton.{Ghosts as Automata}
use Rattle.aho_cover.specs.declared.pieces.Pieces.{Ghosts as PieceGhosts}
use Rattle.secret_rules.specs.Covering.{CoveredIn, covering_by, seen_line}
use Rattle.secret_rules.specs.LineCovers.{AreSearchedFor}
use Rattle.secret_rules.specs.Lines.{Line, line_with}
use Rattle.secret_rules.specs.Marking.{HasMarked, IsLineFailure}
use Rattle.secret_rules.specs.OpenLines.{IsSetting, StandsBehind, StopsInLine, TellsLine, WritesLine}
use Rattle.secret_rules.specs.Writing.{LieFrom, line_cover}
use Rattle.secret_rules.specs.declared.error.LineError.TheVariants.{Mark, Stream}
use Rattle.secret_rules.specs.declared.error.MarkError.{MarkError}
use Rattle.secret_rules.specs.declared.marker.Marker.{Marker}
use Rattle.secret_rules.specs.declared.open_line.OpenLine.{OpenLine}
use Rattle.secret_rules.specs.declared.open_line.Setting.{Setting}
use Rattle.secret_rules.specs.declared.rule.Rule.{Rule}
use Rattle.std.proofs.lemmas.Bool.{false≢true}
use Rattle.secret_rules.proofs.Covered.{seen-long, seen-short, whole-runs}

-- a list starts with the first of its items
starts-with_first : (xs : List ℕ) (n : ℕ) → n ≤ length xs → StartsWith xs (take n xs)
starts-with_first xs n within = ap (λ (k : ℕ). take k xs) (length-take-le n xs within)

module _ {W : Type 0} (K : SinkGhosts W) (Searched : Patterns → Type 0) (words : Bool) (rules : List Rule) (most : ℕ) (rule : PieceRule) where
  -- nothing of the line was written
  pub stops-none : (sink : W) (counts : List ℕ) (before : List (List ℕ)) (line : Line) → StopsInLine K Searched words rules most rule sink sink counts counts before line
  stops-none sink counts before line = record { part = []; writes = Appends-nil (K.taken sink); counted = refl; begins = λ p runs searched are. refl }

  -- a beginning of it was
  pub stops-part : (sink sink' : W) (counts : List ℕ) (before : List (List ℕ)) (line : Line) (own : List Occurrence)
      → ((p : Patterns) → Searched p → AreRunsOf (CoveredIn (covering_by words rules most p) before line.bytes) own)
      → AppendsBeginning (K.taken sink) (K.taken sink') (line_cover rule line own) → StopsInLine K Searched words rules most rule sink sink' counts counts before line
  stops-part sink sink' counts before line own are (n, within, appends) = record {
    part = take n (line_cover rule line own);
    writes = appends;
    counted = refl;
    begins = λ p runs searched is.
        let one : runs ≡ own = runs-unique (CoveredIn (covering_by words rules most p) before line.bytes) runs own is (are p searched) in
        subst (λ (rs : List Occurrence). StartsWith (line_cover rule line rs) (take n (line_cover rule line own))) (sym one) (starts-with_first (line_cover rule line own) n within);
  }

  -- a line whose bytes were kept was written, or a beginning of it
  pub line-written : (sink sink' : W) (counts counts' : List ℕ) (before : List (List ℕ)) (items read end : List ℕ) (own : List Occurrence) → items ≡ read
      → ((p : Patterns) → Searched p → AreRunsOf (CoveredIn (covering_by words rules most p) before items) own)
      → Appends (K.taken sink) (K.taken sink') (replaced_by items own (piece_in rule items) ++ end) → CountsThese own counts counts'
      → WritesLine K Searched words rules most rule sink sink' counts counts' before (line_with read end)
  line-written sink sink' counts counts' before items read end own same are writes counted =
      subst (λ (bytes : List ℕ). WritesLine K Searched words rules most rule sink sink' counts counts' before (line_with bytes end)) same
      (record { runs = own; runs_are = are; writes = writes; counted = counted })

  pub line-stopped : (sink sink' : W) (counts : List ℕ) (before : List (List ℕ)) (items read end : List ℕ) (own : List Occurrence) → items ≡ read
      → ((p : Patterns) → Searched p → AreRunsOf (CoveredIn (covering_by words rules most p) before items) own)
      → AppendsBeginning (K.taken sink) (K.taken sink') (replaced_by items own (piece_in rule items) ++ end)
      → StopsInLine K Searched words rules most rule sink sink' counts counts before (line_with read end)
  line-stopped sink sink' counts before items read end own same are part =
      subst (λ (bytes : List ℕ). StopsInLine K Searched words rules most rule sink sink' counts counts before (line_with bytes end)) same
      (stops-part sink sink' counts before (line_with items end) own are part)

  -- a line that is too long is one run
  long-cover : (read end : List ℕ) (number : ℕ) → replaced_by read (occurrence 0 (length read) number ∷ []) (piece_in rule read) ++ end ≡ rule number read ++ end
  long-cover read end number =
      let all : take (length read) read ≡ read = take_all (length read) read (omega arith) in
      let none : drop (length read) read ≡ [] = drop_all (length read) read (omega arith) in
      ap (λ (xs : List ℕ). xs ++ end)
      (ap (λ (xs : List ℕ). rule number (take (length read - 0) read) ++ xs) none ∙ append-nil (rule number (take (length read - 0) read))
      ∙ ap (λ (n : ℕ). rule number (take n read)) (omega arith) ∙ ap (rule number) all)

  pub long-written : (sink sink' : W) (counts counts' : List ℕ) (before : List (List ℕ)) (read end : List ℕ) (number : ℕ) → most < length read
      → ((p : Patterns) → Searched p → number ≡ length p.words + length rules)
      → Appends (K.taken sink) (K.taken sink') (rule number read ++ end) → ((run : Occurrence) → run.pattern ≡ number → CountsThese (run ∷ []) counts counts')
      → WritesLine K Searched words rules most rule sink sink' counts counts' before (line_with read end)
  long-written sink sink' counts counts' before read end number long numbered writes counted = record {
    runs = occurrence 0 (length read) number ∷ [];
    runs_are = λ p searched. subst (λ (n : ℕ). AreRunsOf (CoveredIn (covering_by words rules most p) before read) (occurrence 0 (length read) n ∷ [])) (sym (numbered p searched))
        (whole-runs (covering_by words rules most p) before read long);
    writes = subst (Appends (K.taken sink) (K.taken sink')) (sym (long-cover read end number)) writes;
    counted = counted (occurrence 0 (length read) number) refl;
  }

  pub long-stopped : (sink sink' : W) (counts : List ℕ) (before : List (List ℕ)) (read end : List ℕ) (number : ℕ) → most < length read
      → ((p : Patterns) → Searched p → number ≡ length p.words + length rules)
      → AppendsBeginning (K.taken sink) (K.taken sink') (rule number read ++ end) → StopsInLine K Searched words rules most rule sink sink' counts counts before (line_with read end)
  long-stopped sink sink' counts before read end number long numbered part =
      stops-part sink sink' counts before (line_with read end) (occurrence 0 (length read) number ∷ [])
      (λ p searched. subst (λ (n : ℕ). AreRunsOf (CoveredIn (covering_by words rules most p) before read) (occurrence 0 (length read) n ∷ [])) (sym (numbered p searched))
      (whole-runs (covering_by words rules most p) before read long))
      (subst (AppendsBeginning (K.taken sink) (K.taken sink')) (sym (long-cover read end number)) part)

-- the runs of a line are told of the same bytes
pub runs-told : (Searched : Patterns → Type 0) (words : Bool) (rules : List Rule) (most : ℕ) (before : List (List ℕ)) (items items' : List ℕ) (own own' : List Occurrence) → items' ≡ items → own' ≡ own
    → ((p : Patterns) → Searched p → AreRunsOf (CoveredIn (covering_by words rules most p) before items) own)
    → (p : Patterns) → Searched p → AreRunsOf (CoveredIn (covering_by words rules most p) before items') own'
runs-told Searched words rules most before items items' own own' same_items same_runs are p searched =
    subst (λ (xs : List ℕ). AreRunsOf (CoveredIn (covering_by words rules most p) before xs) own') (sym same_items)
    (subst (AreRunsOf (CoveredIn (covering_by words rules most p) before items)) (sym same_runs) (are p searched))

pub lies-told : (items items' : List ℕ) (own own' : List Occurrence) → items' ≡ items → own' ≡ own → LieFrom items 0 own → LieFrom items' 0 own'
lies-told items items' own own' same_items same_runs lie =
    subst (λ (xs : List ℕ). LieFrom xs 0 own') (sym same_items) (subst (LieFrom items 0) (sym same_runs) lie)

-- the next line begins
pub stands-next : {A P : Type 0} (Q : PieceGhosts P) (line : OpenLine A) (pieces : P) (before : List (List ℕ)) → HasMarked line.marker before → line.line.items ≡ [] → line.long ≡ false → StandsBehind Q line pieces before []
stands-next Q line pieces before marked empty short = record {
  marked = marked;
  has = record { kept = λ is. (empty, omega arith); fed = λ is. absurd (false≢true (sym short ∙ is)) };
}

-- a line that was marked is one of those before, as rules see it
pub marked-short : (marker : Marker) (before : List (List ℕ)) (most : ℕ) (items read : List ℕ) → items ≡ read → length read ≤ most → HasMarked marker (before ++ items ∷ []) → HasMarked marker (before ++ seen_line most read ∷ [])
marked-short marker before most items read same short marked =
    subst (λ (xs : List ℕ). HasMarked marker (before ++ xs ∷ [])) (same ∙ sym (seen-short most read short)) marked

pub marked-long : (marker : Marker) (before : List (List ℕ)) (most : ℕ) (read : List ℕ) → most < length read → HasMarked marker (before ++ [] ∷ []) → HasMarked marker (before ++ seen_line most read ∷ [])
marked-long marker before most read long marked =
    subst (λ (xs : List ℕ). HasMarked marker (before ++ xs ∷ [])) (sym (seen-long most read long)) marked

-- the number of a line that is covered whole
pub whole-numbered : {A : Type 0} (G : Automata A) (setting : Setting A) (rules : List Rule) → IsSetting G setting rules → (p : Patterns) → AreSearchedFor G setting.automaton p → setting.whole ≡ length p.words + length rules
whole-numbered G setting rules is p searched = is.whole ∙ ap (λ (n : ℕ). n + length rules) (sym (is.patterns p searched))

module _ {W : Type 0} (K : SinkGhosts W) (rules : List Rule) where
  -- which errors are told
  pub tells-mark : (sink : W) (error : MarkError) → IsLineFailure rules error → TellsLine K rules sink sink (Err (Mark error))
  tells-mark sink error failure = record { write_failed = refl; took_nothing = refl; only = failure }

  pub tells-stream : (sink sink' : W) (error : StreamError) → TellsWrites {A = Unit {0}} K sink sink' (Err error) → TellsLine K rules sink sink' (Err (Stream error))
  tells-stream sink sink' error tells = record { write_failed = tells.write_failed; took_nothing = tells.took_nothing; only = tells.only }

  pub tells-ok : (sink sink' : W) (done : Unit {0}) → TellsWrites {A = Unit {0}} K sink sink' (Ok done) → TellsLine K rules sink sink' (Ok done)
  tells-ok sink sink' done tells = record { write_failed = tells.write_failed; took_nothing = tells.took_nothing; only = tt }
