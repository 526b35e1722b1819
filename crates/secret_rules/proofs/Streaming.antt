-- How far the cover of a stream has come, line by line, from one read to the next.
use Rattle.std.proofs.Common.{◌≡◌, ℕ, Bool, true, false, List, [], ◌∷◌, ◌++◌, length, refl, sym, ◌∙◌, ap, subst, arith}
use Rattle.std.specs.Prelude.{Result, Ok, Err, IfErr, OnErr, OnOk}
use Rattle.std.specs.Io.KnownBytes.{Appends, Consumes, Keeps}
use Rattle.std.proofs.KnownBytes.{Appends-kept, Appends-trans, Consumes-nil, Consumes-trans}
use Rattle.std.proofs.lemmas.Grind.{flat_map-append}
use Rattle.std.proofs.lemmas.List.{append-nil}
use Rattle.aho_core.specs.Cover.{AreRunsOf}
use Rattle.aho_core.specs.Occurrence.{Occurrence}
use Rattle.aho_core.specs.Patterns.{Patterns}
use Rattle.aho_core.specs.declared.error.stream.StreamError.{StreamError}
use Rattle.aho_core.specs.declared.error.stream.StreamError.TheVariants.{Match, Read, Write, WriteZero, Memory, PositionLimit}
use Rattle.aho_devices.specs.Counts.{counted}
use Rattle.aho_devices.specs.Errors.{CountsErrors}
use Rattle.aho_devices.specs.Refusals.{IsFillRefusal, IsWriteRefusal, is_read_fault, is_write_fault, is_write_of_nothing}
use Rattle.aho_devices.specs.declared.device.Sink.{Ghosts as SinkGhosts}
use Rattle.aho_devices.specs.declared.device.Source.{Ghosts as SourceGhosts}
use Rattle.aho_stream.specs.Replacing.{SourceGave}
use Rattle.aho_cover.specs.Counting.{CountsThese}
use Rattle.aho_cover.specs.Pieces.{PieceRule}
use Rattle.aho_cover.specs.declared.pieces.Pieces.{Ghosts as PieceGhosts}
use Rattle.aho_cover.proofs.Counted.{counts_then}
use Rattle.secret_rules.specs.Covering.{AreLineRuns, CoveredIn, covering_by, lines_cover}
use Rattle.secret_rules.specs.LineCovers.{BeginsLines, CoversLines, CoversWholeLines, BeginsNextLine, IsCoverFailure, IsReadFailure, LeavesLines, all_of, of_devices}
use Rattle.secret_rules.specs.Lines.{Line, last_line, stream_lines}
use Rattle.secret_rules.specs.OpenLines.{GoesOnBehind, IsLineRefusal, StandsBehind, StopsInLine, StopsInLines, TellsLine, WritesLine, WritesLines}
use Rattle.secret_rules.specs.Writing.{line_cover}
use Rattle.secret_rules.specs.declared.error.LineError.{LineError}
use Rattle.secret_rules.specs.declared.error.LineError.TheVariants.{Mark, Stream}
use Rattle.secret_rules.specs.declared.open_line.OpenLine.{OpenLine}
use Rattle.secret_rules.specs.declared.rule.Rule.{Rule}
use Rattle.secret_rules.proofs.Advancing.{StopsInLines-none, StopsInLines-then, WritesLines-part, WritesLines-then}
use Rattle.secret_rules.proofs.LineRuns.{lines_cover-append, runs-append, runs-split}

-- what a write refuses is no failure of a read, and what a fill refuses none of a write
written-unread : (error : StreamError) → IsWriteRefusal error → IsFillRefusal error → ⊥
written-unread (Match cause) written filled = written
written-unread (Read fault) written filled = written
written-unread (Write fault) written filled = filled
written-unread WriteZero written filled = filled
written-unread Memory written filled = written
written-unread PositionLimit written filled = written

pub line-unread : (rules : List Rule) (error : LineError) → IsLineRefusal rules error → IsReadFailure error → ⊥
line-unread rules (Stream error) refused read = written-unread error refused read
line-unread rules (Mark error) refused read = read

pub lines-unread : (rules : List Rule) (result : Result (Unit {0}) LineError) → IfErr result (IsLineRefusal rules) → IfErr result (λ error. IsReadFailure error → ⊥)
lines-unread rules (Ok done) refused = tt
lines-unread rules (Err error) refused = line-unread rules error refused

-- why a stream is not covered
pub line-fails : (rules : List Rule) (error : LineError) → IsLineRefusal rules error → IsCoverFailure rules error
line-fails rules (Mark error) refused = refused
line-fails rules (Stream (Match cause)) refused = refused
line-fails rules (Stream (Read fault)) refused = absurd refused
line-fails rules (Stream (Write fault)) refused = tt
line-fails rules (Stream WriteZero) refused = tt
line-fails rules (Stream Memory) refused = refused
line-fails rules (Stream PositionLimit) refused = absurd refused

pub lines-fail : (rules : List Rule) (result : Result (Unit {0}) LineError) → IfErr result (IsLineRefusal rules) → IfErr result (IsCoverFailure rules)
lines-fail rules (Ok done) refused = tt
lines-fail rules (Err error) refused = line-fails rules error refused

pub read-fails : (rules : List Rule) (error : StreamError) → IsFillRefusal error → IsCoverFailure rules (Stream error)
read-fails rules (Match cause) refused = refused
read-fails rules (Read fault) refused = tt
read-fails rules (Write fault) refused = absurd refused
read-fails rules WriteZero refused = absurd refused
read-fails rules Memory refused = refused
read-fails rules PositionLimit refused = tt

-- no read failed where a line was refused
line-reads : (rules : List Rule) (result : Result (Unit {0}) LineError) → IfErr result (IsLineRefusal rules) → is_read_fault (of_devices result) ≡ false
line-reads rules (Ok done) refused = refl
line-reads rules (Err (Mark error)) refused = refl
line-reads rules (Err (Stream (Match cause))) refused = refl
line-reads rules (Err (Stream (Read fault))) refused = absurd refused
line-reads rules (Err (Stream (Write fault))) refused = refl
line-reads rules (Err (Stream WriteZero)) refused = refl
line-reads rules (Err (Stream Memory)) refused = refl
line-reads rules (Err (Stream PositionLimit)) refused = refl

-- the errors of devices are counted
module _ {R W : Type 0} (S : SourceGhosts R) (K : SinkGhosts W) (rules : List Rule) (first source : R) (begun sink : W) (reads : S.failures source ≡ S.failures first) (failures : K.failures sink ≡ K.failures begun) (empty_writes : K.empty_writes sink ≡ K.empty_writes begun) where
  pub errors-line : (sink' : W) (result : Result (Unit {0}) LineError) → TellsLine K rules sink sink' result → CountsErrors S K first source begun sink' (of_devices result)
  errors-line sink' result tells = record {
    read_failed = reads ∙ sym (ap (λ (b : Bool). counted b (S.failures first)) (line-reads rules result tells.only));
    write_failed = tells.write_failed ∙ ap (counted (is_write_fault (of_devices result))) failures;
    took_nothing = tells.took_nothing ∙ ap (counted (is_write_of_nothing (of_devices result))) empty_writes;
  }

  pub errors-read : (source' : R) (error : StreamError) → S.failures source' ≡ counted (is_read_fault {A = ℕ} (Err error)) (S.failures source) → IsFillRefusal error
      → CountsErrors {A = Unit {0}} S K first source' begun sink (Err error)
  errors-read source' (Match cause) failed refused = absurd refused
  errors-read source' (Read fault) failed refused = record { read_failed = failed ∙ ap (counted true) reads; write_failed = failures; took_nothing = empty_writes }
  errors-read source' (Write fault) failed refused = absurd refused
  errors-read source' WriteZero failed refused = absurd refused
  errors-read source' Memory failed refused = absurd refused
  errors-read source' PositionLimit failed refused = record { read_failed = failed ∙ reads; write_failed = failures; took_nothing = empty_writes }

-- of a sink that did not flush
pub tells-flush : {W : Type 0} (K : SinkGhosts W) (rules : List Rule) (sink sink' : W) (error : StreamError) → K.failures sink' ≡ counted (is_write_fault {A = Unit {0}} (Err error)) (K.failures sink)
    → K.empty_writes sink' ≡ counted (is_write_of_nothing {A = Unit {0}} (Err error)) (K.empty_writes sink) → IsWriteRefusal error → TellsLine K rules sink sink' (Err (Stream error))
tells-flush K rules sink sink' error failed empty refused = record { write_failed = failed; took_nothing = empty; only = refused }

-- bytes of no length
pub no-bytes : (bytes : List ℕ) → length bytes ≡ 0 → bytes ≡ []
no-bytes [] none = refl
no-bytes (byte ∷ bytes) none = absurd (omega (arith, none))

-- a source gave nothing yet
pub gave-nothing : {R : Type 0} (S : SourceGhosts R) (source : R) → SourceGave S source source [] false
gave-nothing S source = record { bytes = Consumes-nil (S.remaining source); end = refl }

-- and it gave more
pub gave-more : {R : Type 0} (S : SourceGhosts R) (first source source' : R) (given bytes : List ℕ) (ended : Bool) → SourceGave S first source given false → Consumes (S.remaining source) (S.remaining source') bytes
    → S.empty_reads source' ≡ counted ended (S.empty_reads source) → SourceGave S first source' (given ++ bytes) ended
gave-more S first source source' given bytes ended gives read counts = record {
  bytes = Consumes-trans (S.remaining first) (S.remaining source) (S.remaining source') given bytes gives.bytes read;
  end = counts ∙ ap (counted ended) gives.end;
}

module _ {R W : Type 0} (S : SourceGhosts R) (K : SinkGhosts W) (Searched : Patterns → Type 0) (words : Bool) (rules : List Rule) (most : ℕ) (rule : PieceRule) (first : R) (begun : W) (zeros : List ℕ) where
  abbrev Begins : R → W → List ℕ → Type 0
  Begins source sink counts = BeginsLines S K Searched words rules most rule first source begun sink zeros counts

  abbrev Leaves : R → W → List ℕ → Result (Unit {0}) LineError → Type 0
  Leaves source sink counts result = LeavesLines S K Searched words rules most rule first source begun sink zeros counts result

  -- a beginning is what was written where some lines were, and a part of the next
  begins-lines : (source : R) (sink : W) (counts given : List ℕ) (ended : Bool) → SourceGave S first source given ended → StopsInLines K Searched words rules most rule begun sink zeros counts [] [] given → Begins source sink counts
  begins-lines source sink counts given ended gives stops = record {
    given = given;
    ended = ended;
    gives = gives;
    lines = stops.lines;
    runs = stops.runs;
    part = stops.part;
    as_many = stops.as_many;
    runs_are = stops.runs_are;
    writes = stops.writes;
    counted = stops.counted;
    goes_on = λ p bytes all searched may are.
        subst (λ (ls : List Line). BeginsNextLine rule stops.lines stops.runs stops.part ls all) (sym (ap stream_lines may.1))
        (stops.goes_on p may.0 all searched (subst (λ (ls : List Line). AreLineRuns (covering_by words rules most p) [] ls all) (ap stream_lines may.1) are));
  }

  -- what a failure of a device leaves
  pub leaves-read : (source : R) (sink : W) (counts : List ℕ) (error : LineError) → Begins source sink counts → CoversWholeLines S K Searched words rules most rule first source begun sink zeros counts
      → Leaves source sink counts (Err error)
  leaves-read source sink counts error begins whole = record { covered = tt; begun = begins; whole = λ failed. whole }

  pub leaves-written : (source : R) (sink : W) (counts : List ℕ) (error : LineError) → Begins source sink counts → (IsReadFailure error → ⊥) → Leaves source sink counts (Err error)
  leaves-written source sink counts error begins other = record { covered = tt; begun = begins; whole = λ failed. absurd (other failed) }

  pub leaves-ended : (source : R) (sink : W) (counts : List ℕ) (result : Result (Unit {0}) LineError) → OnOk result (CoversLines S K Searched words rules most rule first source begun sink zeros counts)
      → OnErr result (Begins source sink counts) → IfErr result (λ error. IsReadFailure error → ⊥) → Leaves source sink counts result
  leaves-ended source sink counts (Ok done) covers begins other = record { covered = covers; begun = tt; whole = tt }
  leaves-ended source sink counts (Err error) covers begins other = record { covered = tt; begun = begins; whole = λ failed. absurd (other failed) }

module _ {A R W P : Type 0} (S : SourceGhosts R) (K : SinkGhosts W) (Q : PieceGhosts P) (Searched : Patterns → Type 0) (words : Bool) (rules : List Rule) (most : ℕ) (rule : PieceRule) (first : R) (begun : W) (zeros : List ℕ) where
  -- so much was given, written and counted
  pub record Going (line : OpenLine A) (pieces : P) (source : R) (sink : W) (counts : List ℕ) : Type 0 where
    pub given : List ℕ
    pub gives : SourceGave S first source given false
    pub before : List (List ℕ)
    pub read : List ℕ
    pub writes : WritesLines K Searched words rules most rule begun sink zeros counts [] [] given before read
    pub stands : StandsBehind Q line pieces before read

  -- nothing was given yet
  pub going-first : (line : OpenLine A) (pieces : P) → StandsBehind Q line pieces [] [] → Going line pieces first begun zeros
  going-first line pieces stands = record {
    given = [];
    gives = gave-nothing S first;
    before = [];
    read = [];
    writes = WritesLines-part K Searched words rules most rule begun zeros [] [] [] (λ k low high. absurd (omega (arith, high)));
    stands = stands;
  }

  -- the sink has what it had
  pub going-kept : (line : OpenLine A) (pieces : P) (source : R) (sink sink' : W) (counts : List ℕ) → Going line pieces source sink counts → Keeps (K.taken sink) (K.taken sink') → Going line pieces source sink' counts
  going-kept line pieces source sink sink' counts going kept = record {
    given = going.given;
    gives = going.gives;
    before = going.before;
    read = going.read;
    writes = record {
      lines = going.writes.lines;
      runs = going.writes.runs;
      as_many = going.writes.as_many;
      splits = going.writes.splits;
      seen = going.writes.seen;
      runs_are = going.writes.runs_are;
      writes = Appends-kept (K.taken begun) (K.taken sink) (K.taken sink') (lines_cover rule going.writes.lines going.writes.runs) going.writes.writes kept;
      counted = going.writes.counted;
    };
    stands = going.stands;
  }

  -- more was given, and taken in
  pub going-more : (line line' : OpenLine A) (pieces pieces' : P) (source source' : R) (sink sink' : W) (counts counts' bytes : List ℕ) (going : Going line pieces source sink counts)
      → Consumes (S.remaining source) (S.remaining source') bytes → S.empty_reads source' ≡ counted false (S.empty_reads source)
      → GoesOnBehind K Q Searched words rules most rule sink sink' counts counts' line' pieces' going.before going.read bytes → Going line' pieces' source' sink' counts'
  going-more line line' pieces pieces' source source' sink sink' counts counts' bytes going read ended behind = record {
    given = going.given ++ bytes;
    gives = gave-more S first source source' going.given bytes false going.gives read ended;
    before = behind.before';
    read = behind.read';
    writes = WritesLines-then K Searched words rules most rule begun sink sink' zeros counts counts' [] going.before behind.before' [] going.read behind.read' going.given bytes going.writes behind.writes;
    stands = behind.stands;
  }

  -- nothing more was written
  pub going-begins : (line : OpenLine A) (pieces : P) (source : R) (sink : W) (counts : List ℕ) → Going line pieces source sink counts → Begins S K Searched words rules most rule first begun zeros source sink counts
  going-begins line pieces source sink counts going =
      begins-lines S K Searched words rules most rule first begun zeros source sink counts (going.given ++ []) false (subst (λ (g : List ℕ). SourceGave S first source g false) (sym (append-nil going.given)) going.gives)
      (StopsInLines-then K Searched words rules most rule begun sink sink zeros counts counts [] going.before [] going.read going.given [] going.writes (StopsInLines-none K Searched words rules most rule sink counts going.before going.read []))

  -- more was given, and of it some first lines and a part of the next were written
  pub going-stops : (line : OpenLine A) (pieces : P) (source source' : R) (sink sink' : W) (counts counts' bytes : List ℕ) (going : Going line pieces source sink counts)
      → Consumes (S.remaining source) (S.remaining source') bytes → S.empty_reads source' ≡ counted false (S.empty_reads source)
      → StopsInLines K Searched words rules most rule sink sink' counts counts' going.before going.read bytes → Begins S K Searched words rules most rule first begun zeros source' sink' counts'
  going-stops line pieces source source' sink sink' counts counts' bytes going read ended stops =
      begins-lines S K Searched words rules most rule first begun zeros source' sink' counts' (going.given ++ bytes) false (gave-more S first source source' going.given bytes false going.gives read ended)
      (StopsInLines-then K Searched words rules most rule begun sink sink' zeros counts counts' [] going.before [] going.read going.given bytes going.writes stops)

  -- a read failed: all lines whose ends were given were written
  pub going-whole : (line : OpenLine A) (pieces : P) (source : R) (sink : W) (counts : List ℕ) → Going line pieces source sink counts
      → CoversWholeLines S K Searched words rules most rule first source begun sink zeros counts
  going-whole line pieces source sink counts going = record {
    given = going.given;
    gives = going.gives;
    lines = going.writes.lines;
    last = last_line going.read;
    runs = going.writes.runs;
    lines_are = ap stream_lines (sym (append-nil going.given)) ∙ going.writes.splits [];
    runs_are = going.writes.runs_are;
    writes = going.writes.writes;
    counted = going.writes.counted;
  }

  -- the source gave nothing: a read that failed, or its end
  pub going-read : (line : OpenLine A) (pieces : P) (source source' : R) (sink : W) (counts : List ℕ) → Going line pieces source sink counts
      → Consumes (S.remaining source) (S.remaining source') [] → S.empty_reads source' ≡ counted false (S.empty_reads source) → Going line pieces source' sink counts
  going-read line pieces source source' sink counts going read ended = record {
    given = going.given;
    gives = subst (λ (g : List ℕ). SourceGave S first source' g false) (append-nil going.given) (gave-more S first source source' going.given [] false going.gives read ended);
    before = going.before;
    read = going.read;
    writes = going.writes;
    stands = going.stands;
  }

  -- at the end the last line was written
  pub going-covers : (line : OpenLine A) (pieces : P) (source source' : R) (sink sink' : W) (counts counts' : List ℕ) (going : Going line pieces source sink counts)
      → Consumes (S.remaining source) (S.remaining source') [] → S.empty_reads source' ≡ counted true (S.empty_reads source)
      → WritesLine K Searched words rules most rule sink sink' counts counts' going.before (last_line going.read)
      → CoversLines S K Searched words rules most rule first source' begun sink' zeros counts'
  going-covers line pieces source source' sink sink' counts counts' going read ended wrote =
      let lines = ap stream_lines (sym (append-nil going.given)) ∙ going.writes.splits [] in
      let all = going.writes.runs ++ wrote.runs ∷ [] in
      record {
        given = going.given;
        gives = subst (λ (g : List ℕ). SourceGave S first source' g true) (append-nil going.given) (gave-more S first source source' going.given [] true going.gives read ended);
        runs = all;
        runs_are = λ p searched. subst (λ (ls : List Line). AreLineRuns (covering_by words rules most p) [] ls all) (sym lines)
            (runs-append (covering_by words rules most p) [] going.writes.lines (last_line going.read ∷ []) going.writes.runs (wrote.runs ∷ []) (going.writes.runs_are p searched)
            (subst (λ (b : List (List ℕ)). AreLineRuns (covering_by words rules most p) b (last_line going.read ∷ []) (wrote.runs ∷ [])) going.writes.seen (wrote.runs_are p searched, tt)));
        writes = subst (λ (ls : List Line). Appends (K.taken begun) (K.taken sink') (lines_cover rule ls all)) (sym lines)
            (subst (Appends (K.taken begun) (K.taken sink')) (sym (lines_cover-append rule going.writes.lines (last_line going.read ∷ []) going.writes.runs (wrote.runs ∷ []) going.writes.as_many))
            (Appends-trans (K.taken begun) (K.taken sink) (K.taken sink') (lines_cover rule going.writes.lines going.writes.runs) (line_cover rule (last_line going.read) wrote.runs ++ []) going.writes.writes
            (subst (Appends (K.taken sink) (K.taken sink')) (sym (append-nil (line_cover rule (last_line going.read) wrote.runs))) wrote.writes)));
        counted = subst (λ (rs : List Occurrence). CountsThese rs zeros counts') (sym (flat_map-append (λ (own : List Occurrence). own) going.writes.runs (wrote.runs ∷ [])))
            (counts_then (all_of going.writes.runs) (wrote.runs ++ []) zeros counts counts' going.writes.counted (subst (λ (rs : List Occurrence). CountsThese rs counts counts') (sym (append-nil wrote.runs)) wrote.counted));
      }

  -- or a beginning of it was
  pub going-ends : (line : OpenLine A) (pieces : P) (source source' : R) (sink sink' : W) (counts counts' : List ℕ) (going : Going line pieces source sink counts)
      → Consumes (S.remaining source) (S.remaining source') [] → S.empty_reads source' ≡ counted true (S.empty_reads source)
      → StopsInLine K Searched words rules most rule sink sink' counts counts' going.before (last_line going.read) → Begins S K Searched words rules most rule first begun zeros source' sink' counts'
  going-ends line pieces source source' sink sink' counts counts' going read ended stops = record {
    given = going.given;
    ended = true;
    gives = subst (λ (g : List ℕ). SourceGave S first source' g true) (append-nil going.given) (gave-more S first source source' going.given [] true going.gives read ended);
    lines = going.writes.lines;
    runs = going.writes.runs;
    part = stops.part;
    as_many = going.writes.as_many;
    runs_are = going.writes.runs_are;
    writes = Appends-trans (K.taken begun) (K.taken sink) (K.taken sink') (lines_cover rule going.writes.lines going.writes.runs) stops.part going.writes.writes stops.writes;
    counted = subst (CountsThese (all_of going.writes.runs) zeros) (sym stops.counted) going.writes.counted;
    goes_on = λ p bytes all searched may are.
        let lines = ap stream_lines (may.1 ∙ ap (λ (xs : List ℕ). going.given ++ xs) may.2) ∙ going.writes.splits [] in
        let parts = runs-split (covering_by words rules most p) [] going.writes.lines (last_line going.read ∷ []) going.writes.runs all (going.writes.runs_are p searched)
        (subst (λ (ls : List Line). AreLineRuns (covering_by words rules most p) [] ls all) lines are) in
        let last = last-of p parts.0 (subst (λ (b : List (List ℕ)). AreLineRuns (covering_by words rules most p) b (last_line going.read ∷ []) parts.0) (sym going.writes.seen) parts.2) in
        record {
          next = last_line going.read;
          later = [];
          own = last.0;
          more = [];
          lines_are = lines;
          runs_are = parts.1 ∙ ap (λ (rs : List (List Occurrence)). going.writes.runs ++ rs) last.1;
          begins = stops.begins p last.0 searched last.2;
        };
  } where
    last-of : (p : Patterns) (rest : List (List Occurrence)) → AreLineRuns (covering_by words rules most p) going.before (last_line going.read ∷ []) rest
        → (own : List Occurrence) × (rest ≡ own ∷ []) × AreRunsOf (CoveredIn (covering_by words rules most p) going.before going.read) own
    last-of p [] are = absurd are
    last-of p (own ∷ []) are = (own, refl, are.0)
    last-of p (own ∷ other ∷ rest) are = absurd are.1
