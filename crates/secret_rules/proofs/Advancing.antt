-- Lines that come to their ends, are written, and their runs counted, some after others.
use Rattle.std.proofs.Common.{◌≡◌, ℕ, ◌+◌, Bool, List, [], ◌∷◌, ◌++◌, refl, sym, ◌∙◌, ap, subst, arith, append_assoc, length-append}
use Rattle.std.specs.Io.KnownBytes.{Appends}
use Rattle.std.proofs.KnownBytes.{Appends-nil, Appends-trans}
use Rattle.std.proofs.lemmas.Grind.{flat_map-append}
use Rattle.std.proofs.lemmas.List.{append-nil, map-append}
use Rattle.aho_core.specs.Occurrence.{Occurrence}
use Rattle.aho_core.specs.Patterns.{Patterns}
use Rattle.aho_devices.specs.declared.device.Sink.{Ghosts as SinkGhosts}
use Rattle.aho_cover.specs.Counting.{CountsThese}
use Rattle.aho_cover.specs.Pieces.{PieceRule}
use Rattle.aho_cover.proofs.Counted.{counts_none, counts_then}
use Rattle.secret_rules.specs.Covering.{AreLineRuns, covering_by, lines_cover, seen_line}
use Rattle.secret_rules.specs.LineCovers.{BeginsNextLine, all_of}
use Rattle.secret_rules.specs.Lines.{Line, ended_line, lines_from}
use Rattle.secret_rules.specs.OpenLines.{StopsInLine, StopsInLines, WritesLine, WritesLines}
use Rattle.secret_rules.specs.Writing.{line_cover}
use Rattle.secret_rules.specs.declared.rule.Rule.{Rule}
use Rattle.secret_rules.proofs.LineRuns.{NoEnds, lines-part, lines-some, lines_cover-append, runs-append, runs-split, seen_lines}

-- lines that go on with a next one, behind some others
pub BeginsNextLine-behind : (rule : PieceRule) (first lines all : List Line) (runs more rest : List (List Occurrence)) (part : List ℕ) → BeginsNextLine rule lines more part all rest
    → BeginsNextLine rule (first ++ lines) (runs ++ more) part (first ++ all) (runs ++ rest)
BeginsNextLine-behind rule first lines all runs more rest part h = record {
  next = h.next;
  later = h.later;
  own = h.own;
  more = h.more;
  lines_are = ap (λ (ls : List Line). first ++ ls) h.lines_are ∙ sym (append_assoc first lines (h.next ∷ h.later));
  runs_are = ap (λ (rs : List (List Occurrence)). runs ++ rs) h.runs_are ∙ sym (append_assoc runs more (h.own ∷ h.more));
  begins = h.begins;
}

module _ {W : Type 0} (K : SinkGhosts W) (Searched : Patterns → Type 0) (words : Bool) (rules : List Rule) (most : ℕ) (rule : PieceRule) where
  -- a part without a line end, and nothing was written
  pub WritesLines-part : (sink : W) (counts : List ℕ) (before : List (List ℕ)) (read part : List ℕ) → NoEnds part
      → WritesLines K Searched words rules most rule sink sink counts counts before read part before (read ++ part)
  WritesLines-part sink counts before read part none = record {
    lines = [];
    runs = [];
    as_many = refl;
    splits = λ more. lines-part read part more none;
    seen = sym (append-nil before);
    runs_are = λ p searched. tt;
    writes = Appends-nil (K.taken sink);
    counted = counts_none counts;
  }

  -- a part and the end of its line, which was written
  pub WritesLines-end : (sink sink' : W) (counts counts' : List ℕ) (before : List (List ℕ)) (read part : List ℕ) → NoEnds part
      → WritesLine K Searched words rules most rule sink sink' counts counts' before (ended_line (read ++ part))
      → WritesLines K Searched words rules most rule sink sink' counts counts' before read (part ++ 10 ∷ []) (before ++ seen_line most (read ++ part) ∷ []) []
  WritesLines-end sink sink' counts counts' before read part none wrote = record {
    lines = ended_line (read ++ part) ∷ [];
    runs = wrote.runs ∷ [];
    as_many = refl;
    splits = λ more. ap (lines_from read) (append_assoc part (10 ∷ []) more) ∙ lines-part read part (10 ∷ more) none;
    seen = refl;
    runs_are = λ p searched. (wrote.runs_are p searched, tt);
    writes = subst (Appends (K.taken sink) (K.taken sink')) (sym (append-nil (line_cover rule (ended_line (read ++ part)) wrote.runs))) wrote.writes;
    counted = subst (λ (rs : List Occurrence). CountsThese rs counts counts') (sym (append-nil wrote.runs)) wrote.counted;
  }

  -- some bytes, and more behind them
  pub WritesLines-then : (one two three : W) (a b c : List ℕ) (before before' before'' : List (List ℕ)) (read read' read'' bytes more : List ℕ)
      → WritesLines K Searched words rules most rule one two a b before read bytes before' read'
      → WritesLines K Searched words rules most rule two three b c before' read' more before'' read''
      → WritesLines K Searched words rules most rule one three a c before read (bytes ++ more) before'' read''
  WritesLines-then one two three a b c before before' before'' read read' read'' bytes more first second = record {
    lines = first.lines ++ second.lines;
    runs = first.runs ++ second.runs;
    as_many = length-append first.runs second.runs ∙ omega (arith, first.as_many, second.as_many) ∙ sym (length-append first.lines second.lines);
    splits = λ rest.
        ap (lines_from read) (append_assoc bytes more rest)
        ∙ first.splits (more ++ rest)
        ∙ ap (λ (ls : List Line). first.lines ++ ls) (second.splits rest)
        ∙ sym (append_assoc first.lines second.lines (lines_from read'' rest));
    seen =
        second.seen
        ∙ ap (λ (b : List (List ℕ)). b ++ seen_lines most second.lines) first.seen
        ∙ append_assoc before (seen_lines most first.lines) (seen_lines most second.lines)
        ∙ ap (λ (ls : List (List ℕ)). before ++ ls) (sym (map-append (λ (line : Line). seen_line most line.bytes) first.lines second.lines));
    runs_are = λ p searched. runs-append (covering_by words rules most p) before first.lines second.lines first.runs second.runs (first.runs_are p searched)
        (subst (λ (b : List (List ℕ)). AreLineRuns (covering_by words rules most p) b second.lines second.runs) first.seen (second.runs_are p searched));
    writes = subst (Appends (K.taken one) (K.taken three)) (sym (lines_cover-append rule first.lines second.lines first.runs second.runs first.as_many))
        (Appends-trans (K.taken one) (K.taken two) (K.taken three) (lines_cover rule first.lines first.runs) (lines_cover rule second.lines second.runs) first.writes second.writes);
    counted = subst (λ (rs : List Occurrence). CountsThese rs a c) (sym (flat_map-append (λ (own : List Occurrence). own) first.runs second.runs))
        (counts_then (all_of first.runs) (all_of second.runs) a b c first.counted second.counted);
  }

  pub StopsInLines-then : (one two three : W) (a b c : List ℕ) (before before' : List (List ℕ)) (read read' bytes more : List ℕ)
      → WritesLines K Searched words rules most rule one two a b before read bytes before' read'
      → StopsInLines K Searched words rules most rule two three b c before' read' more
      → StopsInLines K Searched words rules most rule one three a c before read (bytes ++ more)
  StopsInLines-then one two three a b c before before' read read' bytes more first second = record {
    lines = first.lines ++ second.lines;
    runs = first.runs ++ second.runs;
    part = second.part;
    as_many = length-append first.runs second.runs ∙ omega (arith, first.as_many, second.as_many) ∙ sym (length-append first.lines second.lines);
    runs_are = λ p searched. runs-append (covering_by words rules most p) before first.lines second.lines first.runs second.runs (first.runs_are p searched)
        (subst (λ (b : List (List ℕ)). AreLineRuns (covering_by words rules most p) b second.lines second.runs) first.seen (second.runs_are p searched));
    writes = subst (Appends (K.taken one) (K.taken three))
        (sym (append_assoc (lines_cover rule first.lines first.runs) (lines_cover rule second.lines second.runs) second.part)
        ∙ ap (λ (xs : List ℕ). xs ++ second.part) (sym (lines_cover-append rule first.lines second.lines first.runs second.runs first.as_many)))
        (Appends-trans (K.taken one) (K.taken two) (K.taken three) (lines_cover rule first.lines first.runs) (lines_cover rule second.lines second.runs ++ second.part) first.writes second.writes);
    counted = subst (λ (rs : List Occurrence). CountsThese rs a c) (sym (flat_map-append (λ (own : List Occurrence). own) first.runs second.runs))
        (counts_then (all_of first.runs) (all_of second.runs) a b c first.counted second.counted);
    goes_on = λ p rest all searched are.
        let split = ap (lines_from read) (append_assoc bytes more rest) ∙ first.splits (more ++ rest) in
        let parts = runs-split (covering_by words rules most p) before first.lines (lines_from read' (more ++ rest)) first.runs all (first.runs_are p searched)
        (subst (λ (ls : List Line). AreLineRuns (covering_by words rules most p) before ls all) split are) in
        let later = second.goes_on p rest parts.0 searched
        (subst (λ (b : List (List ℕ)). AreLineRuns (covering_by words rules most p) b (lines_from read' (more ++ rest)) parts.0) (sym first.seen) parts.2) in
        subst (λ (ls : List Line). BeginsNextLine rule (first.lines ++ second.lines) (first.runs ++ second.runs) second.part ls all) (sym split)
        (subst (BeginsNextLine rule (first.lines ++ second.lines) (first.runs ++ second.runs) second.part (first.lines ++ lines_from read' (more ++ rest))) (sym parts.1)
        (BeginsNextLine-behind rule first.lines second.lines (lines_from read' (more ++ rest)) first.runs second.runs parts.0 second.part later));
  }

  -- nothing of a line was written
  pub StopsInLines-none : (sink : W) (counts : List ℕ) (before : List (List ℕ)) (read bytes : List ℕ) → StopsInLines K Searched words rules most rule sink sink counts counts before read bytes
  StopsInLines-none sink counts before read bytes = record {
    lines = [];
    runs = [];
    part = [];
    as_many = refl;
    runs_are = λ p searched. tt;
    writes = Appends-nil (K.taken sink);
    counted = counts_none counts;
    goes_on = λ p more all searched are. starts p (lines_from read (bytes ++ more)) all (lines-some read (bytes ++ more)) are;
  } where
    starts : (p : Patterns) (lines : List Line) (all : List (List Occurrence)) → (next : Line) × (later : List Line) × (lines ≡ next ∷ later) → AreLineRuns (covering_by words rules most p) before lines all
        → BeginsNextLine rule [] [] [] lines all
    starts p lines [] some are = absurd (subst (λ (ls : List Line). AreLineRuns (covering_by words rules most p) before ls []) some.2 are)
    starts p lines (own ∷ all) some are = record { next = some.0; later = some.1; own = own; more = all; lines_are = some.2; runs_are = refl; begins = refl }

  -- a beginning of an ended line was
  pub StopsInLines-end : (sink sink' : W) (counts counts' : List ℕ) (before : List (List ℕ)) (read part rest : List ℕ) → NoEnds part
      → StopsInLine K Searched words rules most rule sink sink' counts counts' before (ended_line (read ++ part))
      → StopsInLines K Searched words rules most rule sink sink' counts counts' before read (part ++ 10 ∷ rest)
  StopsInLines-end sink sink' counts counts' before read part rest none stops = record {
    lines = [];
    runs = [];
    part = stops.part;
    as_many = refl;
    runs_are = λ p searched. tt;
    writes = stops.writes;
    counted = subst (CountsThese [] counts) (sym stops.counted) (counts_none counts);
    goes_on = λ p more all searched are. starts p (lines_from read ((part ++ 10 ∷ rest) ++ more)) all (rest ++ more)
        (ap (lines_from read) (append_assoc part (10 ∷ rest) more) ∙ lines-part read part (10 ∷ (rest ++ more)) none) searched are;
  } where
    starts : (p : Patterns) (lines : List Line) (all : List (List Occurrence)) (later : List ℕ) → lines ≡ ended_line (read ++ part) ∷ lines_from [] later → Searched p → AreLineRuns (covering_by words rules most p) before lines all
        → BeginsNextLine rule [] [] stops.part lines all
    starts p lines [] later e searched are = absurd (subst (λ (ls : List Line). AreLineRuns (covering_by words rules most p) before ls []) e are)
    starts p lines (own ∷ all) later e searched are = record {
      next = ended_line (read ++ part);
      later = lines_from [] later;
      own = own;
      more = all;
      lines_are = e;
      runs_are = refl;
      begins = stops.begins p own searched (subst (λ (ls : List Line). AreLineRuns (covering_by words rules most p) before ls (own ∷ all)) e are).0;
    }
