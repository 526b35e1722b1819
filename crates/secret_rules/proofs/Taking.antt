-- Bytes of a text that are taken in, part after part.
use Rattle.std.proofs.Common.{◌≡◌, ℕ, zero, suc, ◌+◌, ◌<◌, ◌≤◌, Bool, true, List, [], ◌∷◌, ◌++◌, length, take, drop, refl, sym, ◌∙◌, ap, subst, arith, append_assoc}
use Rattle.std.specs.Prelude.{◌==◌, slice_index}
use Rattle.std.proofs.lemmas.Bool.{eqb-true}
use Rattle.std.proofs.lemmas.List.{append-nil, get_or-take, length-take-le}
use Rattle.memchr.specs.Find.{Nowhere, Passes, is_byte}
use Rattle.aho_core.specs.Patterns.{Patterns}
use Rattle.aho_devices.specs.declared.device.Sink.{Ghosts as SinkGhosts}
use Rattle.aho_cover.specs.Pieces.{PieceRule}
use Rattle.aho_cover.specs.declared.pieces.Pieces.{Ghosts as PieceGhosts}
use Rattle.secret_rules.specs.Covering.{seen_line}
use Rattle.secret_rules.specs.Lines.{ended_line}
use Rattle.secret_rules.specs.Marking.{HasMarked}
use Rattle.secret_rules.specs.OpenLines.{GoesOnBehind, HasRead, StandsBehind, StopsInLine, StopsInLines, WritesLine, WritesLines}
use Rattle.secret_rules.specs.declared.marker.Marker.{Marker}
use Rattle.secret_rules.specs.declared.open_line.OpenLine.{OpenLine}
use Rattle.secret_rules.specs.declared.rule.Rule.{Rule}
use Rattle.secret_rules.proofs.Advancing.{StopsInLines-end, StopsInLines-none, StopsInLines-then, WritesLines-end, WritesLines-part, WritesLines-then}
use Rattle.secret_rules.proofs.LineRuns.{NoEnds}

-- bytes up to a line end, the line end, and those behind it
pub parts-at : (rest : List ℕ) (end : ℕ) → end < length rest → (slice_index rest end == 10) ≡ true → rest ≡ take end rest ++ 10 ∷ drop (end + 1) rest
parts-at [] end within ends = absurd (omega (arith, within))
parts-at (byte ∷ rest) zero within ends = ap (λ (b : ℕ). b ∷ rest) (eqb-true byte 10 ends)
parts-at (byte ∷ rest) (suc end) within ends =
    let same : suc (end + 1) ≡ suc end + 1 = omega arith in
    ap (λ (xs : List ℕ). byte ∷ xs) (parts-at rest end (omega (arith, within)) ends)
    ∙ ap (λ (n : ℕ). byte ∷ (take end rest ++ 10 ∷ drop n (byte ∷ rest))) same

-- no line end stands before the first
pub none-before : (rest : List ℕ) (end : ℕ) → end ≤ length rest → Nowhere (Passes (is_byte 10) rest) 0 end → NoEnds (take end rest)
none-before rest end within none =
    λ k low high ends.
    let short : k < end = omega (arith, high, length-take-le end rest within) in
    none k low short (subst (λ (b : ℕ). (b == 10) ≡ true) (get_or-take end rest k 0 short) ends)

-- bytes up to a line end that was found, the line end, and those behind it
pub parts-found : (rest later : List ℕ) (end : ℕ) → end < length rest → (slice_index rest end == 10) ≡ true → later ≡ drop (end + 1) rest → rest ≡ take end rest ++ 10 ∷ later
parts-found rest later end within ends is = parts-at rest end within ends ∙ ap (λ (xs : List ℕ). take end rest ++ 10 ∷ xs) (sym is)

-- more bytes of the same line were read
pub stands-more : {A P : Type 0} (Q : PieceGhosts P) (line line' : OpenLine A) (pieces pieces' : P) (before : List (List ℕ)) (read bytes : List ℕ) → StandsBehind Q line pieces before read → line'.marker ≡ line.marker
    → HasRead Q line' pieces' (read ++ bytes) → StandsBehind Q line' pieces' before (read ++ bytes)
stands-more Q line line' pieces pieces' before read bytes stands same has = record { marked = subst (λ (m : Marker). HasMarked m before) (sym same) stands.marked; has = has }

module _ {A W P : Type 0} (K : SinkGhosts W) (Q : PieceGhosts P) (Searched : Patterns → Type 0) (words : Bool) (rules : List Rule) (most : ℕ) (rule : PieceRule) where
  -- a part of some bytes was taken in, and the others are left
  pub record HasTaken (line line' : OpenLine A) (pieces pieces' : P) (sink sink' : W) (counts counts' bytes rest : List ℕ) : Type 0 where
    pub taken : List ℕ
    pub parts : bytes ≡ taken ++ rest
    pub goes : (before : List (List ℕ)) (read : List ℕ) → StandsBehind Q line pieces before read → GoesOnBehind K Q Searched words rules most rule sink sink' counts counts' line' pieces' before read taken

  -- none was yet
  pub taken-none : (line : OpenLine A) (pieces : P) (sink : W) (counts bytes : List ℕ) → HasTaken line line pieces pieces sink sink counts counts bytes bytes
  taken-none line pieces sink counts bytes = record {
    taken = [];
    parts = refl;
    goes = λ before read stands. record {
      before' = before;
      read' = read;
      writes = subst (λ (r : List ℕ). WritesLines K Searched words rules most rule sink sink counts counts before read [] before r) (append-nil read)
          (WritesLines-part K Searched words rules most rule sink counts before read [] (λ k low high. absurd (omega (arith, high))));
      stands = stands;
    };
  }

  module _ (line line' : OpenLine A) (pieces pieces' : P) (sink sink' : W) (counts counts' bytes rest : List ℕ) (taken : HasTaken line line' pieces pieces' sink sink' counts counts' bytes rest) where
    -- a further line came to its end
    pub taken-line : (line'' : OpenLine A) (pieces'' : P) (sink'' : W) (counts'' part later : List ℕ) → NoEnds part → rest ≡ part ++ 10 ∷ later
        → ((before : List (List ℕ)) (read : List ℕ) → StandsBehind Q line' pieces' before read
        → WritesLine K Searched words rules most rule sink' sink'' counts' counts'' before (ended_line (read ++ part)) × StandsBehind Q line'' pieces'' (before ++ seen_line most (read ++ part) ∷ []) [])
        → HasTaken line line'' pieces pieces'' sink sink'' counts counts'' bytes later
    taken-line line'' pieces'' sink'' counts'' part later none split writes = record {
      taken = taken.taken ++ (part ++ 10 ∷ []);
      parts = taken.parts ∙ ap (λ (xs : List ℕ). taken.taken ++ xs) (split ∙ sym (append_assoc part (10 ∷ []) later)) ∙ sym (append_assoc taken.taken (part ++ 10 ∷ []) later);
      goes = λ before read stands.
          let so_far = taken.goes before read stands in
          let more = writes so_far.before' so_far.read' so_far.stands in
          record {
            before' = so_far.before' ++ seen_line most (so_far.read' ++ part) ∷ [];
            read' = [];
            writes = WritesLines-then K Searched words rules most rule sink sink' sink'' counts counts' counts'' before so_far.before' (so_far.before' ++ seen_line most (so_far.read' ++ part) ∷ []) read so_far.read' [] taken.taken (part ++ 10 ∷ [])
                so_far.writes (WritesLines-end K Searched words rules most rule sink' sink'' counts' counts'' so_far.before' so_far.read' part none more.0);
            stands = more.1;
          };
    }

    -- what is left holds no line end
    pub taken-all : (line'' : OpenLine A) (pieces'' : P) → NoEnds rest → ((before : List (List ℕ)) (read : List ℕ) → StandsBehind Q line' pieces' before read → StandsBehind Q line'' pieces'' before (read ++ rest))
        → (before : List (List ℕ)) (read : List ℕ) → StandsBehind Q line pieces before read → GoesOnBehind K Q Searched words rules most rule sink sink' counts counts' line'' pieces'' before read bytes
    taken-all line'' pieces'' none stands_on before read stands =
        let so_far = taken.goes before read stands in
        record {
          before' = so_far.before';
          read' = so_far.read' ++ rest;
          writes = subst (λ (bs : List ℕ). WritesLines K Searched words rules most rule sink sink' counts counts' before read bs so_far.before' (so_far.read' ++ rest)) (sym taken.parts)
              (WritesLines-then K Searched words rules most rule sink sink' sink' counts counts' counts' before so_far.before' so_far.before' read so_far.read' (so_far.read' ++ rest) taken.taken rest
              so_far.writes (WritesLines-part K Searched words rules most rule sink' counts' so_far.before' so_far.read' rest none));
          stands = stands_on so_far.before' so_far.read' so_far.stands;
        }

    -- no more was written
    pub taken-stops : (before : List (List ℕ)) (read : List ℕ) → StandsBehind Q line pieces before read → StopsInLines K Searched words rules most rule sink sink' counts counts' before read bytes
    taken-stops before read stands =
        let so_far = taken.goes before read stands in
        subst (StopsInLines K Searched words rules most rule sink sink' counts counts' before read) (sym taken.parts)
        (StopsInLines-then K Searched words rules most rule sink sink' sink' counts counts' counts' before so_far.before' read so_far.read' taken.taken rest so_far.writes
        (StopsInLines-none K Searched words rules most rule sink' counts' so_far.before' so_far.read' rest))

    -- a beginning of the next line was
    pub taken-breaks : (sink'' : W) (counts'' part later : List ℕ) → NoEnds part → rest ≡ part ++ 10 ∷ later
        → ((before : List (List ℕ)) (read : List ℕ) → StandsBehind Q line' pieces' before read → StopsInLine K Searched words rules most rule sink' sink'' counts' counts'' before (ended_line (read ++ part)))
        → (before : List (List ℕ)) (read : List ℕ) → StandsBehind Q line pieces before read → StopsInLines K Searched words rules most rule sink sink'' counts counts'' before read bytes
    taken-breaks sink'' counts'' part later none split stops before read stands =
        let so_far = taken.goes before read stands in
        subst (StopsInLines K Searched words rules most rule sink sink'' counts counts'' before read) (sym (taken.parts ∙ ap (λ (xs : List ℕ). taken.taken ++ xs) split))
        (StopsInLines-then K Searched words rules most rule sink sink' sink'' counts counts' counts'' before so_far.before' read so_far.read' taken.taken (part ++ 10 ∷ later) so_far.writes
        (StopsInLines-end K Searched words rules most rule sink' sink'' counts' counts'' so_far.before' so_far.read' part later none (stops so_far.before' so_far.read' so_far.stands)))
