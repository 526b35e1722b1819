-- What was written of a line.
use Rattle.std.proofs.Common.{◌≡◌, ◌≤◌, ◌+◌, ◌∷◌, ◌++◌, [], List, ℕ, drop, length, sym, ◌∙◌, ap, append_assoc, length-append, subst, arith}
use Rattle.std.specs.Prelude.{Option, slice_range}
use Rattle.std.specs.Io.KnownBytes.{Appends}
use Rattle.std.proofs.KnownBytes.{Appends-trans}
use Rattle.std.proofs.lemmas.List.{take-append-le}
use Rattle.aho_core.specs.Occurrence.{Occurrence}
use Rattle.aho_core.specs.Replacement.{replaced_by, replaced_from}
use Rattle.aho_devices.specs.Counts.{AppendsBeginning}
use Rattle.aho_cover.proofs.Written.{appends_then}
use Rattle.secret_rules.specs.Writing.{LieFrom}

-- of a line with its pieces all was written that stands before a place, from which on these runs are left
pub record HasWritten (old new : Option (List ℕ)) (line : List ℕ) (piece : Occurrence → List ℕ) (runs : List Occurrence) (at : ℕ) (left : List Occurrence) : Type 0 where
  pub bytes : List ℕ
  pub appends : Appends old new bytes
  pub rest : bytes ++ replaced_from line at left piece ≡ replaced_by line runs piece

-- a beginning of some bytes begins them with more behind them
pub begins-more : (old new : Option (List ℕ)) (bytes more : List ℕ) → AppendsBeginning old new bytes → AppendsBeginning old new (bytes ++ more)
begins-more old new bytes more (count, within, appends) = (
  count,
  omega (arith, within, length-append bytes more),
  subst (Appends old new) (sym (take-append-le count bytes more within)) appends,
)

module _ (a b c : Option (List ℕ)) (line : List ℕ) (piece : Occurrence → List ℕ) (runs : List Occurrence) (at : ℕ) where
  module _ (run : Occurrence) (left : List Occurrence) (written : HasWritten a b line piece runs at (run ∷ left)) where
    split-here : (written.bytes ++ (slice_range line at run.start ++ piece run)) ++ replaced_from line run.end left piece ≡ replaced_by line runs piece
    split-here =
        append_assoc written.bytes (slice_range line at run.start ++ piece run) (replaced_from line run.end left piece)
        ∙ ap (λ (xs : List ℕ). written.bytes ++ xs) (append_assoc (slice_range line at run.start) (piece run) (replaced_from line run.end left piece))
        ∙ written.rest

    -- the bytes before a run, and its piece
    pub written-more : Appends b c (slice_range line at run.start ++ piece run) → HasWritten a c line piece runs run.end left
    written-more more = record {
      bytes = written.bytes ++ (slice_range line at run.start ++ piece run);
      appends = Appends-trans a b c written.bytes (slice_range line at run.start ++ piece run) written.appends more;
      rest = split-here;
    }

    -- a beginning of these
    pub written-part : (end : List ℕ) → AppendsBeginning b c (slice_range line at run.start ++ piece run) → AppendsBeginning a c (replaced_by line runs piece ++ end)
    written-part end part =
        subst (λ (xs : List ℕ). AppendsBeginning a c (xs ++ end)) split-here
        (begins-more a c ((written.bytes ++ (slice_range line at run.start ++ piece run)) ++ replaced_from line run.end left piece) end
        (begins-more a c (written.bytes ++ (slice_range line at run.start ++ piece run)) (replaced_from line run.end left piece)
        (appends_then a b c written.bytes (slice_range line at run.start ++ piece run) written.appends part)))

  module _ (written : HasWritten a b line piece runs at []) (end : List ℕ) where
    rest-here : written.bytes ++ (drop at line ++ end) ≡ replaced_by line runs piece ++ end
    rest-here = sym (append_assoc written.bytes (drop at line) end) ∙ ap (λ (xs : List ℕ). xs ++ end) written.rest

    -- what stands behind the last run, and the end of the line
    pub written-end : AppendsBeginning b c (drop at line ++ end) → AppendsBeginning a c (replaced_by line runs piece ++ end)
    written-end part = subst (AppendsBeginning a c) rest-here (appends_then a b c written.bytes (drop at line ++ end) written.appends part)

-- where runs lie from a place on, that is a place of the line
pub lie-within : (line : List ℕ) (at : ℕ) (runs : List Occurrence) → LieFrom line at runs → at ≤ length line
lie-within line at [] lie = lie
lie-within line at (run ∷ runs) lie = omega (arith, lie.0, lie.1, lie-within line run.end runs lie.2)
