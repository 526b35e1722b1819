-- The bytes of a line as they are read.
use Rattle.std.proofs.Common.{◌≡◌, ℕ, ◌+◌, ◌<◌, ◌≤◌, true, false, List, ◌++◌, length, sym, ◌∙◌, ap, subst, arith, length-append}
use Rattle.std.specs.Prelude.{if◌then◌else◌, is_ok, OnOk, Result, Ok, Err}
use Rattle.std.proofs.lemmas.Bool.{false≢true}
use Rattle.aho_cover.specs.declared.pieces.Pieces.{Ghosts as PieceGhosts}
use Rattle.secret_rules.specs.OpenLines.{HasRead}
use Rattle.secret_rules.specs.declared.open_line.OpenLine.{OpenLine}

-- more bytes are kept, unless memory ran out
pub bytes-kept : {E : Type 0} (r : Result (Unit {0}) E) (old more new : List ℕ) → new ≡ (if is_ok r then old ++ more else old) → OnOk r (new ≡ old ++ more)
bytes-kept (Ok done) old more new is = is
bytes-kept (Err e) old more new is = tt

module _ {A P : Type 0} (Q : PieceGhosts P) (line line' : OpenLine A) (pieces pieces' : P) (read bytes : List ℕ) (has : HasRead Q line pieces read) (same : line'.setting.most ≡ line.setting.most) where
  -- a line that was too long, and the bytes were fed
  pub read-fed : line.long ≡ true → line'.long ≡ true → ((fed : List ℕ) → Q.holds pieces fed → Q.holds pieces' (fed ++ bytes)) → HasRead Q line' pieces' (read ++ bytes)
  read-fed long long' more = record {
    kept = λ short. absurd (false≢true (sym short ∙ long'));
    fed = λ is. (more read (has.fed long).0, omega (arith, (has.fed long).1, same, length-append read bytes));
  }

  -- one that is now, and all its bytes were
  pub read-over : line.long ≡ false → line'.long ≡ true → line'.setting.most < length line.line.items + length bytes → Q.holds pieces' (line.line.items ++ bytes) → HasRead Q line' pieces' (read ++ bytes)
  read-over short long' over holds =
      let same_bytes : line.line.items ≡ read = (has.kept short).0 in
      record {
        kept = λ is. absurd (false≢true (sym is ∙ long'));
        fed = λ is. (
          subst (λ (xs : List ℕ). Q.holds pieces' (xs ++ bytes)) same_bytes holds,
          omega (arith, over, ap length same_bytes, length-append read bytes),
        );
      }

  -- one that is not, and the bytes are kept
  pub read-kept : line.long ≡ false → line'.long ≡ false → length line.line.items + length bytes ≤ line'.setting.most → line'.line.items ≡ line.line.items ++ bytes → HasRead Q line' pieces' (read ++ bytes)
  read-kept short short' within items =
      let same_bytes : line.line.items ≡ read = (has.kept short).0 in
      record {
        kept = λ is. (
          items ∙ ap (λ (xs : List ℕ). xs ++ bytes) same_bytes,
          omega (arith, within, ap length same_bytes, length-append read bytes),
        );
        fed = λ is. absurd (false≢true (sym short' ∙ is));
      }
