-- The bytes of a line as they are read for a visitor.
use Rattle.std.proofs.Common.{◌≡◌, ℕ, ◌+◌, List, [], ◌++◌, length, sym, subst, arith, length-append}
use Rattle.secret_rules.specs.Marking.{HasMarked}
use Rattle.secret_rules.specs.SeenLines.{HasKept, HoldsBehind}
use Rattle.secret_rules.specs.declared.marker.Marker.{Marker}
use Rattle.secret_rules.specs.declared.open_line.OpenLine.{OpenLine}

module _ {A : Type 0} (line line' : OpenLine A) (count count' : ℕ) (read bytes : List ℕ) (has : HasKept line count read) (same : line'.setting.most ≡ line.setting.most) (grown : count' ≡ count + length bytes) where
  counted-more : count' ≡ length (read ++ bytes)
  counted-more = omega (arith, grown, has.counted, length-append read bytes)

-- more bytes of the same line were read
pub stands-grown : {A : Type 0} (line line' : OpenLine A) (count count' : ℕ) (before : List (List ℕ)) (read bytes : List ℕ) → HoldsBehind line count before read → line'.marker ≡ line.marker
    → HasKept line' count' (read ++ bytes) → HoldsBehind line' count' before (read ++ bytes)
stands-grown line line' count count' before read bytes stands same has = record { marked = subst (λ (m : Marker). HasMarked m before) (sym same) stands.marked; has = has }

-- none of the next line were
pub stands-unread : {A : Type 0} (line : OpenLine A) (count : ℕ) (before : List (List ℕ)) → HasMarked line.marker before → line.line.items ≡ [] → count ≡ 0 → HoldsBehind line count before []
stands-unread line count before marked empty none = record { marked = marked; has = record { counted = none; kept = λ few. empty } }
