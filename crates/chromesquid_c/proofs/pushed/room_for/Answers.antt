use Rattle.std.proofs.Common.{◌≡◌, ◌+◌, ℕ, List, [], drop, length, map, max, get_or, ap, arith}
use Rattle.std.specs.Borrow.{Bor}
use Rattle.std.proofs.lemmas.List.{drop_all, drop_more}
use Rattle.aho_core.specs.Laws.{longest}
use Rattle.aho_core.specs.Replacement.{pieces_of}
use Rattle.chromesquid_c.proofs.pushed.room_for.Goals as goal

-- the longest of these
abbrev most_of : List (Bor (List ℕ)) → ℕ
most_of pieces = longest (map length (pieces_of pieces))

pub loop-index-preserved : goal.loop-index-preserved
loop-index-preserved c =
    let pieces = c.args.pieces.now in
    let none : Bor (List ℕ) = record { ref_ptr = (0, 0); now = [] } in
    let next : most_of (drop c.loop-index.index pieces) ≡ max (length (get_or pieces c.loop-index.index none).now) (most_of (drop (c.loop-index.index + 1) pieces)) =
    ap most_of (drop_more pieces c.loop-index.index none c.loop-index-test.true) in
    omega (arith, c.max-most.ensures, next, c.loop-index.invariant)

pub returns : goal.returns
returns c =
    let none : most_of (drop c.loop-index.index c.args.pieces.now) ≡ 0 = ap most_of (drop_all c.loop-index.index c.args.pieces.now c.loop-index-test.false) in
    record { room = omega (arith, none, c.loop-index.invariant) }
