-- One run more.
use Rattle.acgrep.proofs.Common.{Appends-trans, Occurrence, common_steps, get_or}
use Rattle.std.proofs.Common.{◌++◌, ◌+◌, ◌<◌, ◌≡◌, List, arith, length, take, ℕ}
use Rattle.std.specs.List.{flat_map}
use Rattle.acgrep.proofs.marking.put_marked.Goals as goal

one_more : (f : Occurrence → List ℕ) (runs : List Occurrence) (i : ℕ) (run : Occurrence) → i < length runs → run ≡ get_or runs i run → flat_map f (take (i + 1) runs) ≡ flat_map f (take i runs) ++ f run
one_more f runs i run inside is = grind (arith, common_steps)

pub loop-found-preserved : goal.loop-found-preserved
loop-found-preserved g c =
    rw (one_more _ c.args.runs.now c.loop-found.found-index c.found-item.result c.loop-found-test.true c.found-item.is) (Appends-trans _ _ _ _ _ c.loop-found.invariant c.in_ok-put_ruled_object-in-Objects.ensures.written)
