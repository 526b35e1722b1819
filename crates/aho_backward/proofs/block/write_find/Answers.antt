-- A beginning of the second piece, and before it the first.
use Rattle.std.proofs.Common.{◌+◌, ℕ, List, ◌++◌, length, take, sym, subst, arith}
use Rattle.std.specs.Prelude.{Err, Ok, OnErr, Option, Result}
use Rattle.std.specs.Io.KnownBytes.{Appends}
use Rattle.std.proofs.KnownBytes.{Appends-trans}
use Rattle.std.proofs.lemmas.List.{length-append}
use Rattle.std.proofs.Math.Seq.{take-append-add}
use Rattle.aho_devices.specs.Counts.{AppendsBeginning}
use Rattle.aho_backward.proofs.block.write_find.Goals as goal

behind : (first second third : Option (List ℕ)) (before piece : List ℕ) → Appends first second before → AppendsBeginning second third piece → AppendsBeginning first third (before ++ piece)
behind first second third before piece whole (count, short, some) = (
  length before + count,
  omega (arith, length-append before piece),
  subst (Appends first third) (sym (take-append-add before piece count)) (Appends-trans first second third before (take count piece) whole some),
)

on-err : {T E : Type 0} (r : Result T E) (P Q : Type 0) → (P → Q) → OnErr r P → OnErr r Q
on-err (Ok x) P Q f h = tt
on-err (Err e) P Q f h = f h

pub returns-clause-beginning : goal.returns-clause-beginning
returns-clause-beginning g c =
    on-err c.write_whole-2.result _ _
    (behind (g.K.Sink.taken c.args.sink.now) (g.K.Sink.taken c.write_whole.new.sink) (g.K.Sink.taken c.write_whole-2.new.sink) c.args.before.now c.args.piece.now c.in_ok-write_whole.ensures.whole)
    c.write_whole-2.ensures.beginning
