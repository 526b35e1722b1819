-- A further part is written, or a beginning of it.
use Rattle.std.proofs.Common.{[], ◌-◌, ◌<◌, ℕ, List, Bor, length, take, drop, subst, arith}
use Rattle.std.proofs.Math.ListN.{get_or}
use Rattle.std.proofs.lemmas.Grind.{common_steps}
use Rattle.std.specs.List.{concat}
use Rattle.aho_core.specs.Replacement.{pieces_of}
use Rattle.tool_parts.proofs.Tellings.{WritesFirst, first-fails, first-more, handed-on, parts-cut}
use Rattle.tool_parts.proofs.parts.write_each.Goals as goal

pub loop-rest-preserved : goal.loop-rest-preserved
loop-rest-preserved g c =
    let rest = c.loop-rest.rest.now in
    let none : Bor (List ℕ) = record { ref_ptr = (0, 0); now = [] } in
    let some : 0 < length rest = grind (arith, common_steps, c.is_empty.ensures, c.loop-rest-test.true) in
    let parts = pieces_of c.args.parts.now in
    let so_far = subst (λ (l : List (List ℕ)). WritesFirst g.S.Sink c.args.sink.now c.loop-rest.sink parts l) (parts-cut rest none some) c.loop-rest.invariant in
    first-more g.S.Sink c.args.sink.now c.loop-rest.sink c.write_whole.new.sink parts (get_or rest 0 none).now (pieces_of (take (length rest - 1) (drop 1 rest))) so_far
    c.in_ok-write_whole.ensures.whole c.in_ok-write_whole.ensures.write_failed c.in_ok-write_whole.ensures.took_nothing

pub returns-in_err-write_whole : goal.returns-in_err-write_whole
returns-in_err-write_whole g c =
    let rest = c.loop-rest.rest.now in
    let none : Bor (List ℕ) = record { ref_ptr = (0, 0); now = [] } in
    let some : 0 < length rest = grind (arith, common_steps, c.is_empty.ensures, c.loop-rest-test.true) in
    let parts = pieces_of c.args.parts.now in
    let so_far = subst (λ (l : List (List ℕ)). WritesFirst g.S.Sink c.args.sink.now c.loop-rest.sink parts l) (parts-cut rest none some) c.loop-rest.invariant in
    record {
      written = handed-on g.S.Sink c.args.sink.now c.write_whole.new.sink (concat parts) c.from_residual.result c.in_err-write_whole.field-0.0 c.from_residual.ensures.1
          (first-fails g.S.Sink c.args.sink.now c.loop-rest.sink c.write_whole.new.sink parts (get_or rest 0 none).now (pieces_of (take (length rest - 1) (drop 1 rest))) c.in_err-write_whole.field-0.0 so_far
          c.in_err-write_whole.ensures.beginning c.in_err-write_whole.ensures.only c.in_err-write_whole.ensures.write_failed c.in_err-write_whole.ensures.took_nothing);
    }
