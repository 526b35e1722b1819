use Rattle.std.proofs.Common.{◌<◌, arith}
use Rattle.aho_hybrid.specs.Reading.{next-paid}
use Rattle.aho_hybrid.proofs.rows.Rows.step.Goals as goal

-- the look-ups of a step are paid by the depth of its state
pub add_looks-requires : goal.add_looks-requires
add_looks-requires c =
    let t = c.args.self.now in
    let small : c.args.byte < 256 = omega arith in
    let paid = next-paid t c.requires.sound c.args.sid c.args.byte small c.requires.state in
    record { room = omega (arith, paid, c.deep_step-next.ensures.counted, c.new-looks.ensures.none, c.count.ensures, c.requires.room) }
