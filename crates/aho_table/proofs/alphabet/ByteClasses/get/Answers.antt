-- A byte's class is below the number of them.
use Rattle.std.proofs.Common.{ap, arith}
use Rattle.aho_table.specs.Alphabet.{class_count}
use Rattle.aho_table.specs.Inside.{borders_of}
use Rattle.aho_table.proofs.Classes.{class_of-le, class_count-last, length-borders_of}
use Rattle.aho_table.proofs.alphabet.ByteClasses.get.Goals as goal

pub returns-clause-within : goal.returns-clause-within
returns-clause-within c =
    let borders = borders_of c.self.inside.classes in
    let sized = length-borders_of c.self.inside.classes 255 c.self.invariant.sized in
    omega (arith, ap class_count c.self.view_is, class_count-last borders 255 sized, class_of-le borders c.args.byte 255 (omega arith), c.self.invariant.counted c.args.byte (omega arith))
