-- The last byte is of the last class.
use Rattle.std.proofs.Common.{ap, arith}
use Rattle.aho_table.specs.Alphabet.{class_count}
use Rattle.aho_table.specs.Inside.{borders_of}
use Rattle.aho_table.proofs.Classes.{class_count-last, length-borders_of}
use Rattle.aho_table.proofs.alphabet.ByteClasses.alphabet_len.Goals as goal

pub returns-clause-len : goal.returns-clause-len
returns-clause-len c =
    let sized = length-borders_of c.self.inside.classes 255 c.self.invariant.sized in
    omega (arith, ap class_count c.self.view_is, class_count-last (borders_of c.self.inside.classes) 255 sized, c.self.invariant.counted 255 (omega arith))
