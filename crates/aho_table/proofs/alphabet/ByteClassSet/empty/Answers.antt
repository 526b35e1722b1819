-- No border is set.
use Rattle.std.proofs.Common.{refl}
use Rattle.aho_table.specs.Alphabet.{no_borders}
use Rattle.aho_table.proofs.alphabet.ByteClassSet.empty.Goals as goal

pub returns : goal.returns
unfolding no_borders
returns c = record { empty = refl }
