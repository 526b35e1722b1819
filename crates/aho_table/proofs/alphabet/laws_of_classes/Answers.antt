-- The laws of classes.
use Rattle.aho_table.proofs.Classes.{one_class, alone}
use Rattle.aho_table.proofs.alphabet.laws_of_classes.Goals as goal

pub returns : goal.returns
returns c = record {
  one_class = one_class;
  alone = λ borders byte sized. alone borders byte;
}
