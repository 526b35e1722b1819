use Rattle.std.proofs.lemmas.Simd.{get_or-chunk, length-chunk}
use Rattle.aho_prefilter.proofs.packed.load.Goals as goal

pub returns : goal.returns
returns c = record {
  loaded = record { long = length-chunk c.args.at 32 c.args.bytes.now c.requires.within; each = λ k l. get_or-chunk c.args.at 32 c.args.bytes.now k 0 l };
}
