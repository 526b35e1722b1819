use Rattle.std.proofs.Common.{◌≡◌, subst, arith}
use Rattle.std.proofs.lemmas.Bool.Decides.{nat_tests}
use Rattle.aho_prefilter.specs.PackedHeads.{AreBitsOf}
use Rattle.aho_prefilter.proofs.Blocks.{Nowhere-zero}
use Rattle.aho_prefilter.proofs.packed_heads.PackedHeads.is_bare.Goals as goal

pub returns : goal.returns
returns c = record {
  bare = λ is.
      let none : c.places_met.result ≡ 0 = grind (arith, nat_tests, is) in
      Nowhere-zero c.args.tested c.args.self.now c.args.bytes.now c.args.at (subst (λ n. AreBitsOf c.args.tested c.args.self.now c.args.bytes.now c.args.at n) none c.places_met.ensures.met);
}
