use Rattle.std.proofs.Common.{◌≡◌, ◌≢◌, ◌↔◌, ℕ, not, eqb, get_or, sym, subst, arith, w8}
use Rattle.std.proofs.lemmas.Simd.{bitmask_splat}
use Rattle.std.specs.Int.{bit_at}
use Rattle.aho_prefilter.proofs.Lanes.{bit_at-met}
use Rattle.aho_prefilter.proofs.packed.lanes_met.Goals as goal

pub returns : goal.returns
returns c = record {
  met = λ k.
      let groups = c.args.groups in
      subst (λ (m : ℕ). (bit_at m k ≡ 1) ↔ (get_or groups k 0 ≢ 0)) (sym (bitmask_splat w8 (λ a b. not (eqb a b)) groups 32 0 c.fits-groups.0 (omega arith))) (bit_at-met groups k);
}
