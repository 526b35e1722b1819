use Rattle.std.proofs.Common.{◌≡◌, ℕ, List, length, ap, ◌∙◌, bit_or, arith}
use Rattle.std.proofs.lemmas.Simd.{zip2_splat}
use Rattle.aho_prefilter.specs.declared.packed.Masks.{Masks}
use Rattle.aho_prefilter.proofs.packed.Masks.add_all.Goals as goal

joined : (a b x y : List ℕ) → a ≡ x → b ≡ y → ◌≡◌ {A = Masks} (record { low = a; high = b }) (record { low = x; high = y })
joined a b x y low high =
    ap (λ (l : List ℕ). record { low = l; high = b }) low ∙ ap (λ (h : List ℕ). record { low = x; high = h }) high

pub returns : goal.returns
returns c =
    let groups = c.args.groups in
    let low : length c.args.self.now.low ≡ 16 = omega arith in
    let high : length c.args.self.now.high ≡ 16 = omega arith in
    record { added = joined _ _ _ _ (zip2_splat bit_or c.args.self.now.low 16 groups low) (zip2_splat bit_or c.args.self.now.high 16 groups high) }
