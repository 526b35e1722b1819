use Rattle.std.proofs.Common.{◌≡◌, ℕ, ◌/◌, ◌%◌, ◌^◌, List, length, get_or, replicate, arith, w8, Fits, ◌∙◌}
use Rattle.std.proofs.lemmas.Simd.{Each1-get_or}
use Rattle.std.specs.Simd.Lanes.{Each1, zip2}
use Rattle.aho_prefilter.specs.Packed.{HasLanes}
use Rattle.aho_prefilter.proofs.Lanes.{HasLanes-look_up, HasLanes-splat, SwzOk-small}
use Rattle.aho_prefilter.proofs.packed.by_high_half.Goals as goal

-- the vector that is shifted holds the high halves
high_halves : (bytes : List ℕ) → length bytes ≡ 32 → Each1 (Fits w8) bytes → HasLanes (zip2 (λ a b. a / 2 ^ b) bytes (replicate 32 4)) (λ k. get_or bytes k 0 / 16 % 16)
high_halves bytes long fits =
    let lanes = HasLanes-splat (λ a b. a / 2 ^ b) bytes 4 long in
    record {
      long = lanes.long;
      each = λ k l. lanes.each k l ∙ omega (arith, (Each1-get_or (Fits w8) bytes k 0 (omega arith) fits).fits);
    }

pub swizzle : goal.swizzle
swizzle c = SwzOk-small _ _ (high_halves c.args.bytes c.fits-bytes.0 c.fits-bytes.1) (λ k l. omega arith)

pub returns : goal.returns
returns c = record { held = HasLanes-look_up _ _ (high_halves c.args.bytes c.fits-bytes.0 c.fits-bytes.1) (λ k l. omega arith) c.args.table.now c.twice.result c.twice.ensures.held }
