use Rattle.std.proofs.Common.{◌≡◌, ℕ, ◌%◌, List, length, get_or, replicate, ◌∙◌, arith, bit_and}
use Rattle.std.proofs.lemmas.Nat.{and_mask}
use Rattle.std.specs.Simd.Lanes.{zip2}
use Rattle.aho_prefilter.specs.Packed.{HasLanes}
use Rattle.aho_prefilter.proofs.Lanes.{HasLanes-look_up, HasLanes-splat, SwzOk-small}
use Rattle.aho_prefilter.proofs.packed.by_low_half.Goals as goal

low_halves : (bytes : List ℕ) → length bytes ≡ 32 → HasLanes (zip2 bit_and bytes (replicate 32 15)) (λ k. get_or bytes k 0 % 16)
low_halves bytes long =
    let masked = HasLanes-splat bit_and bytes 15 long in
    record { long = masked.long; each = λ k l. masked.each k l ∙ and_mask (get_or bytes k 0) 4 }

pub swizzle : goal.swizzle
swizzle c = SwzOk-small _ _ (low_halves c.args.bytes c.fits-bytes.0) (λ k l. omega arith)

pub returns : goal.returns
returns c = record { held = HasLanes-look_up _ _ (low_halves c.args.bytes c.fits-bytes.0) (λ k l. omega arith) c.args.table.now c.twice.result c.twice.ensures.held }
