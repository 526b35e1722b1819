use Rattle.std.proofs.Common.{◌≡◌, ℕ, ◌-◌, ◌*◌, ◌/◌, ◌≤◌, length, arith}
use Rattle.std.proofs.lemmas.Nat.{div-add-mod'}
use Rattle.aho_prefilter.specs.PackedHeads.{MayStartAt}
use Rattle.aho_prefilter.proofs.Copied.{IsFirst-may_start, Nowhere-may_start}
use Rattle.aho_prefilter.proofs.Firsts.{first_after}
use Rattle.aho_prefilter.proofs.packed_heads.PackedHeads.find.Goals as goal

-- so many blocks stand within
within : (room left : ℕ) → left ≡ room → left / 32 * 32 ≤ room
within room left is = omega (arith, is, div-add-mod' left 32)

pub returns-in-Some : goal.returns-in-Some
returns-in-Some c = record {
  first = IsFirst-may_start c.args.self.now c.args.bytes.now _ (omega (arith, c.size-size.ensures.size, c.size-size.ensures.short)) (within (length c.args.bytes.now - 15) c.saturating_sub-blocks.result c.saturating_sub-blocks.ensures) c.in-Some.place c.in-Some.ensures.first;
}

pub returns-in-None : goal.returns-in-None
returns-in-None c = record {
  first = first_after (MayStartAt c.args.self.now c.args.bytes.now) 0 _ (length c.args.bytes.now) c.find_in_end.result (omega arith)
      (Nowhere-may_start c.args.self.now c.args.bytes.now _ (omega (arith, c.size-size.ensures.size, c.size-size.ensures.short)) (within (length c.args.bytes.now - 15) c.saturating_sub-blocks.result c.saturating_sub-blocks.ensures) c.in-None.ensures.first)
      c.find_in_end.ensures.first;
}
