use Rattle.std.proofs.Common.{◌+◌, ◌-◌, ◌<◌, ◌≤◌, length, arith}
use Rattle.std.proofs.lemmas.Nat.{div-add-mod'}
use Rattle.aho_prefilter.proofs.Copied.{IsFirst-original, Nowhere-original}
use Rattle.aho_prefilter.proofs.packed_heads.PackedHeads.find_in_rest.Goals as goal

pub returns-in-Some : goal.returns-in-Some
returns-in-Some c =
    let fits : c.in-Some.place + c.args.size ≤ length c.args.bytes.now - c.args.from = c.if-place-size.true in
    record {
      first = IsFirst-original c.args.self.now c.args.bytes.now c.padded-rest.result c.args.from c.padded-rest.ensures.same c.in-Some.place _ c.in-Some.ensures.first
          (omega (arith, fits, c.requires.size, c.requires.some)) (omega (arith, c.requires.size, c.requires.some));
    }

pub returns-in_default : goal.returns-in_default
returns-in_default c =
    let few : length c.args.bytes.now - c.args.from < c.in-Some.place + c.args.size = c.if-place-size.false in
    record {
      first = Nowhere-original c.args.self.now c.args.bytes.now c.padded-rest.result c.args.from c.padded-rest.ensures.same c.in-Some.place c.in-Some.ensures.first.0.before
          (omega (arith, few, c.requires.size));
    }

pub returns-in_default-2 : goal.returns-in_default-2
returns-in_default-2 c = record {
  first = Nowhere-original c.args.self.now c.args.bytes.now c.padded-rest.result c.args.from c.padded-rest.ensures.same _ c.in_default.ensures.first
      (omega (arith, c.requires.size, div-add-mod' (length c.args.bytes.now - c.args.from - c.args.size) 32));
}
