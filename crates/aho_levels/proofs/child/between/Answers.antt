use Rattle.std.proofs.Common.{◌+◌, ◌-◌, get_or, arith}
use Rattle.aho_levels.proofs.Among.{among-between}
use Rattle.aho_levels.proofs.child.between.Goals.{then-last-byte-2, else-last-byte-2}
use Rattle.aho_levels.proofs.child.between.Goals as goal

pub returns-then-byte-first-2 : goal.returns-then-byte-first-2
returns-then-byte-first-2 c = record {
  among =
      among-between c.args.bytes.now c.requires.rising c.args.byte c.args.count c.if-last-byte-2.low (c.args.byte - get_or c.args.bytes.now 0 0 + 1) c.requires.some c.requires.all
      (omega (arith, c.if-byte-first.false))
      (omega (arith, c.if-last-byte.false))
      (omega (arith, c.if-byte-first-2.true))
      (elim c.if-last-byte-2.branch [
        | then-last-byte-2 w ↦ λ more. omega (arith, w.if-last-byte-2, w.low-is, c.if-last-byte.false)
        | else-last-byte-2 w ↦ λ more. absurd (omega (arith, w.low-is, more))
      ])
      (λ less. omega (arith, c.if-byte-first.false));
}

pub returns-else-byte-first-2 : goal.returns-else-byte-first-2
returns-else-byte-first-2 c = record {
  among =
      among-between c.args.bytes.now c.requires.rising c.args.byte c.args.count c.if-last-byte-2.low c.args.count c.requires.some c.requires.all
      (omega (arith, c.if-byte-first.false))
      (omega (arith, c.if-last-byte.false))
      (omega arith)
      (elim c.if-last-byte-2.branch [
        | then-last-byte-2 w ↦ λ more. omega (arith, w.if-last-byte-2, w.low-is, c.if-last-byte.false)
        | else-last-byte-2 w ↦ λ more. absurd (omega (arith, w.low-is, more))
      ])
      (λ less. absurd (omega (arith, less)));
}
