use Rattle.std.proofs.Common.{◌≡◌, ◌+◌, ◌-◌, ◌*◌, length, get_or, refl, inl, inr, arith}
use Rattle.std.proofs.lemmas.List.{get_or_read_under}
use Rattle.aho_hybrid.proofs.Among.{among-between, none-above, none-below}
use Rattle.aho_hybrid.proofs.rows.between.Goals.{then-last-byte-2, else-last-byte-2}
use Rattle.aho_hybrid.proofs.rows.between.Goals as goal

pub returns-then-byte-first : goal.returns-then-byte-first
returns-then-byte-first c =
    let moves = c.args.moves.now in
    let some = c.requires.some in
    let all = c.requires.all in
    let first : c.index-moves-0.result ≡ get_or moves (2 * 0) 0 =
    get_or_read_under moves 0 (length moves) c.index-moves-0.result 0 c.index-moves-0.is (omega (arith, some, all)) refl in
    let last : c.index-moves-count.result ≡ get_or moves (2 * (c.args.count - 1)) 0 =
    get_or_read_under moves (2 * (c.args.count - 1)) (length moves) c.index-moves-count.result 0 c.index-moves-count.is (omega (arith, some, all)) refl in
    elim c.then-byte-first.either [
      | inl below ↦ record { among = none-below moves c.requires.rising c.args.byte (omega (arith, below, first, c.as_usize-first.ensures.value)) }
      | inr above ↦
          record {
            among =
                none-above moves c.requires.rising c.args.byte c.args.count some (omega (arith, all)) (omega (arith, all))
                (omega (arith, above.1, last, c.as_usize-last.ensures.value));
          }
    ]

pub returns-then-byte-first-2 : goal.returns-then-byte-first-2
returns-then-byte-first-2 c =
    let moves = c.args.moves.now in
    let some = c.requires.some in
    let all = c.requires.all in
    let first : c.index-moves-0.result ≡ get_or moves (2 * 0) 0 =
    get_or_read_under moves 0 (length moves) c.index-moves-0.result 0 c.index-moves-0.is (omega (arith, some, all)) refl in
    let last : c.index-moves-count.result ≡ get_or moves (2 * (c.args.count - 1)) 0 =
    get_or_read_under moves (2 * (c.args.count - 1)) (length moves) c.index-moves-count.result 0 c.index-moves-count.is (omega (arith, some, all)) refl in
    record {
      among =
          among-between moves c.requires.rising c.args.byte c.args.count c.if-last-byte-2.low (c.args.byte - c.as_usize-first.result + 1) some (omega (arith, all)) (omega (arith, all))
          (omega (arith, first, c.as_usize-first.ensures.value, c.if-byte-first.false))
          (omega (arith, last, c.as_usize-last.ensures.value, c.if-last-byte.false))
          (omega (arith, c.if-byte-first-2.true))
          (elim c.if-last-byte-2.branch [
            | then-last-byte-2 w ↦ λ more. omega (arith, w.if-last-byte-2, w.low-is, last, c.as_usize-last.ensures.value, c.if-last-byte.false)
            | else-last-byte-2 w ↦ λ more. absurd (omega (arith, w.low-is, more))
          ])
          (λ less. omega (arith, first, c.as_usize-first.ensures.value, c.if-byte-first.false));
    }

pub returns-else-byte-first-2 : goal.returns-else-byte-first-2
returns-else-byte-first-2 c =
    let moves = c.args.moves.now in
    let some = c.requires.some in
    let all = c.requires.all in
    let first : c.index-moves-0.result ≡ get_or moves (2 * 0) 0 =
    get_or_read_under moves 0 (length moves) c.index-moves-0.result 0 c.index-moves-0.is (omega (arith, some, all)) refl in
    let last : c.index-moves-count.result ≡ get_or moves (2 * (c.args.count - 1)) 0 =
    get_or_read_under moves (2 * (c.args.count - 1)) (length moves) c.index-moves-count.result 0 c.index-moves-count.is (omega (arith, some, all)) refl in
    record {
      among =
          among-between moves c.requires.rising c.args.byte c.args.count c.if-last-byte-2.low c.args.count some (omega (arith, all)) (omega (arith, all))
          (omega (arith, first, c.as_usize-first.ensures.value, c.if-byte-first.false))
          (omega (arith, last, c.as_usize-last.ensures.value, c.if-last-byte.false))
          (omega arith)
          (elim c.if-last-byte-2.branch [
            | then-last-byte-2 w ↦ λ more. omega (arith, w.if-last-byte-2, w.low-is, last, c.as_usize-last.ensures.value, c.if-last-byte.false)
            | else-last-byte-2 w ↦ λ more. absurd (omega (arith, w.low-is, more))
          ])
          (λ less. absurd (omega (arith, less)));
    }
