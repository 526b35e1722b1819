use Rattle.std.proofs.Common.{ℕ, List, ◌++◌, length, refl, ap, subst, arith}
use Rattle.aho_cover.proofs.Written.{if_ok}
use Rattle.secret_rules.proofs.Reading.{bytes-kept, read-fed, read-kept, read-over}
use Rattle.secret_rules.proofs.open_line.OpenLine.add.Goals as goal

pub returns-then-self-clause-read : goal.returns-then-self-clause-read
returns-then-self-clause-read g c = λ read has.
    read-fed g.P.Pieces c.args.self.now c.args.self.now c.args.pieces.now c.feed.new.self read c.args.bytes.now has refl c.if-self.true c.if-self.true c.feed.ensures.more

pub returns-then-bytes-room-clause-read : goal.returns-then-bytes-room-clause-read
returns-then-bytes-room-clause-read g c = λ read has.
    let items = c.as_slice-line.ensures.value in
    read-over g.P.Pieces c.args.self.now _ c.args.pieces.now c.feed_both.new.pieces read c.args.bytes.now has refl c.if-self.false refl
    (omega (arith, c.if-bytes-room.true, c.saturating_sub-room.ensures, ap length items))
    (subst (λ (xs : List ℕ). g.P.Pieces.holds c.feed_both.new.pieces (xs ++ c.args.bytes.now)) items c.feed_both.ensures.fed)

pub returns-clause-read : goal.returns-clause-read
returns-clause-read g c = λ read has.
    let kept = has.kept c.if-self.false in
    if_ok c.extend_from_slice.result _ _
    (λ items. read-kept g.P.Pieces c.args.self.now (record c.args.self.now { line = c.extend_from_slice.new.self }) c.args.pieces.now c.args.pieces.now read c.args.bytes.now has refl c.if-self.false c.if-self.false
    (omega (arith, c.if-bytes-room.false, c.saturating_sub-room.ensures, ap length c.as_slice-line.ensures.value, ap length kept.0, kept.1)) items)
    (bytes-kept c.extend_from_slice.result c.args.self.now.line.items c.args.bytes.now c.extend_from_slice.new.self.items c.extend_from_slice.ensures.items)
