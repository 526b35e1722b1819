-- What a read gave stands behind what was read before; where it is nothing, that is all.
use Rattle.std.proofs.Common.{◌++◌, ◌<◌, ◌≡◌, arith, length, rules, take}
use Rattle.acgrep.proofs.FolderTexts.{text_more, text_whole}
use Rattle.acgrep.proofs.folders.read_names.Goals as goal

pub returns-then-count-eq0 : goal.returns-then-count-eq0
returns-then-count-eq0 g c =
    let done = c.in_ok-count.ensures in
    let some : 0 < length c.read.new.buf = omega (arith, c.read.auto.buf, c.loop.invariant.room) in
    record { whole = text_whole _ _ _ c.loop.text.items c.read.new.buf c.in_ok-count.count c.if-count-eq0.true c.loop.invariant.read done.bytes.0 (done.bytes.1 c.if-count-eq0.true some) }

pub loop-preserved : goal.loop-preserved
loop-preserved g c =
    let done = c.in_ok-count.ensures in
    let grown : c.extend_from_slice.new.self.items ≡ c.loop.text.items ++ take c.in_ok-count.count c.read.new.buf = search rules in
    record {
      read = text_more _ _ _ c.loop.text.items c.read.new.buf c.in_ok-count.count c.extend_from_slice.new.self.items c.loop.invariant.read done.bytes.0 grown;
      room = omega (arith, c.read.auto.buf, c.loop.invariant.room);
    }
