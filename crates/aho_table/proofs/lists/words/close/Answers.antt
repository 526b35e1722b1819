-- Where room was behind the last pattern, a word stands.
use Rattle.std.proofs.Common.{◌≤◌, List, ℕ, ap, arith}
use Rattle.aho_table.specs.Words.{room, word_at}
use Rattle.aho_table.proofs.Results.{OnOk-more}
use Rattle.aho_table.proofs.Closed.{IsClosed-put}
use Rattle.aho_table.proofs.lists.words.close.Goals as goal

pub returns-clause-closed : goal.returns-clause-closed
returns-clause-closed c =
    let old = c.args.words.now.items in
    let free : room ≤ word_at old c.args.end = omega (arith, c.if-word_at-lt-ROOM.false, c.word_at.ensures.word, ap (λ (ws : List ℕ). word_at ws c.args.end) c.deref.ensures.value) in
    OnOk-more c.put.result (IsClosed-put old c.put.new.words.items c.args.list c.args.end c.requires.end free) c.put.ensures.put
