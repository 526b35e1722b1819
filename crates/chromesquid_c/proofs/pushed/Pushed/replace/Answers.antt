-- The room is long enough for the chunk that is told.
use Rattle.std.proofs.Common.{◌-◌, ◌≤◌, length, map, max, subst, arith}
use Rattle.std.specs.Prelude.{Option}
use Rattle.aho_core.specs.Laws.{longest}
use Rattle.aho_core.specs.Replacement.{pieces_of}
use Rattle.aho_stream.specs.Pushing.{TellsOfGiven}
use Rattle.aho_stream.specs.declared.progress.StreamPiece.{StreamPiece}
use Rattle.chromesquid.specs.contracts.automaton.AhoCorasickAutomaton.TheImpl.{ghosts}
use Rattle.chromesquid_c.proofs.Rooms.{enough-room}
use Rattle.chromesquid_c.proofs.pushed.Pushed.replace.Goals as goal

pub put_chunk-requires : goal.put_chunk-requires
put_chunk-requires c =
    let (p, given, of, before) = c.self.invariant.under_way in
    let s = c.self.inside.progress in
    let t = c.stream_next_chunk.new.progress in
    let after = (rw c.deref-searcher.ensures at c.stream_next_chunk.ensures.after) p given of before in
    let told = (rw c.deref-searcher.ensures at c.stream_next_chunk.ensures.tells) p given of before in
    let tells = subst (λ (piece : Option StreamPiece). TellsOfGiven p s t given piece) c.in-Some.is told in
    let most : max (s.read - s.reported) (longest (map length (pieces_of c.args.replace_with.now))) ≤ length c.args.room.now =
    omega (arith, c.room_for-wanted.ensures.room, c.bytes_untold.ensures.untold, c.if-room-wanted.false) in
    record { enough = enough-room ghosts c.self.inside.searcher.value p s t given c.in-Some.piece c.args.replace_with.now c.args.room.now before after tells most }
