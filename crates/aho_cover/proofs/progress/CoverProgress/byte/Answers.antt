-- A byte of the buffer is that byte of the stream.
use Rattle.aho_cover.proofs.Listed.{byte_held}
use Rattle.aho_cover.proofs.progress.CoverProgress.byte.Goals as goal

pub returns : goal.returns
returns c = record {
  byte = λ haystack given. rw c.buffer-bytes.ensures.bytes (byte_held haystack c.args.self.now.buffer.bytes c.args.self.now.read c.args.at given.last given.within c.requires.whole c.requires.held c.requires.read);
}
