-- A part of the buffer is that part of the stream.
use Rattle.aho_cover.proofs.Copied.{part_held}
use Rattle.aho_cover.proofs.progress.CoverProgress.bytes.Goals as goal

pub returns : goal.returns
returns c = record {
  part = λ haystack given. rw c.buffer-bytes.ensures.bytes (part_held haystack c.args.self.now.buffer.bytes c.args.self.now.read c.args.start c.args.end given.last given.within c.requires.whole c.requires.held c.requires.ordered c.requires.read);
}
