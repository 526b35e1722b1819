-- The input is looked at from its beginning.
use Rattle.acredact.proofs.Common.{ap, sought}
use Rattle.acredact.proofs.Looks.{looked_stream}
use Rattle.acredact.proofs.OneFile.{begun_writing}
use Rattle.acredact.proofs.looker.ByPatternsLooker.look.Goals as goal

pub counts_by-requires : goal.counts_by-requires
counts_by-requires g c = record { ready = c.requires.ready.1.can }

pub look_of-requires : goal.look_of-requires
look_of-requires g c =
    let can = c.requires.ready.1.can in
    record { ends = (c.counts_by.ensures.looks can.patterns can.of).only }

pub returns-clause-looks : goal.returns-clause-looks
returns-clause-looks g c =
    let left = ap (λ device. g.I.Read.remaining device.reader) c.restart.ensures.device in
    λ s by. rw by.is (begun_writing _ _ _ _ left c.restart.ensures.empty_reads c.counts_by.new.source.ended (looked_stream _ c.args._name.now _ c.counts_by.result c.look_of.result (c.look_of.ensures.so (sought by.can.patterns c.args.self.now.words) c.args._name.now) (c.counts_by.ensures.looks by.can.patterns by.can.of)))
