-- The searcher's automaton is the one that is walked.
use Rattle.aho_core.specs.Replacement.{pieces_of}
use Rattle.aho_stream.specs.After.{greatest_position}
use Rattle.aho_backward.specs.Searcher.{IsBackwardOf}
use Rattle.aho_backward.proofs.Streaming.{leaves-through}
use Rattle.aho_backward.proofs.backward.Backward.try_stream_replace_all.Goals as goal

pub returns-clause-leaves : goal.returns-clause-leaves
returns-clause-leaves g c =
    let leaves = rw (c.new-walk.ensures.of, c.deref.ensures.value) at c.stream_replace_in.ensures.leaves in
    leaves-through g.R.Source g.W.Sink _ (IsBackwardOf g.A.Automaton c.args.self.now) (λ p of. of.turned_from) (pieces_of c.args.replace_with.now) _ _ _ _ greatest_position _ leaves
