-- Where memory runs out nothing was read or written.
use Rattle.aho_core.specs.declared.error.stream.StreamError.TheVariants.{Memory}
use Rattle.aho_core.specs.Replacement.{pieces_of}
use Rattle.aho_stream.specs.After.{greatest_position}
use Rattle.aho_backward.proofs.Streaming.{err-given, four-none, leaves-none}
use Rattle.aho_backward.proofs.stream.stream_replace_in.Goals as goal

pub returns-in_err-buffer-clause-leaves : goal.returns-in_err-buffer-clause-leaves
returns-in_err-buffer-clause-leaves g c =
    rw (err-given c.from_residual.result Memory c.from_residual.ensures.1) (leaves-none g.R.Source g.K.Sink _ (pieces_of c.args.replace_with.now) c.args.source.now c.args.sink.now greatest_position)

pub returns-in_err-states-clause-leaves : goal.returns-in_err-states-clause-leaves
returns-in_err-states-clause-leaves g c =
    rw (err-given c.from_residual-in_err-states.result Memory c.from_residual-in_err-states.ensures.1) (leaves-none g.R.Source g.K.Sink _ (pieces_of c.args.replace_with.now) c.args.source.now c.args.sink.now greatest_position)

pub returns-in_err-states-clause-four_look_ups_a_byte : goal.returns-in_err-states-clause-four_look_ups_a_byte
returns-in_err-states-clause-four_look_ups_a_byte g c = four-none g.R.Source c.args.source.now (g.W.Walk.lookups c.args.walk.now)
