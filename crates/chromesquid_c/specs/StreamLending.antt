-- What the loan of a stream behind a handle leaves.
use Rattle.std.specs.Borrow.{Lends, MutBor, Fml}
use Rattle.std.specs.declared.option.Option.TheVariants.{Some}
use Rattle.chromesquid_c.specs.Streaming.{PushedStream}
use Rattle.chromesquid_c.specs.declared.held_stream.HeldStream.{HeldStream}
use Rattle.chromesquid_c.specs.contracts.pushed.Pushed.{the_row as the_pushed}
use Rattle.chromesquid_c.specs.contracts.held_stream.HeldStream.{the_row as the_held}

-- h with this stream
abbrev pub with_stream : HeldStream → PushedStream → HeldStream
with_stream h x = record h { value = Some x }

-- h ends with the last stream behind r
abbrev pub LendsStream : MutBor HeldStream → MutBor PushedStream → Fml
LendsStream h r = Lends the_held the_pushed h r (with_stream h.now)
