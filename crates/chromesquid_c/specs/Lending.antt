use Rattle.std.specs.Borrow.{Lends, MutBor, Fml}
use Rattle.std.specs.declared.option.Option.TheVariants.{Some}
use Rattle.chromesquid_c.specs.declared.inner.Inner.{Inner}
use Rattle.chromesquid_c.specs.declared.held.Held.{Held}
use Rattle.chromesquid_c.specs.contracts.inner.Inner.{the_row as the_inner}
use Rattle.chromesquid_c.specs.contracts.held.Held.{the_row as the_held}

-- h with this value
abbrev pub with_value : Held → Inner → Held
with_value h x = record h { value = Some x }

-- h ends with the last value behind r
abbrev pub LendsInner : MutBor Held → MutBor Inner → Fml
LendsInner h r = Lends the_held the_inner h r (with_value h.now)
