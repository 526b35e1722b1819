-- One argument more is set apart.
use Rattle.acredact.proofs.Common.{ap, bytes_of_names}
use Rattle.acredact.proofs.apart.set_apart.Goals as goal

pub loop-argument-preserved : goal.loop-argument-preserved
loop-argument-preserved c = λ all comes.
    (rw (ap bytes_of_names c.in-Some.ensures.cases.0) at c.loop-argument.invariant) all
    (rw c.as_slice.ensures.value at c.in_ok-next.ensures.puts (bytes_of_names c.in-Some.behind.now) all (rw c.in-Some-2.is comes))
