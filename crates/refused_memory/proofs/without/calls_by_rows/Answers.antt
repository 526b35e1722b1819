-- The rows are of the patterns that the `NFA` is of.
use Rattle.refused_memory.proofs.without.calls_by_rows.Goals as goal

pub calls_of-requires : goal.calls_of-requires
calls_of-requires g c =
    let of = c.requires.of in
    record { of = (of.0, c.in-Ok.ensures.of of.0 of.1) }
