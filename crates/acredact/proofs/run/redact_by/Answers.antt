-- What stands for the searcher redacts as it does, and a walk backward is by its patterns.
use Rattle.acredact.proofs.Standing.{redact_as}
use Rattle.acredact.proofs.run.redact_by.Goals as goal

pub redact_files-requires : goal.redact_files-requires
redact_files-requires g c =
    let ready = c.requires.ready in
    record { ready = redact_as _ _ _ c.itself.ensures.stands _ _ ready; both = (ready.patterns, c.itself.ensures.stands.of ready.patterns ready.of, c.backward-back.ensures.of ready.patterns ready.of) }

pub returns-then-is_some : goal.returns-then-is_some
returns-then-is_some g c = record { done = λ p of. c.redact_files.ensures p (c.itself.ensures.stands.of p of) (c.backward-back.ensures.of p of) }

pub returns-in-Some-levels : goal.returns-in-Some-levels
returns-in-Some-levels g c = record { done = λ p of. c.redact_files-in-Some-levels.ensures p (c.in-Some-levels.ensures.stands.of p of) (c.backward-back.ensures.of p of) }
