use Rattle.chromesquid.proofs.prefilters.prefilter_of.Goals as goal

pub returns-in-Ok-clause-of : goal.returns-in-Ok-clause-of
returns-in-Ok-clause-of c = c.in-Ok.ensures.of c.args.settings.now.kind
