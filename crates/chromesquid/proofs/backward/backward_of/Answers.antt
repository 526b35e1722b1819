-- A walk that is made is of the patterns; else it is not worth it, or none is made.
use Rattle.std.proofs.Common.{inl, inr, refl}
use Rattle.aho_build.specs.Items.{patterns_of}
use Rattle.chromesquid.proofs.Held.{none_held, not_made}
use Rattle.chromesquid.proofs.backward.backward_of.Goals as goal

pub returns-then-not-is_worth_it-clause-worth : goal.returns-then-not-is_worth_it-clause-worth
returns-then-not-is_worth_it-clause-worth c = λ told. inr (inl (c.if-not-is_worth_it.ensures.worth (patterns_of c.args.settings.now c.args.patterns.now) c.requires.of refl))

pub returns-in-Err-clause-of : goal.returns-in-Err-clause-of
returns-in-Err-clause-of c = none_held (patterns_of c.args.settings.now c.args.patterns.now) c.none_for.result c.none_for.ensures.none

pub returns-in-Err-clause-worth : goal.returns-in-Err-clause-worth
returns-in-Err-clause-worth c = λ told.
    not_made (patterns_of c.args.settings.now c.args.patterns.now) c.in-Err.error c.in-Err.ensures.refused c.none_for.result (c.none_for.ensures.other told)
