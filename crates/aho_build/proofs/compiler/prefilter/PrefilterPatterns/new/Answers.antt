use Rattle.aho_build.proofs.compiler.prefilter.PrefilterPatterns.new.Goals as goal

pub returns : goal.returns
returns c = record { empty = λ p none rule. (cc (c.if-not-settings.false), c.new-builder.ensures.empty p none rule) }
