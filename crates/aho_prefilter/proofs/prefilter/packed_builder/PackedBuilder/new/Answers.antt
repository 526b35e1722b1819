use Rattle.aho_prefilter.proofs.prefilter.packed_builder.PackedBuilder.new.Goals as goal

pub returns : goal.returns
returns c = record { empty = λ p none rule. record { others = c.new.ensures.empty p none rule; fingerprints = c.new-2.ensures.empty p none rule } }
