use Rattle.std.proofs.Common.{sym, ◌∙◌}
use Rattle.aho_prefilter.proofs.HeldPacked.{packed_for-of}
use Rattle.aho_prefilter.proofs.prefilter.packed_builder.PackedBuilder.build.Goals as goal

pub returns-in-Some-clause-of : goal.returns-in-Some-clause-of
returns-in-Some-clause-of c = λ p taken. packed_for-of p c.in-Some.searcher (sym (c.search.ensures.search p taken.fingerprints) ∙ c.in-Some.is)
