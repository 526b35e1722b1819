use Rattle.std.proofs.Common.{◌∙◌, sym, ap, arith}
use Rattle.aho_core.specs.Replacement.{pieces_of}
use Rattle.aho_prefilter.specs.Sizes.{heads_for, shape_of}
use Rattle.aho_prefilter.proofs.HeldStrided.{heads-sized, least_head-each, least_head-few}
use Rattle.aho_prefilter.proofs.prefilter.quickest.packed_heads_for.Goals as goal

pub new-search-requires-clause-short : goal.new-search-requires-clause-short
new-search-requires-clause-short c =
    let words = pieces_of c.args.patterns.now in
    let found = sym (ap heads_for c.requires.shape) ∙ sym c.heads.ensures.heads ∙ c.in-Some.is in
    omega (arith, (heads-sized (shape_of c.args.ignore_case words) c.in-Some.size found).0, least_head-few words)

pub new-search-requires-clause-long : goal.new-search-requires-clause-long
new-search-requires-clause-long c = λ k below.
    let words = pieces_of c.args.patterns.now in
    let found = sym (ap heads_for c.requires.shape) ∙ sym c.heads.ensures.heads ∙ c.in-Some.is in
    omega (arith, (heads-sized (shape_of c.args.ignore_case words) c.in-Some.size found).0, least_head-each words k below)
