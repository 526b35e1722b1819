use Rattle.std.proofs.Common.{List, ℕ, subst, ◌∙◌}
use Rattle.memchr.specs.Find.{FindsNeedle}
use Rattle.aho_prefilter.proofs.prefilter.needle.Needle.find.Goals as goal

pub returns : goal.returns
returns c = record { first = subst (λ (needle : List ℕ). FindsNeedle c.args.part.now needle 0 c.find.result) (c.deref.ensures.value ∙ c.self.view_is) c.find.ensures }
