-- The forms are those of the bits, and the patterns those of the forms.
use Rattle.std.proofs.Common.{◌∙◌}
use Rattle.chromesquid_c.proofs.Laying.{law-in}
use Rattle.chromesquid_c.proofs.forms.laid_forms.Goals as goal

pub returns-clause-law : goal.returns-clause-law
returns-clause-law c =
    law-in c.args.bits c.args.secret.now _ _ (c.deref.ensures.value ∙ c.in_ok-listed.ensures.set) c.in_ok-patterns.ensures.value c.in_ok-patterns.ensures.law
