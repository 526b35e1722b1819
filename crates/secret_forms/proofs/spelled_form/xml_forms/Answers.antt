-- The encoders are those that the law names.
use Rattle.secret_forms.proofs.spelled_form.xml_forms.Goals as goal

pub returns-clause-law : goal.returns-clause-law
returns-clause-law c = rw c.xml_encoders.ensures at c.spelled_forms.ensures.law
