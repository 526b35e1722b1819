-- Whether it is found decides.
use Rattle.secret_forms.proofs.Members.{pushed_held, pushed_fresh}
use Rattle.secret_forms.proofs.listed.push_new.Goals as goal

pub returns-then-is_listed : goal.returns-then-is_listed
returns-then-is_listed c = record {
  new = pushed_held _ _ _ _ _ c.deref.ensures.value c.deref-2.ensures.value c.is_listed.ensures c.if-is_listed.true;
}

pub returns : goal.returns
returns c = record {
  new = pushed_fresh _ _ _ _ _ _ c.deref.ensures.value c.deref-2.ensures.value c.is_listed.ensures c.if-is_listed.false c.in_ok-push.ensures.items;
}
