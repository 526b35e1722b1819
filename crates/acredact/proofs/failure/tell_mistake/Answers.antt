-- Each mistake by its message.
use Rattle.acredact.proofs.Common.{◌∙◌}
use Rattle.acredact.proofs.failure.tell_mistake.Goals as goal

pub returns-in-UnknownLetter : goal.returns-in-UnknownLetter
returns-in-UnknownLetter g c = record { told = rw c.in-UnknownLetter.is (rw c.before-before.ensures.text at c.tell_named.ensures.told) }

pub returns-in-NoValue : goal.returns-in-NoValue
returns-in-NoValue g c = record { told = rw c.in-NoValue.is (rw (c.as_bytes.ensures.value ∙ c.name_of.ensures.name) at c.tell_misuse-in-NoValue.ensures.told) }
