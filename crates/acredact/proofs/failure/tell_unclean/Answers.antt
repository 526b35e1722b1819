-- Each flaw by its text.
use Rattle.acredact.proofs.failure.tell_unclean.Goals as goal

pub returns-in-Empty : goal.returns-in-Empty
returns-in-Empty g c = record { told = rw c.in-Empty.is c.tell_numbered.ensures.told }

pub returns-in-Spells : goal.returns-in-Spells
returns-in-Spells g c = record { told = rw c.in-Spells.is c.tell_with_other.ensures.told }

pub returns-in-Pseudonym : goal.returns-in-Pseudonym
returns-in-Pseudonym g c = record { told = rw c.in-Pseudonym.is c.tell_numbered-in-Pseudonym.ensures.told }
