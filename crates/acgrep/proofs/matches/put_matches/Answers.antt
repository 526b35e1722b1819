-- The matches that fit are written.
use Rattle.acgrep.proofs.matches.put_matches.Goals as goal

pub returns-in-AnyPart : goal.returns-in-AnyPart
returns-in-AnyPart g c = record { written = rw c.in-AnyPart.is c.put_finds.ensures.written }

pub returns-in-WholeWord : goal.returns-in-WholeWord
returns-in-WholeWord g c = record { written = rw c.in-WholeWord.is c.put_alone.ensures.written }

pub returns-in-WholeLine : goal.returns-in-WholeLine
returns-in-WholeLine g c = record { written = rw c.in-WholeLine.is c.put_whole.ensures.written }
