-- Nothing is there at first.
use Rattle.std.proofs.Common.{ap}
use Rattle.acgrep.specs.Binary.{is_text}
use Rattle.acgrep.proofs.stream.search_front.Goals as goal

pub search_behind-requires-clause-text : goal.search_behind-requires-clause-text
search_behind-requires-clause-text g c = λ asked. ap is_text c.clear.ensures.bytes

pub returns-clause-front : goal.returns-clause-front
returns-clause-front g c = λ p is plain. rw c.clear.ensures.bytes at c.search_behind.ensures.front p is plain

pub returns-clause-begun : goal.returns-clause-begun
returns-clause-begun g c = λ p is plain. rw c.clear.ensures.bytes at c.search_behind.ensures.begun p is plain
