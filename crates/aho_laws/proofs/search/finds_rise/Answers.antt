use Rattle.std.proofs.Common.{None}
use Rattle.aho_laws.proofs.Iterations.{finds-exist, finds-listed, finds-occur, finds-unique}
use Rattle.aho_laws.proofs.search.finds_rise.Goals as goal

pub returns-clause-rising : goal.returns-clause-rising
returns-clause-rising c = λ p search ms h. finds-listed p ms search None h

pub returns-clause-occur : goal.returns-clause-occur
returns-clause-occur c = λ p search ms m h in_ms. finds-occur p ms search None m h in_ms

pub returns-clause-unique : goal.returns-clause-unique
returns-clause-unique c = λ p search ms ns h k. finds-unique p ms ns search None h k

pub returns-clause-exists : goal.returns-clause-exists
returns-clause-exists c = λ p search within. finds-exist p search None within
