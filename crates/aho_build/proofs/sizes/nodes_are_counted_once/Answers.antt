use Rattle.aho_build.proofs.EachNode.{nodes-members, nodes-once}
use Rattle.aho_build.proofs.sizes.nodes_are_counted_once.Goals as goal

pub returns-clause-members : goal.returns-clause-members
returns-clause-members c = λ p word. nodes-members p word

pub returns-clause-once : goal.returns-clause-once
returns-clause-once c = λ p. nodes-once p
