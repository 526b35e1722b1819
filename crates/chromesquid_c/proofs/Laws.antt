-- The states of a searcher keep the laws of an automaton of its patterns.
use Rattle.aho_core.specs.Patterns.{Patterns}
use Rattle.chromesquid.specs.Searcher.{IsBuiltFrom, Searcher}
use Rattle.chromesquid.specs.contracts.automaton.AhoCorasickAutomaton.TheImpl.Laws.{laws-law}
use Rattle.chromesquid_c.specs.States.{TellsByStates}

pub tells_by_states : (searcher : Searcher) (p : Patterns) → IsBuiltFrom searcher p → TellsByStates searcher p
tells_by_states searcher p built = laws-law searcher p built
