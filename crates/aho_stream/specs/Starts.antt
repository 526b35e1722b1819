-- What a search of a stream that has not begun is seen as.
use Rattle.std.specs.Prelude.{[]}
use Rattle.aho_core.specs.Patterns.{Patterns}
use Rattle.aho_automaton.specs.declared.automaton.Automaton.{Ghosts}
use Rattle.aho_stream.specs.After.{IsAfter}
use Rattle.aho_stream.specs.declared.start.StreamStart.{StreamStart}

-- whatever patterns its automaton is of, nothing was given and nothing looked up
abbrev pub IsFreshStart : {A : Type 0} → Ghosts A → StreamStart A → Type 0
IsFreshStart G start = (p : Patterns) → G.is_of start.automaton.now p → IsAfter G start.automaton.now p 0 start.progress []
