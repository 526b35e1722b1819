-- What a walk over further bytes of a stream promises.
use Rattle.std.specs.Prelude.{◌≡◌, ℕ, ◌+◌, ◌≤◌, List, ◌++◌, Option, IfSome, length, take}
use Rattle.aho_core.specs.Laws.{BestAfter, longest, told}
use Rattle.aho_core.specs.Occurrence.{Occurrence}
use Rattle.aho_core.specs.Patterns.{Patterns}
use Rattle.aho_core.specs.declared.search.Anchored.{Anchored}
use Rattle.aho_core.specs.declared.search.Anchored.TheVariants.{No}
use Rattle.aho_core.specs.declared.search.MatchKind.TheVariants.{Standard}
use Rattle.aho_automaton.specs.declared.automaton.Automaton.{Ghosts}
use Rattle.aho_stream.specs.declared.settle.Walked.{Walked}

-- after the word and the bytes that were walked the state is held, and what was found is the best of them. The walk stands at
-- its end under Standard, and else at most one byte farther from its start than the longest pattern is long
pub record WalksOn (p : Patterns) (lengths : List ℕ) (held : Anchored → List ℕ → ℕ → Type 0) (word bytes : List ℕ) (walked : Walked) : Type 0 where
  pub held_is : held No (word ++ take walked.count bytes) walked.sid
  pub best_is : BestAfter p No (word ++ take walked.count bytes) walked.found
  pub near : IfSome walked.found (λ m. length word + walked.count ≤ m.start + longest lengths + 1)
  pub ends : p.kind ≡ Standard → IfSome walked.found (λ m. length word + walked.count ≤ m.end)

-- a state of this automaton that is held after some word of so many bytes
abbrev pub IsHeldAt : {S : Type 0} → Ghosts S → S → ℕ → ℕ → Type 0
IsHeldAt A automaton at sid = (p : Patterns) × (word : List ℕ) × A.is_of automaton p × (length word ≡ at) × A.held automaton p No word sid

-- a walk on from there, whatever the word was of which this is the best match
abbrev pub WalksFrom : {S : Type 0} → Ghosts S → S → ℕ → ℕ → Option Occurrence → List ℕ → Walked → Type 0
WalksFrom A automaton at sid best bytes walked = (p : Patterns) (word : List ℕ) → A.is_of automaton p → length word ≡ at
    → A.held automaton p No word sid → BestAfter p No word best → WalksOn p (A.lengths automaton) (A.held automaton p) word bytes walked

-- the match that a state tells after so many bytes
abbrev pub told_here : {S : Type 0} → Ghosts S → S → ℕ → ℕ → Option Occurrence
told_here A automaton at sid = told (A.lengths automaton) No 0 at (A.list automaton sid)
