-- Of which patterns a searcher by a walk backward is, and where one is held.
use Rattle.std.specs.Prelude.{◌≡◌, ◌⊎◌, Bool, IfSome, IsSome, Option, false, true}
use Rattle.aho_core.specs.Patterns.{Patterns}
use Rattle.aho_core.specs.declared.error.BuildError.TheVariants.{OutOfMemory, PatternIDOverflow, PatternTooLong, StateIDOverflow}
use Rattle.aho_backward.specs.Making.{MakesNone}
use Rattle.aho_backward.specs.Overhang.{IsAbove}
use Rattle.aho_backward.specs.Searcher.{IsBackwardOf}
use Rattle.aho_backward.specs.declared.backward.Backward.{Backward}
use Rattle.aho_backward.specs.declared.error.BackwardError.{BackwardError}
use Rattle.aho_backward.specs.declared.error.BackwardError.TheVariants.{Build, EmptyPattern, StandardKind}
use Rattle.aho_backward.specs.declared.overhang.TheConstants.{WORTH}
use Rattle.aho_corasick.specs.contracts.noncontiguous.NFAAutomaton.TheImpl.{ghosts as of_nfa}
use Rattle.aho_corasick.specs.declared.noncontiguous.NFA.{NFA}

-- it gives the finds of these patterns
abbrev pub IsBackwardFor : Backward NFA → Patterns → Type 0
IsBackwardFor searcher p = IsBackwardOf of_nfa searcher p

-- one that is held gives the finds of these patterns
abbrev pub IsHeldFor : Patterns → Option (Backward NFA) → Type 0
IsHeldFor p held = IfSome held (λ backward. IsBackwardFor backward p)

-- whether it was memory that was wanted
abbrev pub wants_memory : BackwardError → Bool
wants_memory StandardKind = false
wants_memory (EmptyPattern number) = false
wants_memory (Build OutOfMemory) = true
wants_memory (Build (StateIDOverflow max requested)) = false
wants_memory (Build (PatternIDOverflow max requested)) = false
wants_memory (Build (PatternTooLong pattern len max)) = false

-- none is made of these patterns for a reason that is not memory
pub record IsNotMade (p : Patterns) : Type 0 where
  pub reason : BackwardError
  pub none : MakesNone p reason
  pub other : wants_memory reason ≡ false

-- one is held, or it is not worth it, or none can be made
abbrev pub HoldsIfWorth : Patterns → Option (Backward NFA) → Type 0
HoldsIfWorth p held = IsSome held ⊎ IsAbove WORTH p false ⊎ IsNotMade p
