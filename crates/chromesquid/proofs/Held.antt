-- Whether a walk backward is held, and of which patterns one is.
use Rattle.std.proofs.Common.{◌≡◌, false, inr, subst, sym, None, Option}
use Rattle.std.specs.Prelude.{Err, IfOk, IfSome, Ok, OnOk, Result, Some}
use Rattle.aho_core.specs.Patterns.{Patterns}
use Rattle.aho_core.specs.declared.error.BuildError.{BuildError}
use Rattle.aho_backward.specs.Making.{MakesNone}
use Rattle.aho_backward.specs.declared.backward.Backward.{Backward}
use Rattle.aho_backward.specs.declared.error.BackwardError.{BackwardError}
use Rattle.aho_corasick.specs.declared.noncontiguous.NFA.{NFA}
use Rattle.std.specs.Borrow.{Bor}
use Rattle.std.specs.Option.{option_map}
use Rattle.chromesquid.specs.Backward.{HoldsIfWorth, IsBackwardFor, IsHeldFor, wants_memory}

-- where none is held, none is of other patterns
pub none_held : (p : Patterns) (made : Result (Option (Backward NFA)) BuildError) → IfOk made (λ held. held ≡ None) → IfOk made (IsHeldFor p)
none_held p (Ok held) none = subst (IsHeldFor p) (sym none) tt
none_held p (Err error) none = tt

-- where none was made for a reason that is not memory, that is why none is held
pub not_made : (p : Patterns) (reason : BackwardError) → MakesNone p reason → (made : Result (Option (Backward NFA)) BuildError) → OnOk made (wants_memory reason ≡ false)
    → IfOk made (HoldsIfWorth p)
not_made p reason none (Ok held) other = inr (inr (record { reason = reason; none = none; other = other }))
not_made p reason none (Err error) other = tt

-- what is held wherever memory that is refused is a failure is held so too where more is asked for
pub worth_of : (Finds Best Allows : Type 0) (p : Patterns) (made : Result (Option (Backward NFA)) BuildError) → (Best → IfOk made (HoldsIfWorth p))
    → IfOk made (λ held. Finds → Best → Allows → HoldsIfWorth p held)
worth_of Finds Best Allows p (Ok held) worth = λ finds best allows. worth best
worth_of Finds Best Allows p (Err error) worth = tt

-- what is lent is of the patterns of what is held
pub lent_back : (p : Patterns) (held : Option (Backward NFA)) (shown : Option (Bor (Backward NFA))) → option_map (λ b. b.now) shown ≡ held → IsHeldFor p held
    → IfSome shown (λ b. IsBackwardFor b.now p)
lent_back p held None same of = tt
lent_back p held (Some b) same of = subst (IsHeldFor p) (sym same) of
