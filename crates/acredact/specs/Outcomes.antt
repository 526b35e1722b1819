-- What comes of a call, or of its files, by what is answered, and what its exit status says.
use Rattle.acredact.specs.Common.{Errors, SinkGhosts, Tells, TellsSome}
use Rattle.std.specs.Prelude.{◌≡◌, ℕ, Bool, true, false, List, Result, IfErr, IfOk}
use Rattle.acredact.specs.declared.failure.Failure.{Failure}

module _ {E : Type 0} (K : SinkGhosts E) (IsTold : List ℕ → Type 0) where
  -- by whether all was read, much was done and noted, or some of it, and this tells why not all; or it ends early, as it may
  pub record ComesOf {V : Type 0} (all : V → Bool) (Whole : V → Type 0) (Partly Begun Notes : Type 0) (MayEnd : Failure → Type 0)
      (result : Result V Failure) (errors errors' : Errors E) : Type 0 where
    pub whole : IfOk result (λ done. all done ≡ true → Whole done)
    pub begun : Begun
    pub told : Tells K IsTold errors errors'
    pub partly : IfOk result (λ done. all done ≡ false → Partly)
    pub notes : IfOk result (λ done. all done ≡ true → Notes)
    pub fails : IfErr result MayEnd

  -- what the exit status of a redaction says
  pub record EndSays (Done Begun : Type 0) (status : ℕ) (errors errors' : Errors E) : Type 0 where
    pub done : status ≡ 0 → Done
    pub begun : Begun
    pub told : Tells K IsTold errors errors'
    pub tells : status ≡ 2 → TellsSome K IsTold errors errors'
