-- What comes of a call by what comes of its files, and what its exit status says.
use Rattle.acredact.proofs.Common.{Bool, ComesOf, EndsCall, Err, Errors, Failure, IfErr, IfOk, IsFailureLine, List, Ok, OnOk, Result, SinkGhosts, Tells, TellsSome, TellsUnlessAll, arith, false, refl, subst, sym, true, ℕ, ◌∙◌, ◌≡◌}
use Rattle.acredact.specs.Outcomes.{EndSays}
use Rattle.acredact.proofs.Calls.{some_behind, some_then, some_weaker, tells_both, tells_last, some_all, tells_same}
use Rattle.acredact.proofs.Turns.{told_by}

module _ {E : Type 0} {K : SinkGhosts E} {IsTold : List ℕ → Type 0} {V : Type 0} {all : V → Bool} {Whole : V → Type 0} {Partly Begun Notes : Type 0} {MayEnd : Failure → Type 0} where
  -- a call ended early, as it may
  pub comes_early : {failure : Failure} {old new : Errors E} → Begun → Tells K IsTold old new → MayEnd failure → ComesOf K IsTold all Whole Partly Begun Notes MayEnd (Err failure) old new
  comes_early begun told may = record { whole = tt; begun = begun; told = told; partly = tt; notes = tt; fails = may }

  -- and nothing was told
  pub comes_untold : {failure : Failure} {errors : Errors E} → Begun → MayEnd failure → ComesOf K IsTold all Whole Partly Begun Notes MayEnd (Err failure) errors errors
  comes_untold {errors = errors} begun may = comes_early begun (tells_same K IsTold errors errors refl) may

-- files were come to, behind what was told before, and then the counts were told, or they were not
module _ {E : Type 0} (X : Type 0) (K : SinkGhosts E) (IsTold IsLine : List ℕ → Type 0) (all : Bool) (first old mid new : Errors E)
    (before : Tells K IsTold first old) (may : (line : List ℕ) → IsLine line → IsTold line) (told : TellsUnlessAll {X = X} K IsLine (Ok all) old mid) (later : Tells K IsTold mid new) where
  all_told : Tells K IsTold first new
  all_told = tells_both K IsTold first old new before (tells_both K IsTold old mid new (told_by {X = X} K IsLine IsTold (Ok all) old mid may told) later)

  pub files_then : {V : Type 0} {all_of : V → Bool} {Whole : V → Type 0} {Begun Notes : Type 0} {MayEnd : Failure → Type 0} → Begun → (result : Result V Failure) → IfOk result (λ done. all_of done ≡ all) → IfErr result MayEnd
      → (all ≡ true → IfOk result (λ done. Whole done × Notes)) → ComesOf K IsTold all_of Whole (TellsSome K IsTold first new) Begun Notes MayEnd result first new
  files_then begun (Ok done) same fails whole = record {
    whole = λ is. (whole (sym same ∙ is)).0;
    begun = begun;
    told = all_told;
    partly = λ is. some_behind K IsTold first old new before (some_then K IsTold old mid new (some_weaker K IsLine IsTold old mid may (subst (λ (b : Bool). TellsUnlessAll {X = X} K IsLine (Ok b) old mid) (sym same ∙ is) told)) later);
    notes = λ is. (whole (sym same ∙ is)).1;
    fails = tt;
  }
  files_then begun (Err failure) same fails whole = comes_early begun all_told fails

-- the status says what came of the call, where it was told why it ended early, if it did
module _ {E : Type 0} (K : SinkGhosts E) (IsTold : List ℕ → Type 0) {Whole : Bool → Type 0} {Begun Notes : Type 0} {MayEnd : Failure → Type 0} (Done : Errors E → Type 0) (status : ℕ) (old mid new : Errors E)
    (may : (failure : Failure) (line : List ℕ) → MayEnd failure → IsFailureLine failure line → IsTold line) (done : Whole true → Notes → Done mid) where
  pub status_says : (result : Result Bool Failure) → EndsCall K result status mid new → ComesOf K IsTold (λ all. all) Whole (TellsSome K IsTold old mid) Begun Notes MayEnd result old mid → EndSays K IsTold (Done new) Begun status old new
  status_says (Ok true) (is, same) of =
      rw same (record { done = λ zero. done (of.whole refl) (of.notes refl); begun = of.begun; told = of.told; tells = λ two. absurd (omega (arith, is, two)) })
  status_says (Ok false) (is, same) of =
      rw same (record { done = λ zero. absurd (omega (arith, is, zero)); begun = of.begun; told = of.told; tells = λ two. of.partly refl })
  status_says (Err failure) (is, (line, is_line, told)) of =
      let some = tells_last K IsTold old mid new line of.told (may failure line of.fails is_line) told in
      record { done = λ zero. absurd (omega (arith, is, zero)); begun = of.begun; told = some_all K IsTold IsTold old new (λ line is. is) some; tells = λ two. some }

-- a call that ends with status 0 came to its end
pub ended_well : {E : Type 0} (K : SinkGhosts E) {P : Type 0} (result : Result Bool Failure) (status : ℕ) (mid new : Errors E) → EndsCall K result status mid new → OnOk result P → status ≡ 0 → P
ended_well K (Ok all) status mid new ends is zero = is
ended_well K (Err failure) status mid new (two, told) is zero = absurd (omega (arith, two, zero))
