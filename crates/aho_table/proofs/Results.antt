-- What a `?` answers.
use Rattle.std.proofs.Common.{◌≡◌, ◌<◌, ◌≤◌, ◌+◌, refl, ℕ, Bool, true, false, eqb, arith, Result, Ok, Err, sym, subst}
use Rattle.std.specs.Prelude.{IfOk, IfErr, IsErrAnd, OnOk}
use Rattle.std.proofs.lemmas.Bool.{le-ltb, lt-ltb}
use Rattle.std.proofs.lemmas.Bool.Decides.{nat_tests}
use Rattle.aho_core.specs.declared.error.BuildError.TheVariants.{StateIDOverflow, OutOfMemory}
use Rattle.aho_table.specs.Refusal.{refusal_at}

-- the error that was given is the one that is answered
pub IfErr-given : {X E : Type 0} (P : E → Type 0) (result : Result X E) (error : E) → IsErrAnd result (λ e. e ≡ error) → P error → IfErr result P
IfErr-given P (Ok x) error is holds = tt
IfErr-given P (Err e) error is holds = subst P (sym is) holds

-- what the test of a number against 0 tells
pub is_zero : (number : ℕ) (test : Bool) → test ≡ eqb number 0 → test ≡ true → number ≡ 0
is_zero number test is holds = grind (arith, nat_tests)

pub is_some : (number : ℕ) (test : Bool) → test ≡ eqb number 0 → test ≡ false → 0 < number
is_some number test is fails = grind (arith, nat_tests)

pub OnOk-more : {X E : Type 0} {P Q : Type 0} (result : Result X E) → (P → Q) → OnOk result P → OnOk result Q
OnOk-more (Ok x) more holds = more holds
OnOk-more (Err e) more holds = tt

pub overflow_at : (limit index : ℕ) → limit < index → StateIDOverflow (limit) (limit + 1) ≡ refusal_at limit index
overflow_at limit index above = rw (lt-ltb limit index above) refl

pub out_of_memory_at : (limit index : ℕ) → index ≤ limit → OutOfMemory ≡ refusal_at limit index
out_of_memory_at limit index within = rw (le-ltb limit index within) refl

pub IfOk-from : {X E : Type 0} {P Q : X → Type 0} {R : Type 0} (result : Result X E) → IfOk result P → OnOk result R → ((x : X) → P x → R → Q x) → IfOk result Q
IfOk-from (Ok x) p r more = more x p r
IfOk-from (Err e) p r more = tt

pub IfOk-more : {X E : Type 0} {P Q : X → Type 0} (result : Result X E) → ((x : X) → P x → Q x) → IfOk result P → IfOk result Q
IfOk-more (Ok x) more holds = more x holds
IfOk-more (Err e) more holds = tt

pub IfOk-both : {X E : Type 0} {P Q : X → Type 0} {R S : Type 0} (result : Result X E) → IfOk result P → OnOk result R → OnOk result S
    → ((x : X) → P x → R → S → Q x) → IfOk result Q
IfOk-both (Ok x) p r s more = more x p r s
IfOk-both (Err e) p r s more = tt

pub OnOk-both : {X E : Type 0} {R S Q : Type 0} (result : Result X E) → OnOk result R → OnOk result S → (R → S → Q) → OnOk result Q
OnOk-both (Ok x) r s more = more r s
OnOk-both (Err e) r s more = tt
