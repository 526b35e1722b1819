-- Why a table is not to have so many entries.
use Rattle.std.proofs.Common.{◌≡◌, ℕ, ◌+◌, ◌<◌, ◌≤◌, Bool, cond, nat_lt, ap, ◌∙◌, subst, inl, inr, arith}
use Rattle.std.proofs.lemmas.Bool.{cases_Bool, ltb-true}
use Rattle.aho_core.specs.declared.error.BuildError.{BuildError}
use Rattle.aho_core.specs.declared.error.BuildError.TheVariants.{StateIDOverflow, OutOfMemory}
use Rattle.aho_table.specs.Refusal.{IsRefusalOf, refusal_at}

-- what a table was refused is also refused of more
pub IsRefusalOf-more : (limit size more : ℕ) (error : BuildError) → size ≤ more → IsRefusalOf limit size error → IsRefusalOf limit more error
IsRefusalOf-more limit size more error le refusal = elim refusal [ inl memory ↦ inl memory | inr full ↦ inr (full.0, omega (arith, full.1, le)) ]

-- an entry at an index is one of more entries
pub IsRefusalOf-at : (limit index size : ℕ) (error : BuildError) → index < size → error ≡ refusal_at limit index → IsRefusalOf limit size error
IsRefusalOf-at limit index size error less is =
    elim (cases_Bool (nat_lt limit index)) [
      | inl full ↦ inr (is ∙ ap (λ (b : Bool). cond b (StateIDOverflow limit (limit + 1)) OutOfMemory) full, omega (arith, less, ltb-true limit index full))
      | inr room ↦ inl (is ∙ ap (λ (b : Bool). cond b (StateIDOverflow limit (limit + 1)) OutOfMemory) room)
    ]

-- by other names of the same numbers
pub IsRefusalOf-same : {limit another size other : ℕ} {error : BuildError} → limit ≡ another → size ≡ other → IsRefusalOf limit size error → IsRefusalOf another other error
IsRefusalOf-same {limit} {another} {size} {other} {error} same equal refusal =
    subst (λ (n : ℕ). IsRefusalOf n other error) same (subst (λ (n : ℕ). IsRefusalOf limit n error) equal refusal)
