-- Why a state has no child for a byte.
use Rattle.std.proofs.Common.{◌≡◌, ℕ, ◌+◌, ◌<◌, Bool, true, false, not, cond, nat_eq, List, [], ◌∷◌, ◌++◌, length, ne_eqb, ap, ◌∙◌, inl, inr, arith}
use Rattle.std.proofs.lemmas.Bool.{cases_Bool}
use Rattle.aho_core.specs.declared.error.BuildError.{BuildError}
use Rattle.aho_core.specs.Bytes.{opposite}
use Rattle.aho_build.specs.TrieGrowth.{IsChildRefusal, missing_in, missing_both}
use Rattle.aho_table.specs.Refusal.{refusal_at}
use Rattle.aho_table.specs.Table.{State, new_state, state_at, next_in, set_transition, lists_byte, IsRising, transitions_count}
use Rattle.aho_table.proofs.Refusals.{IsRefusalOf-at}
use Rattle.aho_build.proofs.Child.{transitions_count-one, lists_byte-one, lists_byte-one_other}

-- the other case was refused, after the byte
pub IsChildRefusal-other : (limit parent byte other depth sid : ℕ) (old first : List State) (error : BuildError) → parent < length old → IsRising (state_at old parent).transitions
    → next_in old parent byte ≡ 1 → sid ≡ length old → first ≡ set_transition (old ++ new_state depth ∷ []) parent byte sid → other ≡ opposite byte
    → (lists_byte first parent other ≡ true → ⊥) → error ≡ refusal_at limit (transitions_count first) → IsChildRefusal true limit parent byte old error
IsChildRefusal-other limit parent byte other depth sid old first error below rising free sid_is first_is other_is unlisted refused =
    let the_first : List State = set_transition (old ++ new_state depth ∷ []) parent byte (length old) in
    let first_table : first ≡ the_first = first_is ∙ ap (set_transition (old ++ new_state depth ∷ []) parent byte) sid_is in
    let fresh : lists_byte the_first parent (opposite byte) ≡ true → ⊥ =
    λ is. unlisted (ap (λ (t : List State). lists_byte t parent other) first_table ∙ ap (lists_byte the_first parent) other_is ∙ is) in
    let apart : opposite byte ≡ byte → ⊥ = λ same. fresh (ap (lists_byte the_first parent) same ∙ lists_byte-one parent byte depth old below) in
    let none : lists_byte old parent (opposite byte) ≡ false =
    elim (cases_Bool (lists_byte old parent (opposite byte))) [
      | inl is ↦ absurd (fresh (lists_byte-one_other parent byte depth old below (opposite byte) apart ∙ is))
      | inr absent ↦ absent
    ] in
    let one_more : cond (not (nat_eq (opposite byte) byte)) (missing_in old parent (opposite byte)) 0 ≡ 1 =
    ap (λ (b : Bool). cond (not b) (missing_in old parent (opposite byte)) 0) (ne_eqb (opposite byte) byte apart) ∙ ap (λ (b : Bool). cond b 0 1) none in
    let count : transitions_count first ≡ transitions_count old + missing_in old parent byte = ap transitions_count first_table ∙ transitions_count-one parent byte depth old below rising in
    let all : missing_both true old parent byte ≡ missing_in old parent byte + 1 = ap (λ (n : ℕ). missing_in old parent byte + n) one_more in
    (free, inr (IsRefusalOf-at limit (transitions_count first) (transitions_count old + missing_both true old parent byte) error (omega (arith, count, all)) refused))
