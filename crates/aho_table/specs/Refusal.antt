-- Why a store of lists, or a table, refuses to grow.
use Rattle.std.specs.Prelude.{◌≡◌, ℕ, ◌+◌, ◌<◌, ◌⊎◌, false, List, length, nat_lt, if◌then◌else◌}
use Rattle.aho_core.specs.declared.error.BuildError.{BuildError}
use Rattle.aho_core.specs.declared.error.BuildError.TheVariants.{StateIDOverflow, OutOfMemory}
use Rattle.aho_table.specs.Table.{State, lists_byte, transitions_count}

-- the refusal of an entry at this index: the limit, where the index is above it, else out of memory
abbrev pub refusal_at : ℕ → ℕ → BuildError
refusal_at limit index = if nat_lt limit index then StateIDOverflow (limit) (limit + 1) else OutOfMemory

-- why a store is not to have this many entries: they are more than the limit allows, or there is no memory
abbrev pub IsRefusalOf : ℕ → ℕ → BuildError → Type 0
IsRefusalOf limit count error = (error ≡ OutOfMemory) ⊎ ((error ≡ StateIDOverflow limit (limit + 1)) × (limit + 1 < count))

-- the refusal of a row that starts at this index: the limit and the index, where it is above the limit, else out of memory
abbrev pub row_refusal_at : ℕ → ℕ → BuildError
row_refusal_at limit start = if nat_lt limit start then StateIDOverflow (limit) start else OutOfMemory

-- why a byte that leads nowhere is not led to a new state: there is no state more, or no transition more where one is needed
abbrev pub IsLeadRefusal : ℕ → ℕ → ℕ → List State → BuildError → Type 0
IsLeadRefusal limit sid byte states error =
    (error ≡ refusal_at limit (length states))
    ⊎ ((lists_byte states sid byte ≡ false) × (error ≡ refusal_at limit (transitions_count states)))
