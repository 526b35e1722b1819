-- Why a table is not made from what is read out.
use Rattle.std.specs.Prelude.{◌≡◌, ◌⊎◌, ◌+◌}
use Rattle.aho_core.specs.Numbers.{greatest_index}
use Rattle.aho_core.specs.declared.error.BuildError.{BuildError}
use Rattle.aho_core.specs.declared.error.BuildError.TheVariants.{StateIDOverflow, OutOfMemory}

-- memory was wanted, or an index is above the greatest
abbrev pub IsRefused : BuildError → Type 0
IsRefused error = (error ≡ OutOfMemory) ⊎ (error ≡ StateIDOverflow greatest_index (greatest_index + 1))
