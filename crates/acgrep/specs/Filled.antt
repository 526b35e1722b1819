-- What a read puts behind the bytes that are held.
use Rattle.acgrep.specs.Common.{Consumes, IsAtEnd}
use Rattle.std.specs.Prelude.{◌++◌, ◌∷◌, ◌≡◌, List, Option, [], drop, length, take, ℕ}
use Rattle.acgrep.specs.declared.buffer.Buffer.{Buffer}
use Rattle.acgrep.specs.declared.held.Held.{Held}

-- the bytes that a buffer holds
abbrev pub bytes_buffered : Buffer → List ℕ
bytes_buffered buffer = take buffer.held buffer.room.items

-- the bytes of held lines
abbrev pub held_bytes : Held → List ℕ
held_bytes held = drop held.from held.room.items

-- bytes cut into lines of these sizes
abbrev pub cut_by : List ℕ → List ℕ → List (List ℕ)
cut_by [] bytes = []
cut_by (size ∷ sizes) bytes = take size bytes ∷ cut_by sizes (drop size bytes)

-- held lines
abbrev pub held_lines : Held → List (List ℕ)
held_lines held = cut_by held.sizes.items (held_bytes held)

-- what comes stands behind the bytes before, and nothing comes only at the end
pub record FillsBehind (before after : List ℕ) (left_before left_after : Option (List ℕ)) (count : ℕ) : Type 0 where
  pub came : List ℕ
  pub behind : after ≡ before ++ came
  pub read : Consumes left_before left_after came
  pub counted : length came ≡ count
  pub ended : count ≡ 0 → IsAtEnd left_after

-- so of what a buffer holds
abbrev pub FillsBuffer : (before after : Buffer) (left_before left_after : Option (List ℕ)) → ℕ → Type 0
FillsBuffer before after left_before left_after = FillsBehind (bytes_buffered before) (bytes_buffered after) left_before left_after

-- some bytes were read
abbrev pub ReadsOn : Option (List ℕ) → Option (List ℕ) → Type 0
ReadsOn left left' = (bytes : List ℕ) × Consumes left left' bytes
