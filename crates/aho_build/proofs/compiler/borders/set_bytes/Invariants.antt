-- The borders of the bytes so far stand.
use Rattle.std.proofs.Common.{◌≡◌, ℕ, ◌<◌, ◌||◌, take}
use Rattle.aho_table.specs.Alphabet.{is_border}
use Rattle.aho_build.specs.Dense.{is_parted_by}
use Rattle.aho_build.proofs.compiler.borders.set_bytes.Given as goal

abbrev pub invariant-loop-byte : goal.invariant-loop-byte
invariant-loop-byte l =
    (at : ℕ) → at < 255 → is_border l.borders at ≡ (is_border l.fn.borders at || is_parted_by l.ignore_case (take l.byte-index l.word) at)
