-- The bytes of the first run in hand that were fed to what makes its piece.
use Rattle.std.specs.Prelude.{ℕ, ◌+◌, ◌≤◌, max, List, slice_range}
use Rattle.aho_core.specs.Listing.{IsMember}
use Rattle.aho_core.specs.Occurrence.{Occurrence}
use Rattle.aho_core.specs.Patterns.{Patterns}
use Rattle.aho_cover.specs.declared.progress.CoverProgress.{CoverProgress}
use Rattle.aho_cover.specs.Counting.{Output}
use Rattle.aho_cover.specs.Hand.{held_runs}

-- so much was covered, and what makes the pieces holds the bytes that were fed: from where all was written up to `fed`
abbrev pub Feeding : (List ℕ → Type 0) → CoverProgress → (Patterns → List ℕ → Output → Type 0) → Patterns → List ℕ → Output → Type 0
Feeding holds s Covers p haystack written = Covers p haystack written × holds (slice_range haystack s.copied s.fed)

-- whatever was fed
abbrev pub any_bytes : List ℕ → Type 0
any_bytes bytes = Unit {0}

-- of the runs in hand each byte was fed that the buffer may let go of
abbrev pub HasFedFirst : CoverProgress → Type 0
HasFedFirst s = (x : Occurrence) → IsMember (held_runs s.hand) x → s.read ≤ max s.fed x.start + s.buffer.least
