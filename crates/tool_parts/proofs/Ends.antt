-- Where known bytes end.
use Rattle.std.proofs.Common.{◌≡◌, ℕ, List, [], Option, refl}
use Rattle.std.specs.Prelude.{None, Some}
use Rattle.std.specs.Io.KnownBytes.{IsAtEnd}

-- known bytes are at their end where they can only be none
pub at_end : (known : Option (List ℕ)) → ((bytes : List ℕ) → known ≡ Some bytes → bytes ≡ []) → IsAtEnd known
at_end None none = tt
at_end (Some bytes) none = none bytes refl
