-- The bytes before the place are mixed.
use Rattle.acredact.proofs.Common.{get_or, length, mask_byte, ℕ, ◌<◌, ◌≡◌}
use Rattle.acredact.proofs.hmac.mask_of.Given as goal

abbrev pub invariant-bytes : goal.invariant-bytes
invariant-bytes l = (length l.mask ≡ 64) × ((k : ℕ) → k < l.at → get_or l.mask k 0 ≡ mask_byte l.with l.key k)
