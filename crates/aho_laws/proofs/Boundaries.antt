-- The test of a character boundary.
use Rattle.std.proofs.Common.{◌≡◌, ◌↔◌, ℕ, true, List, IsCharBoundary, arith}
use Rattle.std.proofs.lemmas.Bool.Decides.{nat_tests}
use Rattle.aho_core.specs.Replacement.{is_char_boundary}

boundary-from : (text : List ℕ) (at : ℕ) → is_char_boundary text at ≡ true → IsCharBoundary text at
boundary-from text at h = grind (arith, nat_tests)

boundary-is : (text : List ℕ) (at : ℕ) → IsCharBoundary text at → is_char_boundary text at ≡ true
boundary-is text at h = grind (arith, nat_tests)

pub boundary-tested : (text : List ℕ) (at : ℕ) → (is_char_boundary text at ≡ true) ↔ IsCharBoundary text at
boundary-tested text at = (boundary-from text at, boundary-is text at)
