-- What a test of two numbers tells.
use Rattle.std.proofs.Common.{◌≡◌, ℕ, ◌≢◌, Bool, true, false, not, eqb, arith}
use Rattle.std.proofs.lemmas.Bool.Decides.{nat_tests}

-- a test for other numbers
pub differ-true : (b : Bool) (x y : ℕ) → b ≡ not (eqb x y) → b ≡ true → x ≢ y
differ-true b x y is h e = grind (arith, nat_tests)

pub differ-false : (b : Bool) (x y : ℕ) → b ≡ not (eqb x y) → b ≡ false → x ≡ y
differ-false b x y is h = grind (arith, nat_tests)

-- a test for the same number
pub same-true : (b : Bool) (x y : ℕ) → b ≡ eqb x y → b ≡ true → x ≡ y
same-true b x y is h = grind (arith, nat_tests)

pub same-false : (b : Bool) (x y : ℕ) → b ≡ eqb x y → b ≡ false → x ≢ y
same-false b x y is h e = grind (arith, nat_tests)
