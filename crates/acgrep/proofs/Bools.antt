-- What holds by a test.
use Rattle.std.proofs.Common.{◌≡◌, Bool, false, true}
use Rattle.std.specs.Prelude.{MatchBool}

pub where_true : {A : Type 0} (B : Type 0) (b : Bool) → b ≡ true → A → MatchBool b A B
where_true B true is a = a
where_true B false is a = absurd (cc)

pub where_false : {B : Type 0} (A : Type 0) (b : Bool) → b ≡ false → B → MatchBool b A B
where_false A true is b = absurd (cc)
where_false A false is b = b

-- what follows from it in either case
pub either_way : {A B C D : Type 0} (b : Bool) → (A → C) → (B → D) → MatchBool b A B → MatchBool b C D
either_way true one other is = one is
either_way false one other is = other is
