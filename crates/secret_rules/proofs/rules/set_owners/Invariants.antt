use Rattle.std.proofs.Common.{◌≡◌, ◌⊎◌, ◌↔◌, ℕ, IsTrue, drop, length}
use Rattle.secret_rules.specs.Keywords.{HasOwner}
use Rattle.secret_rules.specs.Markers.{flag_at}
use Rattle.secret_rules.proofs.rules.set_owners.Given as goal

abbrev pub invariant-loop-m : goal.invariant-loop-m
invariant-loop-m l = record {
  count : length l.flags ≡ length l.fn.flags;
  set : (k : ℕ) → (IsTrue (flag_at l.flags k) ⊎ HasOwner l.owners (drop l.m-index l.found) k)
      ↔ (IsTrue (flag_at l.fn.flags k) ⊎ HasOwner l.owners l.found k);
}
