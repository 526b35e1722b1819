use Rattle.std.proofs.Common.{◌≡◌, ℕ, ◌+◌, ◌-◌, ◌<◌, ◌≤◌, ◌*◌, List, get_or, length, sym, ap, ◌∙◌, arith}
use Rattle.memchr.specs.Find.{NoneBefore, Nowhere}
use Rattle.aho_prefilter.specs.Packed.{MeetsAt, groups_at}
use Rattle.aho_prefilter.specs.declared.packed.Packed.{Packed}
use Rattle.aho_prefilter.proofs.Copied.{groups_at-copied}
use Rattle.aho_prefilter.proofs.packed.Packed.find_in_rest.Goals as goal

module _ (packed : Packed) (bytes rest : List ℕ) (from : ℕ) (same : (k : ℕ) → get_or rest k 0 ≡ get_or bytes (from + k) 0) where
  -- so does one among the bytes
  of_rest : (k : ℕ) → from ≤ k → MeetsAt packed bytes k → MeetsAt packed rest (k - from)
  of_rest k low meets none =
      let e : from + (k - from) ≡ k = omega arith in
      meets (sym (ap (groups_at packed bytes) e) ∙ sym (groups_at-copied bytes rest from same packed (k - from)) ∙ none)

  first_of : (at n limit : ℕ) → from + at < n → NoneBefore (MeetsAt packed rest) 0 limit at × MeetsAt packed rest at → NoneBefore (MeetsAt packed bytes) from n (from + at) × MeetsAt packed bytes (from + at)
  first_of at n limit below found = (
    record {
      low = omega arith;
      high = below;
      before = λ k low high meets. found.0.before (k - from) (omega arith) (omega arith) (of_rest k low meets);
    },
    λ none. found.1 (groups_at-copied bytes rest from same packed at ∙ none),
  )

  none_of : (at n : ℕ) → n ≤ from + at → Nowhere (MeetsAt packed rest) 0 at → Nowhere (MeetsAt packed bytes) from n
  none_of at n past none = λ k low high meets. none (k - from) (omega arith) (omega arith) (of_rest k low meets)

pub returns-in-Some : goal.returns-in-Some
returns-in-Some c = record { first = first_of c.args.self.now c.args.bytes.now c.padded-rest.result c.args.from c.padded-rest.ensures.same c.in-Some.at (length c.args.bytes.now) _ (omega (arith, c.if-at-left.true)) c.in-Some.ensures.first }

pub returns-in_default : goal.returns-in_default
returns-in_default c = record { first = none_of c.args.self.now c.args.bytes.now c.padded-rest.result c.args.from c.padded-rest.ensures.same c.in-Some.at (length c.args.bytes.now) (omega (arith, c.if-at-left.false)) c.in-Some.ensures.first.0.before }

pub returns-in_default-2 : goal.returns-in_default-2
returns-in_default-2 c = record { first = none_of c.args.self.now c.args.bytes.now c.padded-rest.result c.args.from c.padded-rest.ensures.same (c.div_ceil.result * 32) (length c.args.bytes.now) (omega (arith, c.div_ceil.ensures)) c.in_default.ensures.first }
