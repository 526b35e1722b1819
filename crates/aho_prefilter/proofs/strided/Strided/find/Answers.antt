use Rattle.std.proofs.Common.{◌≡◌, ℕ, ◌-◌, ◌*◌, ◌/◌, ◌≤◌, length, ap, subst, arith}
use Rattle.std.proofs.lemmas.Nat.{div-add-mod'}
use Rattle.aho_prefilter.specs.Strided.{AreSoundMarks, Marks, MayStartAt}
use Rattle.aho_prefilter.proofs.Firsts.{first_after}
use Rattle.aho_prefilter.proofs.Strides.{IsFirst-may_start, Nowhere-may_start}
use Rattle.aho_prefilter.proofs.strided.Strided.find.Goals as goal

-- so many strides stand within
within : (room left turns stride step : ℕ) → left ≡ room → turns ≡ left / stride → stride ≡ step → turns * step ≤ room
within room left turns stride step is many same = omega (arith, is, ap (λ n. n * step) many, ap (λ n. left / stride * n) same, div-add-mod' left stride)

pub find_in_turns-requires : goal.find_in_turns-requires
find_in_turns-requires c = record { within = within (length c.args.bytes.now - 15) c.saturating_sub.result c.strides_in-turns.result c.self.inside.sizes.stride c.args.self.now.sizes.stride c.saturating_sub.ensures c.strides_in-turns.ensures.strides (ap (λ (m : Marks). m.sizes.stride) c.self.view_is) }

pub returns-in-Some : goal.returns-in-Some
returns-in-Some c =
    let sound = subst AreSoundMarks c.self.view_is c.self.invariant in
    record { first = IsFirst-may_start c.args.self.now c.args.bytes.now _ sound.sizes (within (length c.args.bytes.now - 15) c.saturating_sub.result c.strides_in-turns.result c.self.inside.sizes.stride c.args.self.now.sizes.stride c.saturating_sub.ensures c.strides_in-turns.ensures.strides (ap (λ (m : Marks). m.sizes.stride) c.self.view_is)) c.in-Some.place c.in-Some.ensures.first }

pub returns-in-None : goal.returns-in-None
returns-in-None c =
    let sound = subst AreSoundMarks c.self.view_is c.self.invariant in
    record {
      first = first_after (MayStartAt c.args.self.now c.args.bytes.now) 0 _ (length c.args.bytes.now) c.find_in_rest.result (omega arith)
          (Nowhere-may_start c.args.self.now c.args.bytes.now _ sound.sizes (within (length c.args.bytes.now - 15) c.saturating_sub.result c.strides_in-turns.result c.self.inside.sizes.stride c.args.self.now.sizes.stride c.saturating_sub.ensures c.strides_in-turns.ensures.strides (ap (λ (m : Marks). m.sizes.stride) c.self.view_is)) c.in-None.ensures.first) c.find_in_rest.ensures.first;
    }
