use Rattle.std.proofs.Common.{◌≡◌, ℕ, ◌+◌, ◌-◌, ◌*◌, ◌/◌, ◌<◌, ◌≤◌, get_or, length, sym, ap, subst, arith}
use Rattle.std.specs.Prelude.{Some}
use Rattle.std.proofs.lemmas.Nat.{div-add-mod', mod_below}
use Rattle.memchr.specs.Find.{IsFirst}
use Rattle.aho_prefilter.specs.Strided.{AreSoundMarks, Marks, MayStartAt}
use Rattle.aho_prefilter.specs.declared.strided.sizes.Sizes.{Sizes}
use Rattle.aho_prefilter.proofs.Strides.{IsFirst-original, Nowhere-original}
use Rattle.aho_prefilter.proofs.strided.Strided.find_in_rest.Goals as goal

-- so many strides are all where a head fits
all : (left head strides stride : ℕ) → 0 < stride → strides ≡ (left - head) / stride → left < (strides + 1) * stride + head
all left head strides stride some is = omega (arith, ap (λ n. n * stride) is, div-add-mod' (left - head) stride, mod_below (left - head) stride some)

pub returns-in-Some : goal.returns-in-Some
returns-in-Some c =
    let marks = c.args.self.now in
    let bytes = c.args.bytes.now in
    let sizes : c.self.inside.sizes ≡ marks.sizes = ap (λ (m : Marks). m.sizes) c.self.view_is in
    let same : (k : ℕ) → get_or c.padded-rest.result k 0 ≡ get_or bytes (c.args.turns * marks.sizes.stride + k) 0 =
    λ k. subst (λ (s : Sizes). get_or c.padded-rest.result k 0 ≡ get_or bytes (c.args.turns * s.stride + k) 0) sizes (c.padded-rest.ensures.same k) in
    let sound = subst AreSoundMarks c.self.view_is c.self.invariant in
    let from : c.args.turns * c.self.inside.sizes.stride ≡ c.args.turns * marks.sizes.stride = ap (λ (s : Sizes). c.args.turns * s.stride) sizes in
    let head : c.self.inside.sizes.head ≡ marks.sizes.head = ap (λ (s : Sizes). s.head) sizes in
    let fits : c.in-Some.place + c.self.inside.sizes.head ≤ length bytes - c.args.turns * c.self.inside.sizes.stride = c.if-place-self.true in
    let some : 0 < marks.sizes.head = omega (arith, sound.sizes.within, sound.sizes.some, sound.sizes.steps) in
    let first = IsFirst-original marks bytes c.padded-rest.result c.args.turns sound.sizes.steps sound.sizes.some same c.in-Some.place _ c.in-Some.ensures.first (omega arith) some in
    record { first = subst (λ n. IsFirst (MayStartAt marks bytes) (c.args.turns * marks.sizes.stride) (length bytes) (Some (n + c.in-Some.place))) (sym from) first }

pub returns-in_default : goal.returns-in_default
returns-in_default c =
    let marks = c.args.self.now in
    let bytes = c.args.bytes.now in
    let sizes : c.self.inside.sizes ≡ marks.sizes = ap (λ (m : Marks). m.sizes) c.self.view_is in
    let same : (k : ℕ) → get_or c.padded-rest.result k 0 ≡ get_or bytes (c.args.turns * marks.sizes.stride + k) 0 =
    λ k. subst (λ (s : Sizes). get_or c.padded-rest.result k 0 ≡ get_or bytes (c.args.turns * s.stride + k) 0) sizes (c.padded-rest.ensures.same k) in
    let sound = subst AreSoundMarks c.self.view_is c.self.invariant in
    let from : c.args.turns * c.self.inside.sizes.stride ≡ c.args.turns * marks.sizes.stride = ap (λ (s : Sizes). c.args.turns * s.stride) sizes in
    let head : c.self.inside.sizes.head ≡ marks.sizes.head = ap (λ (s : Sizes). s.head) sizes in
    let few : length bytes - c.args.turns * c.self.inside.sizes.stride < c.in-Some.place + c.self.inside.sizes.head = c.if-place-self.false in
    record { first = Nowhere-original marks bytes c.padded-rest.result c.args.turns sound.sizes.steps sound.sizes.some same c.in-Some.place c.in-Some.ensures.first.0.before (omega arith) }

pub returns-in_default-2 : goal.returns-in_default-2
returns-in_default-2 c =
    let marks = c.args.self.now in
    let bytes = c.args.bytes.now in
    let sizes : c.self.inside.sizes ≡ marks.sizes = ap (λ (m : Marks). m.sizes) c.self.view_is in
    let same : (k : ℕ) → get_or c.padded-rest.result k 0 ≡ get_or bytes (c.args.turns * marks.sizes.stride + k) 0 =
    λ k. subst (λ (s : Sizes). get_or c.padded-rest.result k 0 ≡ get_or bytes (c.args.turns * s.stride + k) 0) sizes (c.padded-rest.ensures.same k) in
    let sound = subst AreSoundMarks c.self.view_is c.self.invariant in
    let strides : c.strides_in.result ≡ (length bytes - c.args.turns * marks.sizes.stride - marks.sizes.head) / marks.sizes.stride =
    subst (λ (s : Sizes). c.strides_in.result ≡ (length bytes - c.args.turns * s.stride - s.head) / s.stride) sizes c.strides_in.ensures.strides in
    let left = length bytes - c.args.turns * marks.sizes.stride in
    let few : left < (c.strides_in.result + 1) * marks.sizes.stride + marks.sizes.head = all left marks.sizes.head c.strides_in.result marks.sizes.stride sound.sizes.steps strides in
    record { first = Nowhere-original marks bytes c.padded-rest.result c.args.turns sound.sizes.steps sound.sizes.some same ((c.strides_in.result + 1) * marks.sizes.stride) c.in_default.ensures.first (omega (arith, c.requires.within, few)) }
