use Rattle.std.proofs.Common.{◌≡◌, ℕ, ◌+◌, ◌<◌, get_or, length, ap, subst, ◌∙◌, arith, get_or-take}
use Rattle.std.specs.Vec.{with_items}
use Rattle.std.proofs.lemmas.List.{with_items_is}
use Rattle.aho_prefilter.specs.Strided.{Marks, marks_with}
use Rattle.aho_prefilter.proofs.Tables.{grams-added, heads-added, length-with_grams, length-with_mark, marks-added}
use Rattle.aho_prefilter.proofs.strided.Strided.add.Goals as goal

zero_more : (k : ℕ) → 0 + k ≡ k
zero_more k = omega arith

pub returns : goal.returns
returns c =
    let pattern = c.args.pattern.now in
    let sizes = c.self.inside.sizes in
    let grams = c.self.inside.grams in
    let heads = c.self.inside.heads in
    let grams_long : length c.mark_grams.new.grams ≡ grams.len =
    omega (arith, ap length c.mark_grams.ensures.marked, length-with_grams sizes c.padded-start.result sizes.stride c.deref_mut.result.now, ap length c.deref_mut.ensures.value, grams.ok.0) in
    let heads_long : length c.mark.new.table ≡ heads.len =
    omega (arith, ap length c.mark.ensures.marked, length-with_mark c.deref_mut-2.result.now c.head_hash.result, ap length c.deref_mut-2.ensures.value, heads.ok.0) in
    let same : (k : ℕ) → k < sizes.head → get_or c.padded-start.result k 0 ≡ get_or pattern k 0 =
    λ k below. c.padded-start.ensures.same k ∙ get_or-take sizes.head pattern (0 + k) 0 (omega arith) ∙ ap (λ n. get_or pattern n 0) (zero_more k) in
    let front =
    grams-added sizes grams.items heads.items c.padded-start.result pattern c.self.invariant.sizes same (with_items grams c.mark_grams.new.grams).items c.mark_grams.new.grams c.deref_mut.result.now
    (with_items_is grams c.mark_grams.new.grams grams_long) c.mark_grams.ensures.marked c.deref_mut.ensures.value in
    let back =
    heads-added sizes grams.items heads.items c.padded-start.result pattern c.self.invariant.sizes same (with_items heads c.mark.new.table).items c.mark.new.table c.deref_mut-2.result.now c.head_hash.result
    (with_items_is heads c.mark.new.table heads_long) c.mark.ensures.marked c.deref_mut-2.ensures.value c.head_hash.ensures.hash in
    let added = marks-added sizes grams.items heads.items c.padded-start.result pattern c.self.invariant.sizes same (with_items grams c.mark_grams.new.grams).items (with_items heads c.mark.new.table).items front back in
    record { added = subst (λ (m : Marks). ◌≡◌ {A = Marks} (record { sizes = sizes; grams = (with_items grams c.mark_grams.new.grams).items; heads = (with_items heads c.mark.new.table).items }) (marks_with m pattern)) c.self.view_is added }
