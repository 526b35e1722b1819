use Rattle.std.proofs.Common.{◌≡◌, List, ℕ, length, sym, ap, ◌∙◌}
use Rattle.std.proofs.lemmas.List.{length-set}
use Rattle.aho_prefilter.specs.Strided.{with_bits, with_gram}
use Rattle.aho_prefilter.specs.declared.strided.grams.Place.{Place}
use Rattle.aho_prefilter.proofs.Tables.{IsTable-long, with_grams-more}
use Rattle.aho_prefilter.proofs.strided.sizes.Sizes.mark_grams.Goals as goal

pub loop-offset-preserved : goal.loop-offset-preserved
loop-offset-preserved c =
    let sizes = c.args.self in
    let bytes = c.args.bytes.now in
    let offset = c.loop-offset.offset in
    let grams = c.loop-offset.grams in
    let marked : c.set_bits.new.table ≡ with_gram sizes bytes offset grams = c.set_bits.ensures.set ∙ ap (λ (place : Place). with_bits grams place) c.gram_place-place.ensures.place in (
      marked
          ∙ ap (λ (table : List ℕ). with_gram sizes bytes offset table) c.loop-offset.invariant.0
          ∙ sym (with_grams-more sizes bytes offset c.args.grams.now),
      IsTable-long grams c.set_bits.new.table (ap length marked ∙ length-set grams _ _) c.loop-offset.invariant.1,
    )
