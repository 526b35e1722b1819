use Rattle.aho_prefilter.proofs.Shares.{product-few}
use Rattle.aho_prefilter.proofs.packed_heads.PackedHeads.places_met_by.Goals as goal

pub returns-clause-few : goal.returns-clause-few
returns-clause-few c =
    product-few c.share-first.result c.share-second.result c.share-third.result c.share-fourth.result
    c.share-first.ensures.few c.share-second.ensures.few c.share-third.ensures.few c.share-fourth.ensures.few
