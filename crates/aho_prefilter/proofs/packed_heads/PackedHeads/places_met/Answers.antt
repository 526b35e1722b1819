use Rattle.std.proofs.Common.{sym, ◌∙◌, inl, inr, arith}
use Rattle.std.proofs.lemmas.Bool.{cases_lt}
use Rattle.std.proofs.lemmas.List.{get_or_past}
use Rattle.aho_prefilter.proofs.packed_heads.PackedHeads.places_met.Goals as goal

pub returns : goal.returns
returns c =
    let groups = c.groups.ensures.groups in
    let bits = c.lanes_met.ensures.met in
    record {
      met = record {
        few = λ k set.
            elim (cases_lt k 32) [ inl below ↦ below | inr past ↦ absurd ((bits k).0 set (get_or_past c.groups.result k 0 (omega (arith, groups.long)))) ];
        each = λ k below. (
          λ set none. (bits k).0 set (groups.each k below ∙ none),
          λ meets. (bits k).1 (λ none. meets (sym (groups.each k below) ∙ none)),
        );
      };
    }
