use Rattle.std.proofs.Common.{◌≡◌, ℕ, ◌+◌, ◌<◌, List, get_or, ap, subst, ◌∙◌, arith, get_or-take}
use Rattle.aho_prefilter.specs.Heads.{HeadMarks, heads_with}
use Rattle.aho_prefilter.specs.Strided.{caseless, hash_of_head, with_mark}
use Rattle.aho_prefilter.proofs.Strides.{hash_of_head-same}
use Rattle.aho_prefilter.proofs.heads.Heads.add.Goals as goal

zero_more : (k : ℕ) → 0 + k ≡ k
zero_more k = omega arith

pub returns : goal.returns
returns c =
    let pattern = c.args.pattern.now in
    let size = c.self.inside.size in
    let rule = c.self.inside.ignore_case in
    let table = c.self.inside.table in
    let same : (k : ℕ) → k < size → get_or c.padded-start.result k 0 ≡ get_or pattern k 0 =
    λ k below. c.padded-start.ensures.same k ∙ get_or-take size pattern (0 + k) 0 (omega arith) ∙ ap (λ n. get_or pattern n 0) (zero_more k) in
    let hash : c.hash_of_head-hash.result ≡ hash_of_head rule size pattern 0 =
    c.hash_of_head-hash.ensures.hash ∙ hash_of_head-same rule size c.padded-start.result 0 pattern 0 (λ k below. ap (λ byte. caseless rule byte) (same (0 + k) (omega arith))) in
    let marked : c.mark.new.table ≡ with_mark table (hash_of_head rule size pattern 0) = c.mark.ensures.marked ∙ ap (λ n. with_mark table n) hash in
    record {
      added =
          subst (λ (h : HeadMarks). ◌≡◌ {A = HeadMarks} (record { size = size; ignore_case = rule; table = c.mark.new.table }) (heads_with h pattern)) c.self.view_is
          (ap (λ (t : List ℕ). record { size = size; ignore_case = rule; table = t }) marked);
    }
