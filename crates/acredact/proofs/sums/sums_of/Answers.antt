-- The counts are added to zeros.
use Rattle.acredact.proofs.Common.{append-nil, arith, length, rules, secrets_of, take_at, ◌∙◌, ◌≡◌}
use Rattle.std.proofs.lemmas.List.{drop_all}
use Rattle.acredact.proofs.Totals.{sums_are}
use Rattle.acredact.proofs.sums.sums_of.Goals as goal

pub returns : goal.returns
returns c =
    let sized : length c.add_counts.new.sums ≡ c.loop-rule.sums.len = search (rules, c.add_counts.ensures.grown.as_many) in
    let zeros = rw (drop_all c.loop-rule.rule-index c.args.rules.now (omega arith), append-nil) at c.loop-rule.invariant in
    record {
      sums = take_at c.add_counts.new.sums _ c.loop-rule.sums.len sized
          ∙ sums_are (secrets_of c.args.rules.now) c.args.counts.now c.loop-rule.sums.items c.add_counts.new.sums zeros
          (rw c.as_mut_slice.ensures.value at c.add_counts.ensures.grown);
    }
