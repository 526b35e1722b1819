use Rattle.std.proofs.Common.{sym, ◌∙◌}
use Rattle.secret_rules.proofs.Picked.{PicksOne-pushed}
use Rattle.secret_rules.proofs.occurrences.push_one.Goals as goal

pub returns : goal.returns
returns c = record {
  picks = PicksOne-pushed c.args.words c.args.line.now c.args.m c.args.found.now.items c.push.new.self.items c.in_ok-push.ensures.items (sym c.counts.ensures.counts ∙ c.if-not-counts.false);
}
