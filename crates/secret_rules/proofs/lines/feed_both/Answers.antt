use Rattle.std.proofs.Common.{[]}
use Rattle.secret_rules.proofs.lines.feed_both.Goals as goal

pub returns-clause-fed : goal.returns-clause-fed
returns-clause-fed g c = c.feed-2.ensures.more _ (c.feed.ensures.more [] c.begin.ensures.none)
