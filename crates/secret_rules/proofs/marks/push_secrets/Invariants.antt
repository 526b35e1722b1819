use Rattle.std.proofs.Common.{◌≡◌, ◌++◌, ◌+◌, ◌-◌, false, length, map}
use Rattle.regex.specs.Search.{matches_after}
use Rattle.secret_rules.specs.Expressions.{expression_of, group_total}
use Rattle.secret_rules.specs.MarkLists.{marks_at}
use Rattle.secret_rules.specs.Secrets.{secret_in, secrets_in}
use Rattle.secret_rules.proofs.marks.push_secrets.Given as goal

abbrev pub invariant-matches : goal.invariant-matches
invariant-matches l = record {
  same : l.reader ≡ l.fn.reader;
  added : l.marks.items ++ marks_at l.rule (map (secret_in l.named (group_total l.fn.reader)) (matches_after false (expression_of l.fn.reader) l.line l.after))
      ≡ l.fn.marks.items ++ marks_at l.rule (secrets_in l.fn.reader l.named l.line);
}

abbrev pub decreases-matches : goal.decreases-matches
decreases-matches l = length l.line + 1 - l.after
