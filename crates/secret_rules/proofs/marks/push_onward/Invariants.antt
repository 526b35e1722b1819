use Rattle.std.proofs.Common.{◌≡◌, ◌⊎◌, ◌↔◌, ◌++◌, ◌+◌, ◌-◌, false, length, map, IsTrue}
use Rattle.regex.specs.Patterns.{span}
use Rattle.regex.specs.Search.{matches_after}
use Rattle.secret_rules.specs.Expressions.{expression_of}
use Rattle.secret_rules.specs.MarkLists.{HasOneOpen, marks_at, onward}
use Rattle.secret_rules.specs.Secrets.{match_ranges}
use Rattle.secret_rules.proofs.marks.push_onward.Given as goal

abbrev pub invariant-matches : goal.invariant-matches
invariant-matches l = record {
  same : l.reader ≡ l.fn.reader;
  added : l.marks.items ++ marks_at l.rule (map (onward l.line) (map span (matches_after false (expression_of l.fn.reader) l.line l.after)))
      ≡ l.fn.marks.items ++ marks_at l.rule (map (onward l.line) (match_ranges l.fn.reader l.line));
  opened : (IsTrue l.goes_on ⊎ HasOneOpen l.text l.line (map span (matches_after false (expression_of l.fn.reader) l.line l.after)))
      ↔ HasOneOpen l.text l.line (match_ranges l.fn.reader l.line);
}

abbrev pub decreases-matches : goal.decreases-matches
decreases-matches l = length l.line + 1 - l.after
