-- What is left decides.
use Rattle.std.proofs.Common.{◌≡◌, drop}
use Rattle.acgrep.specs.Rules.{begins_by_including, leaves_file, leaves_folder, rules_said}
use Rattle.acgrep.proofs.rules.is_left_out.Given as goal

abbrev pub invariant-loop-own : goal.invariant-loop-own
invariant-loop-own l = leaves_folder (rules_said l.fn.rules) l.fn.given l.fn.name ≡ leaves_folder (rules_said (drop l.own-index l.fn.rules)) l.fn.given l.fn.name

abbrev pub invariant-loop-rule : goal.invariant-loop-rule
invariant-loop-rule l = leaves_file (rules_said l.fn.rules) l.fn.given l.fn.name (begins_by_including (rules_said l.fn.rules)) ≡ leaves_file (rules_said (drop l.rule-index l.fn.rules)) l.fn.given l.fn.name l.left
