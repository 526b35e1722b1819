-- Those so far, and those of what is left.
use Rattle.acredact.proofs.Common.{drop, map, pieces_of, secrets_of, ◌++◌, ◌≡◌}
use Rattle.acredact.specs.Tables.{piece_by}
use Rattle.acredact.proofs.patterns.replacements_of.Given as goal

abbrev pub invariant-loop-rule : goal.invariant-loop-rule
invariant-loop-rule l = pieces_of l.replacements.items ++ map (piece_by l.fn.text) (secrets_of (drop l.rule-index l.fn.rules)) ≡ map (piece_by l.fn.text) (secrets_of l.fn.rules)
