-- Those so far, and those of what is left.
use Rattle.acredact.proofs.Common.{drop, map, pieces_of, ◌++◌, ◌≡◌}
use Rattle.acredact.specs.Ruled.{own_text}
use Rattle.acredact.proofs.ruled.texts_of.Given as goal

abbrev pub invariant-loop-rule : goal.invariant-loop-rule
invariant-loop-rule l = pieces_of l.texts.items ++ map (own_text l.usual) (drop l.rule-index l.line_rules) ≡ pieces_of l.initial.texts.items ++ map (own_text l.usual) l.line_rules
