-- Nothing is left of an even number of arguments below two.
use Rattle.std.proofs.Common.{◌++◌, sym, ap, ◌∙◌, append-nil}
use Rattle.aho_core.specs.Replacement.{pieces_of}
use Rattle.tool_parts.proofs.Pairs.{none_at_even, none_at_odd}
use Rattle.tool_parts.proofs.replace.split.Goals as goal

pub returns-clause-patterns : goal.returns-clause-patterns
returns-clause-patterns c =
    let (patterns, _, even) = c.loop-rest.invariant in
    let held = pieces_of c.loop-rest.patterns.items in
    sym (append-nil held) ∙ ap (λ l. held ++ l) (sym (none_at_even _ _ even c.loop-rest-test.false)) ∙ patterns

pub returns-clause-pieces : goal.returns-clause-pieces
returns-clause-pieces c =
    let (_, pieces, _) = c.loop-rest.invariant in
    let held = pieces_of c.loop-rest.pieces.items in
    sym (append-nil held) ∙ ap (λ l. held ++ l) (sym (none_at_odd _ _ c.loop-rest-test.false)) ∙ pieces
