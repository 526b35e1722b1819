-- The last byte is white space or ends the line.
use Rattle.std.proofs.Common.{◌∙◌, sym}
use Rattle.acgrep.proofs.RuleTexts.{trimmed_end, trimmed_space}
use Rattle.acgrep.proofs.excluded.trimmed.Goals as goal

pub returns-then-not-is_space : goal.returns-then-not-is_space
returns-then-not-is_space c =
    let other = sym c.is_space.ensures.space ∙ c.if-not-is_space.true in
    record { cut = (rw (sym c.in-Some.ensures.cases.0) at (sym (trimmed_end c.in-Some.before.now c.in-Some.last.now other))) ∙ c.loop-last.invariant }

pub loop-last-preserved : goal.loop-last-preserved
loop-last-preserved c =
    let space = sym c.is_space.ensures.space ∙ c.if-not-is_space.false in
    (rw (sym c.in-Some.ensures.cases.0) at (sym (trimmed_space c.in-Some.before.now c.in-Some.last.now space))) ∙ c.loop-last.invariant
