use Rattle.std.proofs.Common.{◌∙◌, sym}
use Rattle.aho_hybrid.proofs.answers.rows_do_not_change_overlapping_finds.Goals as goal

pub returns-clause-alike : goal.returns-clause-alike
returns-clause-alike c = let of = c.requires.of in c.in_ok-by_nfa.ensures.all of.0 of.1 ∙ sym (c.in_ok-by_rows.ensures.all of.0 of.2)
