use Rattle.std.proofs.Common.{None}
use Rattle.aho_laws.proofs.ClearCuts.{finds-clear}
use Rattle.aho_laws.proofs.SpanTexts.{finds-joined}
use Rattle.aho_laws.proofs.cuts.finds_at_clear_cuts.Goals as goal

pub returns-clause-spans : goal.returns-clause-spans
returns-clause-spans c = λ p haystack start cut end ms ns cut_is h k. finds-clear p cut_is.full ms ns haystack start cut end None None cut_is.after_start cut_is.before_end cut_is.clear h k

pub returns-clause-texts : goal.returns-clause-texts
returns-clause-texts c = λ p left right ms ns full clear h k. finds-joined p full left right ms ns clear h k
