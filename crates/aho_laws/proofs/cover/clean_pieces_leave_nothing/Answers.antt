use Rattle.aho_laws.proofs.CoverClean.{cover-again, cover-free}
use Rattle.aho_laws.proofs.cover.clean_pieces_leave_nothing.Goals as goal

pub returns-clause-clean : goal.returns-clause-clean
returns-clause-clean c = λ p haystack output pieces m clean cover. cover-free p pieces clean haystack output cover m

pub returns-clause-again : goal.returns-clause-again
returns-clause-again c = λ p haystack output again pieces clean. cover-again p pieces clean haystack output again
