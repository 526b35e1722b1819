use Rattle.aho_automaton.proofs.Finds.{finds-fused, run-finds, run-first_finds}
use Rattle.aho_automaton.proofs.iter.FindIter.new.Goals as goal

pub returns-clause-finds : goal.returns-clause-finds
returns-clause-finds g c = λ p of run seen from whole. let h = run-finds g.A.Automaton.is_of p run whole in rw from at h of

pub returns-clause-first : goal.returns-clause-first
returns-clause-first g c = λ p of run seen from. let h = run-first_finds g.A.Automaton.is_of p run in rw from at h of

pub returns-clause-fused : goal.returns-clause-fused
returns-clause-fused g c = finds-fused g.A.Automaton.is_of _
