use Rattle.chromesquid.proofs.Iterated.{finds-fused, run-finds, run-first_finds}
use Rattle.chromesquid.proofs.iter.FindIter.new.Goals as goal

pub returns-clause-finds : goal.returns-clause-finds
returns-clause-finds c = λ p of run seen from whole. let h = run-finds p run whole in rw from at h of

pub returns-clause-first : goal.returns-clause-first
returns-clause-first c = λ p of run seen from. let h = run-first_finds p run in rw from at h of

pub returns-clause-fused : goal.returns-clause-fused
returns-clause-fused c = finds-fused _
