use Rattle.chromesquid.proofs.builder.AhoCorasickBuilder.build_by_levels.Goals as goal

pub returns-in_ok-engine-in-Hybrid-clause-worth : goal.returns-in_ok-engine-in-Hybrid-clause-worth
returns-in_ok-engine-in-Hybrid-clause-worth c = rw (← c.self.view_is) c.in_ok-engine-in-Hybrid.ensures.backward
