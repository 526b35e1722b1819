-- No match is longer than the longest pattern.
use Rattle.std.proofs.Common.{◌+◌, ◌≤◌, ℕ, List, sym, subst, arith}
use Rattle.aho_core.specs.Laws.{longest}
use Rattle.aho_laws.proofs.SettledRuns.{occurrence-near}
use Rattle.aho_automaton.proofs.find.find_begun.Goals as goal

pub find_skipping-requires-clause-reach : goal.find_skipping-requires-clause-reach
find_skipping-requires-clause-reach g c p of m o =
    let laws = g.met.W.Of.Automaton.laws (g.W.Walk.of c.args.walk.now) p of in
    let near : m.end ≤ m.start + longest (g.W.Of.Automaton.lengths (g.W.Walk.of c.args.walk.now)) =
    subst (λ (lengths : List ℕ). m.end ≤ m.start + longest lengths) (sym laws.lengths_are) (occurrence-near p _ m _ _ o) in
    omega (arith, near, c.max_pattern_len-reach.ensures.longest)
