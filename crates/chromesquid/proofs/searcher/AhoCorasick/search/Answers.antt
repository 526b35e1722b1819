use Rattle.chromesquid.proofs.Built.{engine_start}
use Rattle.chromesquid.proofs.searcher.AhoCorasick.search.Goals as goal

pub returns-then-is_allowed-clause-ok : goal.returns-then-is_allowed-clause-ok
returns-then-is_allowed-clause-ok c = λ answers.
    let start = engine_start c.args.input.now.anchored c.args.self.now c.built.ensures.some answers in
    c.find.ensures.ok start.0 (rw c.automaton.ensures.same (rw c.built.ensures.same start.1))
