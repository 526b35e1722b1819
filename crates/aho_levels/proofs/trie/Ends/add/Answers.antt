use Rattle.std.proofs.Common.{◌≡◌, ◌<◌, rules}
use Rattle.std.proofs.lemmas.Result.{on_ok_weaker}
use Rattle.aho_levels.proofs.Ended.{ends-first, ends-next}
use Rattle.aho_levels.proofs.trie.Ends.add.Goals as goal

pub returns-then-gt-clause-ends : goal.returns-then-gt-clause-ends
returns-then-gt-clause-ends c =
    let unpassed : c.args.self.now.passed < c.args.own.state = search rules in
    let above : c.args.self.now.last.state < c.args.own.state = search rules in
    on_ok_weaker c.push.result (λ pushed. ends-first c.args.self.now c.push.new.self c.args.own c.requires.ends unpassed above pushed) c.push.ensures.pushed

pub returns-clause-ends : goal.returns-clause-ends
returns-clause-ends c =
    let unpassed : c.args.self.now.passed < c.args.own.state = search rules in
    let same : c.args.self.now.last.state ≡ c.args.own.state = search rules in
    let more : c.args.self.now.last.number < c.args.own.number = search rules in
    on_ok_weaker c.push-2.result (λ pushed. ends-next c.args.self.now c.push-2.new.self c.args.own c.requires.ends unpassed same more pushed) c.push-2.ensures.pushed
