use Rattle.std.proofs.Common.{ℕ, Global, ap, arith}
use Rattle.std.specs.Prelude.{Vec}
use Rattle.secret_rules.proofs.Seen.{long-found, short-found}
use Rattle.secret_rules.proofs.open_line.OpenLine.find_seen.Goals as goal

pub returns-then-count-self-clause-sees : goal.returns-then-count-self-clause-sees
returns-then-count-self-clause-sees g c =
    let found = c.find_whole.ensures in
    long-found g.A.Automaton c.args.self.now c.find_whole.new.self c.args.count c.find_whole.result c.if-count-self.true c.requires.setting found.runs found.line found.marked

pub returns-clause-sees : goal.returns-clause-sees
returns-clause-sees g c =
    let found = c.find_runs.ensures in
    short-found g.A.Automaton c.args.self.now c.find_runs.new.self c.args.count c.find_runs.result (omega (arith, c.if-count-self.false)) found.runs (ap (λ (v : Vec ℕ Global). v.items) found.line) found.marked
