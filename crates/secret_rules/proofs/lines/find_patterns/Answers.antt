use Rattle.std.proofs.Common.{List, sym, subst}
use Rattle.aho_core.specs.Occurrence.{Occurrence}
use Rattle.aho_cover.specs.Words.{CountsIn}
use Rattle.secret_rules.specs.Picking.{StandForAll}
use Rattle.secret_rules.proofs.Covered.{none-standing}
use Rattle.secret_rules.proofs.lines.find_patterns.Goals as goal

pub returns-in-Some : goal.returns-in-Some
returns-in-Some g c = record { stand = λ p searched. c.push_patterns.ensures.stand p (rw c.in-Some.is at searched) }

pub returns-in-None : goal.returns-in-None
returns-in-None g c = record {
  stand = λ p searched.
      let none = rw c.in-None.is at searched in
      subst (λ (found : List Occurrence). StandForAll (CountsIn c.args.setting.now.words p c.args.line.now) found) (sym c.clear.ensures.items) (none-standing c.args.setting.now.words p c.args.line.now none);
}
