use Rattle.std.proofs.Common.{◌∙◌, [], refl, sym}
use Rattle.secret_rules.proofs.Keeping.{stands-unread}
use Rattle.secret_rules.proofs.Same.{setting-same}
use Rattle.secret_rules.proofs.TakenLines.{moved}
use Rattle.secret_rules.proofs.Visited.{Leaves}
use Rattle.secret_rules.proofs.visiting.visit_lines.Goals as goal

pub visit_from-requires-clause-setting : goal.visit_from-requires-clause-setting
visit_from-requires-clause-setting g c = setting-same g.A.Automaton _ _ _ _ (sym c.restart.ensures.setting) (sym c.restart.ensures.rules) c.requires.ready

pub visit_from-requires-clause-unbegun : goal.visit_from-requires-clause-unbegun
visit_from-requires-clause-unbegun g c = stands-unread c.restart.new.self 0 [] c.restart.ensures.marked c.restart.ensures.empty refl

pub returns-clause-leaves : goal.returns-clause-leaves
returns-clause-leaves g c =
    moved _ _ _ _ (λ x y. Leaves g.A.Automaton x y g.R.Source g.V.LineVisitor c.args.source.now c.args.visitor.now c.visit_from.new.source c.visit_from.new.visitor c.visit_from.result)
    c.restart.ensures.setting c.restart.ensures.rules c.visit_from.ensures.leaves

pub returns-clause-ready : goal.returns-clause-ready
returns-clause-ready g c =
    setting-same g.A.Automaton _ _ _ _ (sym (c.visit_from.ensures.setting ∙ c.restart.ensures.setting)) (sym (c.visit_from.ensures.rules ∙ c.restart.ensures.rules)) c.requires.ready
