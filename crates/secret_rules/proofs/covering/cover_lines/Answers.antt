use Rattle.std.proofs.Common.{◌∙◌, [], sym}
use Rattle.secret_rules.specs.OpenLines.{line_rules}
use Rattle.secret_rules.proofs.Ending.{stands-next}
use Rattle.secret_rules.proofs.Same.{leaves-same, setting-same}
use Rattle.secret_rules.proofs.covering.cover_lines.Goals as goal

pub cover_from-requires-clause-setting : goal.cover_from-requires-clause-setting
cover_from-requires-clause-setting g c = setting-same g.A.Automaton _ _ _ _ (sym c.restart.ensures.setting) (sym c.restart.ensures.rules) c.requires.ready

pub cover_from-requires-clause-unbegun : goal.cover_from-requires-clause-unbegun
cover_from-requires-clause-unbegun g c = stands-next g.P.Pieces c.restart.new.self c.args.pieces.now [] c.restart.ensures.marked c.restart.ensures.empty c.restart.ensures.short

pub returns-clause-leaves : goal.returns-clause-leaves
returns-clause-leaves g c =
    leaves-same g.A.Automaton c.restart.new.self.setting c.args.cover.now.open_line.setting (line_rules c.restart.new.self) (line_rules c.args.cover.now.open_line) _ g.R.Source g.W.Sink _ _ _ _ _ _ _
    c.restart.ensures.setting c.restart.ensures.rules c.cover_from.ensures.leaves

pub returns-clause-ready : goal.returns-clause-ready
returns-clause-ready g c =
    setting-same g.A.Automaton _ _ _ _ (sym (c.cover_from.ensures.setting ∙ c.restart.ensures.setting)) (sym (c.cover_from.ensures.rules ∙ c.restart.ensures.rules)) c.requires.ready
