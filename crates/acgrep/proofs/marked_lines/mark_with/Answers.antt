-- What is written is what the visits of lines leave.
use Rattle.acgrep.proofs.Common.{Covering}
use Rattle.std.proofs.Common.{subst, sym}
use Rattle.acgrep.specs.Marked.{asked_of}
use Rattle.acgrep.specs.MarkedFiles.{WalksLines}
use Rattle.acgrep.proofs.MarkedLines.{walked_lines, walked_same}
use Rattle.acgrep.proofs.marked_lines.mark_with.Goals as goal

pub returns-clause-walks : goal.returns-clause-walks
returns-clause-walks g c = λ covering by.
    subst (λ (b : Covering). WalksLines g.S.Source g.W.Sink (asked_of c.args.marked.task) c.args.marked.pass c.visit_lines-done.new.visitor.pass c.visit_lines-done.result c.args.source.now c.visit_lines-done.new.source c.args.marked.output.now c.visit_lines-done.new.visitor.output.now b) (sym by.is)
    (walked_lines _ g.W.Sink _ (λ v. v.output) (λ v. v.task) (λ v. v.pass) (λ v v' line runs is. is) (λ v v' line runs error is. is) g.S.Source _ _ _ _ _ _ _ covering.patterns by.searched c.visit_lines-done.result c.visit_lines-done.ensures.leaves)

pub returns-clause-same_output : goal.returns-clause-same_output
returns-clause-same_output g c =
    walked_same _ g.W.Sink _ (λ v. v.output) (λ v. v.task) (λ v. v.pass) (λ v v' line runs is. is) (λ v v' line runs error is. is) g.S.Source _ _ _ _ _ _ _ c.visit_lines-done.result c.visit_lines-done.ensures.leaves
