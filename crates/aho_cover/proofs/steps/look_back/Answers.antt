-- The law of the state that is held.
use Rattle.std.proofs.Common.{◌∙◌, sym, arith}
use Rattle.aho_cover.proofs.Back.{looked-back}
use Rattle.aho_cover.proofs.Reached.{sound-moved}
use Rattle.aho_cover.proofs.steps.look_back.Goals as goal

pub returns-clause-passes : goal.returns-clause-passes
returns-clause-passes g c rule p haystack written covers =
    let automaton = c.args.walk.now.automaton.now in
    let laws = g.met.A.Automaton.laws automaton p covers.of in
    looked-back g.A.Automaton automaton p haystack (sym laws.kind_is ∙ c.requires.can.1.standard) (λ word sid held. g.met.A.Automaton.reaches automaton p word sid covers.of held) rule c.args.progress.now c.args.at c.max-progress.result written covers
    (omega (arith, c.max-progress.ensures, c.saturating_sub.ensures, c.reach_back-back.ensures.reach))

pub returns-clause-sound : goal.returns-clause-sound
returns-clause-sound g c =
    sound-moved c.args.progress.now c.args.at c.args.at c.args.progress.now.sid c.max-progress.result c.requires.sound (omega arith) c.requires.sound.walked (omega (arith, c.max-progress.ensures, c.saturating_sub.ensures, c.requires.sound.since_walked))
