-- The input is read to its end, and what is told is what the visits of its lines leave.
use Rattle.acredact.proofs.Common.{LookedText, ap, inr, refl, rules, sym}
use Rattle.acredact.proofs.Looks.{looked_lines}
use Rattle.acredact.proofs.OneFile.{begun_writing, so_there}
use Rattle.acredact.proofs.teller.ByLinesLooker.look.Goals as goal

pub visit_lines-done-requires : goal.visit_lines-done-requires
visit_lines-done-requires g c = record { ready = c.requires.ready.1.can }

pub returns-clause-looks : goal.returns-clause-looks
returns-clause-looks g c =
    let run = c.visit_lines-done in
    let left = ap (λ device. g.I.Read.remaining device.reader) c.restart.ensures.device in
    λ s by.
    let told = looked_lines g.W.Sink _ _ (λ v v' line runs is. is) (λ v v' line runs error is. is) g.A.Automaton _ _ _ by _ _ refl refl run.result c.look_of_lines.result (c.look_of_lines.ensures.so (inr by.lines) c.as_bytes.result.now) run.ensures.leaves in
    let same = sym told.0 in
    rw by.is
    (so_there run.new.visitor.output.now _
    (λ there. LookedText (inr by.lines) c.args.name.now c.look_of_lines.result (g.I.Read.remaining c.args.input.now.device.reader) (g.I.Read.remaining run.new.source.device.reader) (g.W.Sink.taken c.args.output.now) (g.W.Sink.taken there))
    (search rules)
    (rw c.as_bytes.ensures.value at (begun_writing _ _ _ _ left c.restart.ensures.empty_reads run.new.source.ended told.1)))

pub returns-clause-still : goal.returns-clause-still
returns-clause-still g c =
    let run = c.visit_lines-done.ensures in
    λ s by. record { lines = by.lines; is = by.is; can = run.ready; searched = rw run.same.automaton by.searched; covers = rw (run.same.words, run.same.rules, run.same.most) by.covers; labels = by.labels }
