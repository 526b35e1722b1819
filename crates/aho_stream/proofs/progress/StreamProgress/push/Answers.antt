-- What was put behind the bytes that are kept was given, since all before was searched through.
use Rattle.std.proofs.Common.{◌∙◌, ap}
use Rattle.aho_stream.specs.declared.progress.StreamProgress.{StreamProgress}
use Rattle.aho_stream.proofs.Pushings.{after_added}
use Rattle.aho_stream.proofs.Walks.{unsettled_none}
use Rattle.aho_stream.proofs.progress.StreamProgress.push.Goals as goal

pub returns-clause-pushes : goal.returns-clause-pushes
returns-clause-pushes g c =
    let s = c.args.self.now in
    let automaton = c.args.automaton.now in
    let adds = c.add.ensures.adds in
    let searched = (rw c.new.ensures.of at c.is_searched.ensures.searched) c.if-not-is_searched.false in
    record {
      is_after = λ p given of a. after_added g.A.Automaton automaton p s c.add.new.self given _ adds a
          (λ standard. unsettled_none (g.A.Automaton.kind automaton) (g.A.Automaton.dead automaton s.sid) s.in_hand searched.unsettled ((g.met.A.Automaton.laws automaton p of).kind_is ∙ standard))
          searched.walked searched.near c.if-self.false c.requires.open;
      from = ap (λ (t : StreamProgress). t.from) adds.others;
      ended = ap (λ (t : StreamProgress). t.ended) adds.others;
      refused = ap (λ (t : StreamProgress). t.refused) adds.others;
      limit = ap (λ (t : StreamProgress). t.limit) adds.others;
    }
