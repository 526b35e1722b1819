-- Where no match is given, all was walked, and no match in hand is settled.
use Rattle.std.proofs.Common.{◌≡◌, ◌∙◌, ap, subst, ℕ}
use Rattle.std.specs.Prelude.{None}
use Rattle.aho_core.specs.Answer.{IsAnswer}
use Rattle.aho_core.specs.Laws.{BestAfter}
use Rattle.aho_core.specs.declared.search.Anchored.TheVariants.{No}
use Rattle.aho_stream.specs.After.{search_from, word_of}
use Rattle.aho_stream.specs.Chunks.{NoneSettled}
use Rattle.aho_stream.specs.declared.progress.StreamProgress.{StreamProgress}
use Rattle.aho_stream.proofs.Advanced.{all_answered, all_told}
use Rattle.aho_stream.proofs.push.next_found.Goals as goal

pub returns-clause-finds : goal.returns-clause-finds
returns-clause-finds g c p given of a =
    let inv = c.loop-piece.invariant in
    let next = c.next_piece.ensures in
    let none = c.in_default.is in
    let u = c.next_piece.new.progress in
    let automaton = g.W.Walk.of c.args.walk.now in
    let from : u.from ≡ c.args.progress.now.from = ap (λ (t : StreamProgress). t.from) (next.none none) ∙ inv.from in
    let now = (rw inv.same_walk at next.after) p given of (inv.after p given of a) in
    let walked = (rw inv.same_walk at next.walked) none in
    let told =
    all_told g.W.Of.Automaton automaton p (g.met.W.Of.Automaton.laws automaton p of) (λ word other sid. g.met.W.Of.Automaton.alike automaton p word other sid of) _ u given now walked.0 walked.1 (next.near none)
    ((rw inv.same_walk at next.start) none) in
    record {
      settled = subst (NoneSettled p given) from told.settled;
      none = λ e.
          let free = (next.end none e).1 in
          subst (λ (x : ℕ). IsAnswer p (search_from x given) None) from
          (all_answered g.W.Of.Automaton automaton p _ u given now (walked.1 ∙ now.count) None (subst (BestAfter p No (word_of u given)) free now.best_is));
      from = from;
    }
