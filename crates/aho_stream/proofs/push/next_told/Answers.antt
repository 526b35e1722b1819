-- Where no chunk is told, all was walked, and no match in hand is settled.
use Rattle.std.proofs.Common.{◌≡◌, ◌∙◌, ap, subst, ℕ, arith}
use Rattle.std.specs.Prelude.{None}
use Rattle.aho_core.specs.Answer.{IsAnswer}
use Rattle.aho_core.specs.Laws.{BestAfter}
use Rattle.aho_core.specs.declared.search.Anchored.TheVariants.{No}
use Rattle.aho_stream.specs.After.{search_from, word_of}
use Rattle.aho_stream.specs.Chunks.{NoneSettled}
use Rattle.aho_stream.specs.declared.progress.StreamProgress.{StreamProgress}
use Rattle.aho_stream.proofs.Advanced.{all_answered, all_told}
use Rattle.aho_stream.specs.Pushing.{TellsNoneYet}
use Rattle.aho_stream.proofs.Pushings.{tells_of_given}
use Rattle.aho_stream.proofs.push.next_told.Goals as goal

pub returns-clause-tells : goal.returns-clause-tells
returns-clause-tells g c p given of a =
    let next = c.next_piece.ensures in
    let s = c.args.progress.now in
    let u = c.next_piece.new.progress in
    let automaton = g.W.Walk.of c.args.walk.now in
    let none_yet : c.next_piece.result ≡ None → TellsNoneYet p s u given = λ none.
    let from : u.from ≡ s.from = ap (λ (t : StreamProgress). t.from) (next.none none) in
    let reported : u.reported ≡ s.reported = ap (λ (t : StreamProgress). t.reported) (next.none none) in
    let now = next.after p given of a in
    let walked = next.walked none in
    let told =
    all_told g.W.Of.Automaton automaton p (g.met.W.Of.Automaton.laws automaton p of) (λ word other sid. g.met.W.Of.Automaton.alike automaton p word other sid of) _ u given now walked.0 walked.1 (next.near none)
    (next.start none) in
    record {
      finds = record {
        settled = subst (NoneSettled p given) from told.settled;
        none = λ e.
            let free = (next.end none e).1 in
            subst (λ (x : ℕ). IsAnswer p (search_from x given) None) from
            (all_answered g.W.Of.Automaton automaton p _ u given now (walked.1 ∙ now.count) None (subst (BestAfter p No (word_of u given)) free now.best_is));
        from = from;
      };
      reported = reported;
      all = λ e. omega (arith, (next.end none e).0, now.reported_walked, now.walked_read, now.count);
    }
    in
    tells_of_given p s u given c.next_piece.result none_yet (next.tells p given of a)
