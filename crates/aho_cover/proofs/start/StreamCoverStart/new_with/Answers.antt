-- Nothing was given and nothing written.
use Rattle.std.proofs.Common.{ℕ, ◌+◌, ◌/◌, refl, sym, ◌∙◌, ap, subst}
use Rattle.aho_cover.specs.declared.progress.CoverProgress.{CoverProgress}
use Rattle.aho_cover.specs.Words.{kept_with}
use Rattle.aho_cover.specs.Covers.{IsUnbegunWith}
use Rattle.aho_cover.proofs.Begun.{begun-covered, begun-held, begun-sound, kept-by}
use Rattle.aho_cover.proofs.start.StreamCoverStart.new_with.Goals as goal

pub returns-clause-unbegun : goal.returns-clause-unbegun
returns-clause-unbegun g c =
    let a = g.A.Automaton in
    let automaton = c.args.automaton.now in
    let check = c.in_ok-sid.ensures in
    let buffer = c.in_ok-buffer.buffer in
    let hand = c.in_ok-hand.hand in
    let least = kept-by c.args.words buffer.least c.max_pattern_len.result (a.lengths automaton) c.max_pattern_len.ensures.longest c.in_ok-buffer.ensures.all c.in_ok-buffer.ensures.words in
    subst (λ (s : CoverProgress). IsUnbegunWith c.args.words a automaton s) (sym c.new-2.ensures.made)
    (record {
      chosen = refl;
      unended = refl;
      standard = check.standard;
      no_empty = check.no_empty;
      is_state = check.valid;
      shallow = check.shallow;
      unread = refl;
      unfed = refl;
      sound = begun-sound buffer hand c.in_ok-sid.sid c.args.words least.1 c.in_ok-buffer.ensures.empty c.in_ok-hand.ensures.none c.in_ok-hand.ensures.whole (c.in_ok-hand.ensures.room ∙ ap (λ (n : ℕ). n / 2 + 1) c.min_buffer_len.ensures.least);
      covers = λ p rule haystack of. record {
        of = of;
        is_held = begun-held a automaton p haystack c.in_ok-sid.sid (check.begins p of);
        covered = begun-covered p rule haystack buffer hand c.in_ok-sid.sid c.args.words c.in_ok-buffer.ensures.empty c.in_ok-hand.ensures.none
            (least.0 ∙ ap (kept_with c.args.words) (g.met.A.Automaton.laws automaton p of).lengths_are);
      };
    })
