use Rattle.std.proofs.Common.{◌≡◌, ◌∙◌, ℕ, [], ◌∷◌, reverse, refl, sym, ap, subst}
use Rattle.std.proofs.lemmas.List.{reverse-append}
use Rattle.acdraw.specs.Words.{IsAheadOf, IsWordOf}
use Rattle.acdraw.proofs.Words.{ahead_more, ahead_all}
use Rattle.acdraw.proofs.picture.words.word_of.Goals as goal

pub loop-reached-preserved : goal.loop-reached-preserved
loop-reached-preserved c =
    let led = c.in-Some.ensures.reached in
    let word : reverse c.push.new.self.items ≡ c.in-Some.reached.byte ∷ reverse c.loop-reached.word.items =
    ap (reverse {A = ℕ}) c.in_ok-push.ensures.items ∙ reverse-append c.loop-reached.word.items (c.in-Some.reached.byte ∷ []) in
    record {
      within = led.within;
      ahead = subst
          (IsAheadOf c.args.nfa.now c.args.sid c.in-Some.reached.from)
          (sym word)
          (ahead_more c.args.nfa.now c.args.sid c.loop-reached.at c.in-Some.reached (reverse c.loop-reached.word.items) led c.loop-reached.invariant.ahead);
    }

pub returns : goal.returns
returns c = record {
  word = subst
      (IsWordOf c.args.nfa.now c.args.sid)
      (sym c.reverse.ensures.items)
      (ahead_all c.args.nfa.now c.args.sid c.loop-reached.at (reverse c.loop-reached.word.items) c.requires.within (c.in_default.ensures.unreached refl) c.loop-reached.invariant.ahead);
}
