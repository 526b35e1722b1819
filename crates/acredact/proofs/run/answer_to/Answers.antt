-- The arguments are right or wrong.
use Rattle.acredact.proofs.Common.{Arguments, Call, CheckLines, CheckTexts, Err, Errors, Failure, IsFailureLine, IsRuledTold, IsWrongLine, Keeps-refl, List, None, Readers, RedactLines, RedactTexts, SinkGhosts, Some, Streams, TellsBytes, Writers, all_asked, all_given, ap, arith, call_of, inl, inr, refl, sym, texts, ℕ, ◌<◌, ◌∙◌, ◌≡◌}
use Rattle.acredact.specs.Statuses.{SaysOfAim}
use Rattle.acredact.specs.declared.mistakes.Mistake.TheVariants.{OutOfMemory}
use Rattle.acredact.specs.declared.options.Aim.{Aim}
use Rattle.acredact.specs.declared.options.Aim.TheVariants.{Explain}
use Rattle.acredact.proofs.Calls.{call_refused, tells_same}
use Rattle.acredact.proofs.Checks.{says_failed, status_ended}
use Rattle.acredact.proofs.Given.{memory_alone, same_given}
use Rattle.acredact.proofs.Outcomes.{comes_untold}
use Rattle.acredact.proofs.Statuses.{status_told, tells_one}
use Rattle.acredact.proofs.RuledCalls.{outcome_early, ruled_ends}
use Rattle.acredact.proofs.run.answer_to.Goals as goal

-- memory ran out before anything was done, and that is told
module _ {R W E : Type 0} {Reads : Readers R} (Writes : Writers W) (K : SinkGhosts E) (call : Call) (streams : Streams R W E Reads) (failure : Failure) (memory : failure ≡ Arguments OutOfMemory)
    (new : Errors E) (told : (line : List ℕ) × IsFailureLine failure line × TellsBytes K streams.errors new line) where
  ended_early : (aim : Aim) → SaysOfAim Writes K call 2 streams (record streams { errors = new }) aim
  ended_early Explain = tt
  ended_early RedactTexts = status_told Writes K call streams streams (Err failure) 2 new (λ none. tt) (λ none. record { unread = refl; unwritten = refl }) (refl, told) (call_refused Writes K call _ _ failure _ _ (inl (inl memory)))
  ended_early RedactLines = ruled_ends K call (Err failure) 2 _ _ _ _ streams.errors streams.errors new (refl, told) (outcome_early K call (inl (Keeps-refl _)) (tells_same K (IsRuledTold call) streams.errors streams.errors refl))
  ended_early CheckTexts = record {
    patternless = λ none. refl;
    unread = λ none. refl;
    says = status_ended K call _ _ streams.errors failure streams.errors new told.0 (comes_untold tt (inl (inl memory))) told.1 told.2;
    unwritten = refl;
  }
  ended_early CheckLines = record {
    says = says_failed _ _ _ _ (tells_one K (IsRuledTold call) streams.errors new told.0 (inr (inl (failure, told.1))) told.2);
    begins = inl (Keeps-refl _);
    unwritten = λ summary. refl;
    flushed = λ summary (less : 2 < 2). absurd (omega arith);
  }

pub returns-in-Ok : goal.returns-in-Ok
returns-in-Ok g c =
    let items = all_given c.as_slice.result.now in
    let mine : all_asked (texts c.args.arguments.now) ≡ Some items = c.in-Ok.ensures.given ∙ ap (λ l. Some (all_given l)) (sym c.as_slice.ensures.value) in
    record {
      wrong = λ wrong. let clash : None ≡ Some items = sym wrong ∙ mine in absurd (cc);
      idle = λ wrong. let clash : None ≡ Some items = sym wrong ∙ mine in absurd (cc);
      tells_wrong = λ wrong. let clash : None ≡ Some items = sym wrong ∙ mine in absurd (cc);
      says = λ given right. rw (same_given (all_asked (texts c.args.arguments.now)) given items right mine) at c.answer.ensures.says;
      flushed = λ redacts zero. c.answer.ensures.flushed (λ asks. redacts (items, mine, asks)) zero;
      bound = c.answer.ensures.bound;
      one = λ is. (items, mine, c.answer.ensures.one is);
    }

pub returns-in-Err : goal.returns-in-Err
returns-in-Err g c =
    let told = c.report.ensures.told in
    record {
      wrong = λ wrong. c.report.ensures.failed;
      idle = λ wrong. record { unread = refl; unwritten = refl };
      tells_wrong = λ wrong. tells_one g.E.Sink (IsWrongLine (texts c.args.arguments.now)) _ _ told.0 (Arguments c.in-Err.mistake, (c.in-Err.mistake, refl, c.in-Err.ensures.wrong), told.1) told.2;
      says = λ given right aim asks. rw c.report.ensures.failed
          (ended_early g.W.Write g.E.Sink (call_of g.F.Folder c.args.folder.now given) c.args.streams.now (Arguments c.in-Err.mistake) (ap Arguments (memory_alone _ given _ right c.in-Err.ensures.wrong)) c.report.new.errors told aim);
      flushed = λ redacts (zero : c.report.result ≡ 0). let clash : 2 ≡ 0 = sym c.report.ensures.failed ∙ zero in absurd (cc);
      bound = omega (arith, c.report.ensures.failed);
      one = λ (is : c.report.result ≡ 1). let clash : 2 ≡ 1 = sym c.report.ensures.failed ∙ is in absurd (cc);
    }
