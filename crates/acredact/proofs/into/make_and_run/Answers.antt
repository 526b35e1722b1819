-- The new file is made and filled, or it is told why not.
use Rattle.acredact.proofs.Common.{Given, IsLineOf, IsRuledTold, List, OutputFails, RedactLines, RedactTexts, Some, aim_of, all_asked, ap, arith, call_of, eqb-true, false, inl, inr, is_check, refl, rules, subst, sym, true, ℕ, ◌==◌, ◌∙◌, ◌≡◌, ◌≤◌}
use Rattle.std.proofs.lemmas.Bool.{eqb-false}
use Rattle.acredact.specs.Arguments.{AsksAnyCheck, IsCheck}
use Rattle.acredact.specs.InPlace.{TakesPlace}
use Rattle.acredact.proofs.Given.{same_given}
use Rattle.acredact.proofs.RedactedCalls.{unput_told}
use Rattle.acredact.proofs.Statuses.{tells_one}
use Rattle.acredact.proofs.into.make_and_run.Goals as goal

-- what is no check is none of either kind
no_check_of : (arguments : List (List ℕ)) (given : List Given) → all_asked arguments ≡ Some given → is_check (aim_of given) ≡ false
    → ((items : List Given) × (all_asked arguments ≡ Some items) × AsksAnyCheck items) → ⊥
no_check_of arguments given right none (items, mine, asks) =
    let clash : true ≡ false = sym (subst AsksAnyCheck (same_given (all_asked arguments) given items right mine) asks) ∙ none in cc

-- so its status is 0 or 2
two_of : {Checks : Type 0} → (Checks → ⊥) → (status : ℕ) → status ≤ 2 → (status ≡ 1 → Checks) → (status == 0) ≡ false → status ≡ 2
two_of none status bound one some = omega (arith, λ (is : status ≡ 1). none (one is), eqb-false status 0 some)

pub returns-then-is_input-clause-tells : goal.returns-then-is_input-clause-tells
returns-then-is_input-clause-tells g c = λ given right asks failed. inl (tells_one g.E.Sink _ _ _ _ (inr (inr (search rules, refl))) c.tell_no_output.ensures.told)

pub returns-then-is_input-clause-ruled_tells : goal.returns-then-is_input-clause-ruled_tells
returns-then-is_input-clause-ruled_tells g c = λ given right asks failed. tells_one g.E.Sink _ _ _ _ (inr (inr (search rules, refl))) c.tell_no_output.ensures.told

pub returns-then-settle : goal.returns-then-settle
returns-then-settle g c =
    let ran = c.answer_to-status.ensures in
    let made = c.in-Ok.ensures in
    let (done, quiet, puts) = rw c.if-settle.true at c.settle.ensures in
    let zero : c.answer_to-status.result ≡ 0 = let is : (c.answer_to-status.result == 0) ≡ true = cc in eqb-true c.answer_to-status.result 0 is in
    let new : (IsCheck c.args.arguments.now → ⊥) → TakesPlace g.O.File.Write g.O.Outputs c.args.name.now c.args.outputs.now c.settle.new.outputs c.answer_to-status.new.streams.output = λ none.
    record { named = search rules; file = c.new.result; meanwhile = c.make.new.self; made = rw c.new.ensures.writer made.made; empty = rw c.new.ensures.writer made.empty; flushed = ran.flushed none zero; puts = puts } in
    record {
      writes = λ given right asks is. (new (no_check_of _ given right (ap is_check asks)), rw quiet ((ran.says given right RedactTexts asks).says.done zero));
      leaves = λ failed. absurd (failed refl);
      tells = λ given right asks failed. absurd (failed refl);
      ruled_writes = λ given right asks is. (new (no_check_of _ given right (ap is_check asks)), rw quiet ((ran.says given right RedactLines asks).done zero));
      ruled_tells = λ given right asks failed. absurd (failed refl);
    }

pub returns-else-settle : goal.returns-else-settle
returns-else-settle g c =
    let ran = c.answer_to-status.ensures in
    let (kept, unput) = rw c.if-settle.false at c.settle.ensures in
    record {
      writes = λ given right asks (zero : 2 ≡ 0). absurd (omega arith);
      leaves = λ failed. inr (inr (record { held = _; meanwhile = c.make.new.self; made = c.in-Ok.ensures.made; kept = kept }));
      tells = λ given right asks failed.
          let says = (ran.says given right RedactTexts asks).says in
          inr (
            c.new.result,
            c.make.new.self,
            rw c.new.ensures.writer c.in-Ok.ensures.made,
            unput_told g.E.Sink c.args.name.now (IsLineOf (call_of g.F.Folder c.args.folder.now given) (OutputFails c.new.result c.answer_to-status.new.streams.output)) _ _ _ _
                (λ line is. inl is) (λ reason. inr (inl (reason, refl))) unput says.told (λ none. says.tells (two_of (no_check_of _ given right (ap is_check asks)) c.answer_to-status.result ran.bound ran.one (cc))),
          );
      ruled_writes = λ given right asks (zero : 2 ≡ 0). absurd (omega arith);
      ruled_tells = λ given right asks failed.
          let says = ran.says given right RedactLines asks in
          unput_told g.E.Sink c.args.name.now (IsRuledTold (call_of g.F.Folder c.args.folder.now given)) _ _ _ _ (λ line is. inl is) (λ reason. inr (inl (reason, refl))) unput says.told
          (λ none. says.tells (two_of (no_check_of _ given right (ap is_check asks)) c.answer_to-status.result ran.bound ran.one (cc)));
    }

pub returns-in-Err-clause-tells : goal.returns-in-Err-clause-tells
returns-in-Err-clause-tells g c = λ given right asks failed. inl (tells_one g.E.Sink _ _ _ _ (inr (inl (c.in-Err.reason, refl))) c.tell_unread.ensures.told)

pub returns-in-Err-clause-ruled_tells : goal.returns-in-Err-clause-ruled_tells
returns-in-Err-clause-ruled_tells g c = λ given right asks failed. tells_one g.E.Sink _ _ _ _ (inr (inl (c.in-Err.reason, refl))) c.tell_unread.ensures.told
