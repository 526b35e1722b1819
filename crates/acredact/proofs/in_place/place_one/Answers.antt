-- A new file is made, filled, and takes the place; or the file stays as it was.
use Rattle.acredact.proofs.Common.{IsSparedLine, inl, inr, refl, rules}
use Rattle.acredact.proofs.RedactedCalls.{place_cut, place_settled, place_spared}
use Rattle.acredact.proofs.Statuses.{tells_one}
use Rattle.acredact.proofs.in_place.place_one.Goals as goal

pub returns-then-is_input : goal.returns-then-is_input
returns-then-is_input g c = λ p of.
    place_spared (inl (search rules, refl)) (tells_one g.E.Sink (IsSparedLine c.args.name.now) _ _ _ (inr (search rules, refl)) c.tell_no_file.ensures.told)

pub returns-in-Err : goal.returns-in-Err
returns-in-Err g c = λ p of.
    place_spared (inr (inl (c.in-Err.reason, c.in-Err.ensures.made))) (tells_one g.E.Sink (IsSparedLine c.args.name.now) _ _ _ (inl (c.args.name.now, inl refl, inl (c.in-Err.reason, refl))) c.tell_unread.ensures.told)

pub returns-then-matches : goal.returns-then-matches
returns-then-matches g c = λ p of.
    place_cut c.make.new.self c.new.result (rw c.new.ensures.writer c.in-Ok.ensures.made) (c.redact_by-done.ensures.done p of) c.remove.ensures.removed

pub returns-else-matches : goal.returns-else-matches
returns-else-matches g c = λ p of.
    let made = c.in-Ok.ensures in
    place_settled c.make.new.self c.new.result (rw c.new.ensures.writer made.made) (c.redact_by-done.ensures.done p of) (search rules) (rw c.new.ensures.writer made.empty) c.settle.ensures
