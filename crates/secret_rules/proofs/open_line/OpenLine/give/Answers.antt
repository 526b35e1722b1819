use Rattle.std.proofs.Common.{refl}
use Rattle.std.proofs.lemmas.Result.{err_from_is_err_and}
use Rattle.secret_rules.proofs.Keeping.{stands-unread}
use Rattle.secret_rules.proofs.Seen.{fails-seen, misses-unseen, takes-seen}
use Rattle.secret_rules.proofs.open_line.OpenLine.give.Goals as goal

pub returns-in_err-find_seen-clause-misses : goal.returns-in_err-find_seen-clause-misses
returns-in_err-find_seen-clause-misses g c =
    let told = err_from_is_err_and c.from_residual.result c.from_residual.ensures.1 in
    rw (told.1, told.2) (λ before read stands. misses-unseen g.A.Automaton _ _ g.V.LineVisitor c.args.visitor.now before _ _ tt)

pub returns-in_err-visit-clause-misses : goal.returns-in_err-visit-clause-misses
returns-in_err-visit-clause-misses g c =
    let told = err_from_is_err_and c.from_residual-in_err-visit.result c.from_residual-in_err-visit.ensures.1 in
    rw (told.1, told.2) (λ before read stands. fails-seen g.A.Automaton c.args.self.now c.find_seen.new.self c.args.count.now before read stands g.V.LineVisitor c.args.visitor.now c.visit.new.self
    c.as_slice.result.now c.args.end.now c.as_slice-2.result.now c.in_err-visit.field-0.0 (c.in_ok-find_seen.ensures.sees before read stands) c.as_slice.ensures.value c.as_slice-2.ensures.value c.in_err-visit.ensures.stops)

pub returns-clause-takes : goal.returns-clause-takes
returns-clause-takes g c = λ before read stands.
    takes-seen g.A.Automaton c.args.self.now c.find_seen.new.self c.args.count.now before read stands g.V.LineVisitor c.args.visitor.now c.visit.new.self
    c.as_slice.result.now c.args.end.now c.as_slice-2.result.now (c.in_ok-find_seen.ensures.sees before read stands) c.as_slice.ensures.value c.as_slice-2.ensures.value c.in_ok-visit.ensures.visits

pub returns-clause-stands : goal.returns-clause-stands
returns-clause-stands g c = λ before read stands. stands-unread _ 0 _ (c.in_ok-find_seen.ensures.sees before read stands).marked c.clear.ensures.items refl
