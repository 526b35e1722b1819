-- A pattern holds the first byte or the last, or nothing is found.
use Rattle.acredact.proofs.Common.{get_or, inl, inr, length, pieces_of, rules, ◌-◌}
use Rattle.acredact.proofs.Flaws.{clean_by, spells}
use Rattle.acredact.proofs.clean.flaw_of.Goals as goal

pub returns-in-Some : goal.returns-in-Some
returns-in-Some g c = record { flaw = λ p of are. spells p _ (pieces_of c.args.judge.now.words.now) are c.args.piece.now (get_or c.args.piece.now 0 0) _ (search rules) c.in-Some.ensures.holder (λ number held. inl held) }

pub returns-in-Some-holder_of : goal.returns-in-Some-holder_of
returns-in-Some-holder_of g c =
    let bytes = c.args.piece.now in
    record { flaw = λ p of are. spells p _ (pieces_of c.args.judge.now.words.now) are bytes (get_or bytes (length bytes - 1) 0) _ (search rules) c.in-Some-holder_of.ensures.holder (λ number held. inr (inl held)) }

pub returns-in-None-found_in : goal.returns-in-None-found_in
returns-in-None-found_in g c = record {
  flaw = λ p of are. clean_by p _ (pieces_of c.args.judge.now.words.now) are c.args.piece.now (search rules) c.in-None.ensures.holder c.in-None-holder_of.ensures.holder (c.in-None-found_in.ensures.none p of);
}
