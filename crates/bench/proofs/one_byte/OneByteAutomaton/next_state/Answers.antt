use Rattle.std.proofs.Common.{◌≢◌, sym, ◌∙◌, ap, cond, eq-eqb, arith}
use Rattle.std.proofs.lemmas.Bool.Decides.{nat_tests}
use Rattle.bench.specs.OneByte.{held-next}
use Rattle.bench.proofs.one_byte.OneByteAutomaton.next_state.Goals as goal

pub returns-then-byte-self-clause-goes_on : goal.returns-then-byte-self-clause-goes_on
returns-then-byte-self-clause-goes_on c p of word held =
    held-next _ p _ word _ _ 1 of (sym (ap (λ t. cond t 1 0) (eq-eqb _ _ (c.if-byte-self.true ∙ c.self.view_is)))) held

pub returns-else-byte-self-clause-goes_on : goal.returns-else-byte-self-clause-goes_on
returns-else-byte-self-clause-goes_on c p of word held =
    let other : c.args.byte ≢ c.args.self.now = λ e. c.if-byte-self.false (e ∙ sym c.self.view_is) in
    held-next _ p _ word _ _ 0 of (grind (arith, nat_tests)) held
