-- What the closure writes is the piece of each match, and it counts each.
use Rattle.acredact.proofs.Common.{pieces_of, rules, sym}
use Rattle.acredact.proofs.Counted.{lent_does}
use Rattle.acredact.proofs.redact.redact_counting.Goals as goal

pub returns : goal.returns
returns g c = λ p of.
    let call = c.try_stream_replace_all_with_mut in
    let can = c.requires.ready.begins in
    let (name, does) = lent_does g.W.Sink _ _ (λ f. f.0.ghost_name) (λ f. pieces_of f.1.now) (λ f. f.0.now) (λ f m matched old answer next new called. search rules)
    g.A.Automaton g.R.Source c.args.automaton.now p of (rw (g.met.A.Automaton.laws _ _ of).lengths_are at can.1) _ _ call.new.replace_with _ _ call.result (call.ensures.runs can) in
    let same = sym name in
    search rules
