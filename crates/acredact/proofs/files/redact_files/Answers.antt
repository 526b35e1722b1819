-- The automaton replaces by its patterns, and what walks backward by the same.
use Rattle.acredact.proofs.Common.{false, redactor_of, rules, ◌≡◌}
use Rattle.acredact.proofs.Suited.{redactor_is}
use Rattle.acredact.proofs.files.redact_files.Goals as goal

pub redact_flushed-requires : goal.redact_flushed-requires
redact_flushed-requires g c =
    let plain : c.args.job.now.covers ≡ false = search rules in
    let (p, of, walks) = c.requires.both in
    record { ready = (redactor_of c.args.job.now p, redactor_is g.A.Automaton _ c.args.job.now p of g.B.Automaton _ walks c.requires.ready plain) }

pub returns : goal.returns
returns g c =
    let plain : c.args.job.now.covers ≡ false = search rules in λ p of walks.
    c.redact_flushed.ensures (redactor_of c.args.job.now p) (redactor_is g.A.Automaton _ c.args.job.now p of g.B.Automaton _ walks c.requires.ready plain)
