-- Only memory may be wanting before the first file.
use Rattle.acredact.proofs.Common.{Err, redactor_of, rules, ◌≡◌}
use Rattle.acredact.proofs.Suited.{covering_is, job_unbegun}
use Rattle.acredact.proofs.files.cover_by.Goals as goal

pub returns-in_err-start : goal.returns-in_err-start
returns-in_err-start g c =
    let is : c.from_residual.result ≡ Err c.in_err-start.field-0.0 = search rules in λ p of.
    rw is (job_unbegun g.W.Write g.E.Sink g.F.Folder g.A.Automaton c.args.automaton.now c.args.job.now c.args.streams.now c.args.counts.now c.args.volume.now p
    (g.met.A.Automaton.laws _ _ of).lengths_are c.requires.ready c.requires.covers _ c.in_err-start.ensures.only c.in_err-start.ensures.refuses)

pub redact_flushed-requires : goal.redact_flushed-requires
redact_flushed-requires g c =
    let ready = c.requires.ready in
    record { ready = (redactor_of c.args.job.now ready.patterns, covering_is g.A.Automaton _ c.args.job.now ready.patterns ready.of _ _ _ c.requires.covers c.requires.made c.in_ok-start.ensures.of c.in_ok-start.ensures.unbegun) }

pub returns : goal.returns
returns g c = λ p of.
    c.redact_flushed.ensures (redactor_of c.args.job.now p) (covering_is g.A.Automaton _ c.args.job.now p of _ _ _ c.requires.covers c.requires.made c.in_ok-start.ensures.of c.in_ok-start.ensures.unbegun)
