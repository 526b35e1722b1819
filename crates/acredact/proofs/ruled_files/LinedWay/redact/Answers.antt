-- What is written is the redaction by rules and patterns, and why it ends early is told.
use Rattle.acredact.proofs.RuledCalls.{lined_does}
use Rattle.acredact.proofs.ruled_files.LinedWay.redact.Goals as goal

pub cover_lines-self-requires : goal.cover_lines-self-requires
cover_lines-self-requires g c = record { ready = c.requires.ready.1.can }

pub returns : goal.returns
returns g c =
    let call = c.cover_lines-self in
    let same = call.ensures.same in
    record {
      done = λ ruling lined. rw (c.of_devices.ensures.devices, lined.is) (lined_does g.R.Source g.W.Sink _ _ _ _ _ ruling.covering.patterns lined.searched _ _ _ _ _ _ call.result call.ensures.leaves call.ensures.errors call.ensures.only);
      still = λ ruling lined. record { can = call.ensures.ready; searched = rw same.automaton lined.searched; is = rw (same.words, same.rules, same.most, call.ensures.rule) lined.is };
    }
