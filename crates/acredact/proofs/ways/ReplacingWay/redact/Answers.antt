-- What is written is the redaction by the patterns of both, and why it ends early is told.
use Rattle.acredact.proofs.Common.{IfErr-weaker, pieces_of, rules}
use Rattle.aho_backward.specs.Searcher.{IsBackwardOf}
use Rattle.acredact.proofs.Redactions.{back_ends, never_refused, outcome_plain, uncounted}
use Rattle.acredact.proofs.ways.ReplacingWay.redact.Goals as goal

pub redact_counting-requires : goal.redact_counting-requires
redact_counting-requires g c = record { ready = c.requires.ready.1.ready }

pub returns-then-not-is_empty-clause-done : goal.returns-then-not-is_empty-clause-done
returns-then-not-is_empty-clause-done g c = λ red by. rw by.is (c.redact_counting.ensures red.patterns by.of)

pub try_stream_replace_all-requires : goal.try_stream_replace_all-requires
try_stream_replace_all-requires g c = record { of = (c.requires.ready.0.patterns, rw c.in-Some.is at c.requires.ready.1.walks) }

pub returns-in-Some-clause-done : goal.returns-in-Some-clause-done
returns-in-Some-clause-done g c = λ red by.
    let call = c.try_stream_replace_all in
    let some = rw (g.met.A.Automaton.laws _ _ by.of).lengths_are at by.ready.begins.1 in
    rw by.is
    (uncounted g.R.Source g.W.Sink _ call.result _ _ _ _ c.args.counts.now (search rules)
    (outcome_plain g.R.Source g.W.Sink red.patterns (pieces_of c.args.self.now.replacements.now) _ _ _ _ (IsBackwardOf g.B.Automaton c.in-Some.searcher.now) (rw c.in-Some.is at by.walks) some
    call.result call.ensures.leaves.replaced_all call.ensures.leaves.begun call.ensures.errors call.ensures.leaves.limit (IfErr-weaker call.result _ _ back_ends call.ensures.only)))

pub try_stream_replace_all-requires-in-None : goal.try_stream_replace_all-requires-in-None
try_stream_replace_all-requires-in-None g c = let ready = c.requires.ready.1.ready in record { of = (ready.patterns, ready.of); one_each = ready.besides }

pub returns-in-None-clause-done : goal.returns-in-None-clause-done
returns-in-None-clause-done g c = λ red by.
    let call = c.try_stream_replace_all-in-None in
    let some = rw (g.met.A.Automaton.laws _ _ by.of).lengths_are at by.ready.begins.1 in
    rw by.is
    (uncounted g.R.Source g.W.Sink _ call.result _ _ _ _ c.args.counts.now (search rules)
    (outcome_plain g.R.Source g.W.Sink red.patterns (pieces_of c.args.self.now.replacements.now) _ _ _ _ (g.A.Automaton.is_of c.args.self.now.automaton.now) by.of some
    call.result call.ensures.leaves.replaced call.ensures.leaves.begun call.ensures.errors call.ensures.leaves.limit (never_refused g.A.Automaton _ by.ready.begins call.result call.ensures.suits)))
