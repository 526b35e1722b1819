-- What each run of the matches finds.
use Rattle.std.proofs.Common.{◌≡◌, ◌∙◌, [], ap, false, subst}
use Rattle.aho_stream.specs.FindRuns.{FindsAll, FindsSoFar}
use Rattle.aho_stream.specs.Iterators.{HasGiven, automaton_of}
use Rattle.aho_stream.proofs.FindRuns.{finds_along, run_all, run_so_far}
use Rattle.aho_stream.proofs.start.StreamStart.finds.Goals as goal

pub returns-clause-first : goal.returns-clause-first
returns-clause-first g c = λ p of run seen from.
    let chunks = c.over-2.result.chunks in
    let same = c.over-2.ensures.chunks in
    let here : g.A.Automaton.is_of (automaton_of chunks) p = rw (same, c.over.ensures.of.1) of in
    let after : HasGiven g.A.Automaton chunks p [] = rw (same, c.over.ensures.of.1, c.over.ensures.none, c.over.ensures.progress) (c.requires.fresh p of) in
    let unended : chunks.progress.ended ≡ false = rw (same, c.over.ensures.progress) c.requires.open in
    let below : chunks.progress.refused ≡ false = rw (same, c.over.ensures.progress) c.requires.below in
    let found = run_so_far g.A.Automaton g.R.Source (λ automaton p of. (g.met.A.Automaton.laws automaton p of).lengths_are) p c.over-2.result here after unended below run from in
    (found.0, subst (λ source. FindsSoFar g.R.Source p source.now found.0 run.items) (ap (λ it. it.source) same ∙ c.over.ensures.of.0) found.1)

pub returns-clause-finds : goal.returns-clause-finds
returns-clause-finds g c = λ p of run seen from whole unlimited.
    let chunks = c.over-2.result.chunks in
    let same = c.over-2.ensures.chunks in
    let here : g.A.Automaton.is_of (automaton_of chunks) p = rw (same, c.over.ensures.of.1) of in
    let after : HasGiven g.A.Automaton chunks p [] = rw (same, c.over.ensures.of.1, c.over.ensures.none, c.over.ensures.progress) (c.requires.fresh p of) in
    let unended : chunks.progress.ended ≡ false = rw (same, c.over.ensures.progress) c.requires.open in
    let below : chunks.progress.refused ≡ false = rw (same, c.over.ensures.progress) c.requires.below in
    let found = run_all g.A.Automaton g.R.Source (λ automaton p of. (g.met.A.Automaton.laws automaton p of).lengths_are) p c.over-2.result here after unended below run from whole unlimited in
    (found.0, subst (λ source. FindsAll g.R.Source p source.now found.0 run.items) (ap (λ it. it.source) same ∙ c.over.ensures.of.0) found.1)

pub returns-clause-along : goal.returns-clause-along
returns-clause-along g c = λ p of.
    let chunks = c.over-2.result.chunks in
    let same = c.over-2.ensures.chunks in
    let here : g.A.Automaton.is_of (automaton_of chunks) p = rw (same, c.over.ensures.of.1) of in
    let after : HasGiven g.A.Automaton chunks p [] = rw (same, c.over.ensures.of.1, c.over.ensures.none, c.over.ensures.progress) (c.requires.fresh p of) in
    let unended : chunks.progress.ended ≡ false = rw (same, c.over.ensures.progress) c.requires.open in
    let below : chunks.progress.refused ≡ false = rw (same, c.over.ensures.progress) c.requires.below in
    finds_along g.A.Automaton g.R.Source (λ automaton p of. (g.met.A.Automaton.laws automaton p of).lengths_are) p c.over-2.result here after unended below
