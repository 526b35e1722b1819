use Rattle.std.proofs.Common.{◌∙◌, sym, ap, arith}
use Rattle.aho_core.specs.Laws.{longest}
use Rattle.aho_build.proofs.SoundAutomata.{IsSound-automaton, AreStarts-automaton}
use Rattle.aho_build.proofs.ListLinks.{ListByLinks-automaton}
use Rattle.aho_corasick.proofs.noncontiguous.NFA.of_compiled.Goals as goal

pub invariant_of-result-clause-sound : goal.invariant_of-result-clause-sound
invariant_of-result-clause-sound c =
    let p = c.requires.of.0 in
    let of = c.requires.of.1 in
    let compiled = c.args.compiled in
    IsSound-automaton compiled.special p of.names compiled.table.states of.automaton
    (omega (arith, c.longest_len.ensures.longest, c.longest_len.ensures.bound, ap longest (sym of.lengths_are ∙ sym c.deref-2.ensures.value)))

pub invariant_of-result-clause-starts : goal.invariant_of-result-clause-starts
invariant_of-result-clause-starts c =
    let compiled = c.args.compiled in
    AreStarts-automaton compiled.special c.requires.of.0 c.requires.of.1.names compiled.table.states c.requires.of.1.automaton

pub invariant_of-result-clause-listed : goal.invariant_of-result-clause-listed
invariant_of-result-clause-listed c =
    let of = c.requires.of.1 in
    let compiled = c.args.compiled in
    ListByLinks-automaton compiled.special c.requires.of.0 of.names compiled.table.states of.automaton of.listed
