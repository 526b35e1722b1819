-- From a start that lists nothing to the next candidate.
use Rattle.std.proofs.Common.{sym, arith}
use Rattle.aho_automaton.proofs.Passed.{skips_to}
use Rattle.aho_automaton.proofs.overlapping.next_origin.Goals as goal

pub returns : goal.returns
returns g c = record {
  skips = λ p of s.
      let held = rw c.in-Some.is at c.requires.held in
      let is_of = rw held at (g.met.A.Automaton.prefilters c.args.automaton.now p of) in
      skips_to (g.met.A.Automaton.laws c.args.automaton.now p of) c.requires.standard _ c.args.input.now (omega (arith, c.end.ensures.within)) (rw c.in-Some.is at c.requires.unanchored) _ _ s
      (c.may_skip.ensures.starts c.if-not-may_skip.false) (c.may_skip.ensures.lists_none c.if-not-may_skip.false)
      c.find_in.result c.into_option.result
      (rw (c.haystack.ensures.haystack, c.end.ensures.end) at (c.find_in.ensures.candidate p is_of)) (sym c.into_option.ensures.place);
}
