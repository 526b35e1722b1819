-- Each way out of the loop over candidates, and each turn.
use Rattle.std.proofs.Common.{arith}
use Rattle.std.proofs.lemmas.List.{nil_from_length}
use Rattle.aho_automaton.proofs.Endings.{nothing_here}
use Rattle.aho_automaton.proofs.PartWay.{none_further, place_low}
use Rattle.aho_automaton.proofs.Passed.{none_joined}
use Rattle.aho_automaton.proofs.overlapping.walk_on.Goals as goal

pub skips-preserved : goal.skips-preserved
skips-preserved g c =
    let of = c.requires.stands.1 in
    let there = c.in-Some.ensures.skips _ of (c.skips.invariant.stands _ of c.requires.stands.2) in
    let next = c.in-Some-walk_to.ensures.walks _ of there.1 in
    record {
      further = omega (arith, c.skips.invariant.further, there.0, next.0);
      stands = λ p is_of s. (c.in-Some-walk_to.ensures.walks p is_of (c.in-Some.ensures.skips p is_of (c.skips.invariant.stands p is_of s)).1).1;
      none = λ p is_of s.
          let from = c.in-Some.ensures.skips p is_of (c.skips.invariant.stands p is_of s) in
          let upto = c.in-Some-walk_to.ensures.walks p is_of from.1 in
          none_joined p c.args.input.now c.args.at c.skips.at _ (c.skips.invariant.none p is_of s)
          (none_joined p c.args.input.now c.skips.at c.in-Some.origin _ from.2
          (none_further p c.args.input.now c.in-Some.origin _ (place_low _ _ p c.args.input.now _ _ upto.1) upto.1.in_span
          (nothing_here (g.met.A.Automaton.laws c.args.automaton.now p is_of) c.requires.standard _ c.args.input.now _ _ c.requires.within upto.1 (nil_from_length _ (omega (arith, c.match_len.ensures.len, c.if-match_len-gt0.false))))
          upto.2));
    }
