-- Each turn of the loop reads one byte more.
use Rattle.std.proofs.Common.{◌∙◌, refl, sym, subst, ap, arith, length}
use Rattle.aho_automaton.proofs.cover.CoverIter.advance.Goals as goal

pub loop-self-init : goal.loop-self-init
loop-self-init g c = record {
  can = c.requires.can;
  reads = record { over = record { same_automaton = refl; same_haystack = refl }; given = λ p n of h. h; no_more = omega arith };
}

pub loop-self-preserved : goal.loop-self-preserved
loop-self-preserved g c =
    let before = c.loop-self.invariant.reads in
    let more = c.read.ensures.reads in
    record {
      can = c.read.ensures.can;
      reads = record {
        over = record { same_automaton = more.over.same_automaton ∙ before.over.same_automaton; same_haystack = more.over.same_haystack ∙ before.over.same_haystack };
        given = λ p n of h. more.given p n (subst (λ x. g.A.Automaton.is_of x p) (sym before.over.same_automaton) of) (before.given p n of h);
        no_more = omega (arith, more.no_more, before.no_more);
      };
    }

pub loop-self-smaller : goal.loop-self-smaller
loop-self-smaller g c =
    let further = c.is_ready.ensures.further c.loop-self-test.true in
    omega (arith, further, c.read.ensures.one, ap length c.read.ensures.reads.over.same_haystack)
