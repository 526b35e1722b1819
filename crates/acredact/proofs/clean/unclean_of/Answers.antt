-- What is answered of the words, where pseudonyms are written, and else the piece at the place of the loop, or none of all.
use Rattle.acredact.proofs.Common.{ArePatterns, Bor, List, Patterns, ap, arith, false, length, length-map, pieces_of, rules, sym, true, ℕ, ◌∙◌, ◌≡◌}
use Rattle.acredact.proofs.Flaws.{clean_next, unclean_at}
use Rattle.acredact.proofs.clean.unclean_of.Goals as goal

-- there are as many pieces as patterns
one_each : (p : Patterns) (ignore_case : _) (words : List (Bor (List ℕ))) (count : ℕ) → ArePatterns p ignore_case (pieces_of words) → count ≡ length words → count ≡ length p.words
one_each p ignore_case words count are is = is ∙ sym (length-map words (λ word. word.now)) ∙ sym (ap length are.words_are)

pub loop-at-preserved : goal.loop-at-preserved
loop-at-preserved g c = λ p of are. clean_next p _ _ _ c.loop-at-test.true (c.loop-at.invariant p of are) (c.in-None.ensures.flaw p of are)

pub returns-in-Some : goal.returns-in-Some
returns-in-Some g c = record {
  judged = λ p of are.
      rw c.if-named.false
      (search rules, unclean_at p _ _ _ c.in-Some.flaw c.loop-at-test.true (one_each p _ _ _ are c.requires.one_each) (c.loop-at.invariant p of are) (c.in-Some.ensures.flaw p of are));
}

pub returns : goal.returns
returns g c = record {
  judged = λ p of are.
      rw c.if-named.false (λ covers number numbered. c.loop-at.invariant p of are number (omega (arith, numbered, c.loop-at-test.false, one_each p _ _ _ are c.requires.one_each)));
}
