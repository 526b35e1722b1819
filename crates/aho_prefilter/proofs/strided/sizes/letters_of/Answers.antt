use Rattle.std.proofs.Common.{◌≡◌, ℕ, ◌+◌, ◌≤◌, cond, zero, suc, Bool, true, false, List, refl, ap, ◌∙◌, arith}
use Rattle.std.proofs.lemmas.List.{get_or-replicate, take_all}
use Rattle.aho_core.specs.Replacement.{pieces_of}
use Rattle.aho_prefilter.specs.Sizes.{is_used, used_below}
use Rattle.aho_prefilter.proofs.strided.sizes.letters_of.Goals as goal

-- one number more
used_below-more : (words : List (List ℕ)) (count : ℕ) → used_below words (count + 1) ≡ used_below words count + cond (is_used words count) 1 0
unfolding used_below
used_below-more words count =
    let next : count + 1 ≡ suc count = omega arith in
    ap (λ n. used_below words n) next

used_below-few : (words : List (List ℕ)) (count : ℕ) → used_below words count ≤ count
unfolding used_below
used_below-few words zero = omega arith
used_below-few words (suc count) = one (is_used words count) (used_below-few words count)
  where
    one : (used : Bool) → used_below words count ≤ count → used_below words count + cond used 1 0 ≤ suc count
    one true few = omega (arith, few)
    one false few = omega (arith, few)

used_below-none : (words : List (List ℕ)) → 0 ≡ used_below words 0
unfolding used_below
used_below-none words = refl

pub loop-pattern-init : goal.loop-pattern-init
loop-pattern-init c = λ byte below. get_or-replicate 256 byte 0 0 below

pub loop-one-init : goal.loop-one-init
loop-one-init c =
    let all = ap pieces_of (take_all c.loop-pattern.pattern-index c.args.patterns.now c.loop-pattern-test.false) in (
      used_below-none (pieces_of c.args.patterns.now),
      λ byte below. c.loop-pattern.invariant byte below ∙ ap (λ (words : List (List ℕ)). cond (is_used words byte) 1 0) all,
    )

pub overflow_add-letters : goal.overflow_add-letters
overflow_add-letters c =
    record { fits = omega (arith, c.loop-one.invariant.0, used_below-few (pieces_of c.args.patterns.now) c.loop-one.one-index, c.loop-one-test.true, c.loop-one-test.element_fits.fits) }

pub loop-one-preserved : goal.loop-one-preserved
loop-one-preserved c =
    let words = pieces_of c.args.patterns.now in
    let one = c.loop-one.invariant.1 c.loop-one.one-index c.loop-one-test.true in (
      omega (arith, c.loop-one.invariant.0, one, used_below-more words c.loop-one.one-index),
      c.loop-one.invariant.1,
    )
