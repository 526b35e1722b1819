use Rattle.std.proofs.Common.{arith, ℕ, ◌≡◌, ◌++◌, ◌∷◌, [], ◌∙◌, sym, true, false}
use Rattle.std.specs.Prelude.{slice_range}
use Rattle.std.proofs.lemmas.Grind.{common_steps}
use Rattle.aho_core.specs.Bytes.{is_same_word}
use Rattle.aho_core.specs.Occurrence.{occurrence}
use Rattle.aho_core.specs.Patterns.{pattern_at}
use Rattle.aho_laws.proofs.Ranges.{tested_step, untested_step}
use Rattle.bench.proofs.listing.push_at.Goals as goal
use Rattle.bench.proofs.listing.push_at.Goals.{then-stands_at+in_ok-push, else-stands_at}

pub loop-number-preserved : goal.loop-number-preserved
loop-number-preserved c =
    let test = λ (number : ℕ). is_same_word c.args.patterns.now (pattern_at c.args.patterns.now number) (slice_range c.args.haystack.now c.args.at.start c.args.at.end) in
    let made = occurrence c.args.at.start c.args.at.end in
    elim c.if-stands_at.branch [
      | then-stands_at+in_ok-push w ↦
          let passes : test c.loop-number.number ≡ true = sym c.stands_at.ensures.stands_at ∙ w.if-stands_at.true in
          let grown : c.if-stands_at.found.items ≡ c.loop-number.found.items ++ made c.loop-number.number ∷ [] =
          grind (arith, common_steps, w.in_ok-push.ensures.items, w.found-is, w.match_at.ensures.match_at) in
          tested_step made test c.loop-number.number c.args.found.now.items c.loop-number.found.items
          c.if-stands_at.found.items c.loop-number.invariant passes grown
      | else-stands_at w ↦
          let fails : test c.loop-number.number ≡ false = sym c.stands_at.ensures.stands_at ∙ w.if-stands_at.false in
          rw w.found-is
          (untested_step made test c.loop-number.number c.args.found.now.items c.loop-number.found.items
          c.loop-number.invariant fails)
    ]
