-- A class for each byte, which tells the borders again.
use Rattle.std.proofs.Common.{◌≡◌, ℕ, ◌+◌, length, replicate, refl, sym, ap, ◌∙◌, rules, arith}
use Rattle.std.proofs.Math.ListN.{length-set}
use Rattle.aho_table.specs.Alphabet.{class_of}
use Rattle.aho_table.proofs.Classes.{class_of-first, class_of-border, class_of-none, class_of-byte, counted-first, counted-more, borders_of-counted, AreClasses-counted}
use Rattle.aho_table.proofs.alphabet.ByteClassSet.byte_classes.Goals as goal
use Rattle.aho_table.proofs.alphabet.ByteClassSet.byte_classes.Goals.{then-self-at, else-self-at}

pub loop-at-init : goal.loop-at-init
loop-at-init c =
    record { sized = search rules; class = sym (class_of-first c.self.inside.borders); counted = counted-first (replicate 256 0) c.self.inside.borders refl }

pub overflow_add-class : goal.overflow_add-class
overflow_add-class c = let class = c.loop-at.invariant.class in omega (arith, class_of-byte c.self.inside.borders c.loop-at.at)

pub loop-at-preserved : goal.loop-at-preserved
loop-at-preserved c =
    let class = c.loop-at.invariant.class in
    let more : c.if-self-at.class ≡ class_of c.self.inside.borders (c.loop-at.at + 1) =
    elim c.if-self-at.branch [
      | then-self-at w ↦ w.class-is ∙ ap (λ (n : ℕ). n + 1) class ∙ sym (class_of-border c.self.inside.borders c.loop-at.at w.if-self-at.true)
      | else-self-at w ↦ w.class-is ∙ class ∙ sym (class_of-none c.self.inside.borders c.loop-at.at w.if-self-at.false)
    ] in
    record {
      sized = length-set c.loop-at.classes (c.loop-at.at + 1) c.if-self-at.class ∙ c.loop-at.invariant.sized;
      class = more;
      counted = counted-more c.loop-at.classes c.self.inside.borders c.loop-at.at c.if-self-at.class (omega arith) more c.loop-at.invariant.counted;
    }

pub invariant_of-result : goal.invariant_of-result
invariant_of-result c =
    let last = c.loop-at-test.false in
    let sized = c.loop-at.invariant.sized in
    AreClasses-counted c.loop-at.classes c.self.inside.borders sized c.self.told (λ byte below. c.loop-at.invariant.counted byte (omega arith))

pub returns : goal.returns
returns c =
    let last = c.loop-at-test.false in
    let borders = borders_of-counted c.loop-at.classes c.self.inside.borders c.loop-at.invariant.sized c.self.told (λ byte below. c.loop-at.invariant.counted byte (omega arith)) in
    record { borders = borders ∙ c.self.view_is; sized = ap length borders ∙ c.self.told }
