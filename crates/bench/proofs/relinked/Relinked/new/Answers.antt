use Rattle.std.proofs.Common.{◌∙◌, length, sym, subst, ap, List, ℕ}
use Rattle.std.proofs.lemmas.List.{length-map}
use Rattle.aho_build.proofs.DenseSizes.{memory_of-sized}
use Rattle.aho_build.specs.Sizes.{IsSized}
use Rattle.aho_table.specs.Table.{State}
use Rattle.bench.proofs.Relinking.{dense_size-none}
use Rattle.bench.proofs.relinked.Relinked.new.Goals as goal

pub returns-clause-memory : goal.returns-clause-memory
returns-clause-memory c p of =
    memory_of-sized 0 p c.in_ok-copy_of.field-0 c.in-Ok.pattern_lens.items
    (subst (λ (states : List State). IsSized p states) (sym c.in_ok-copy_of.ensures.states) of.0.sized)
    (c.in_ok-copy_of.ensures.rows ∙ sym (dense_size-none p))
    (ap (λ (l : List ℕ). length l) (c.in-Ok.ensures.items ∙ c.pattern_lens.ensures.lens ∙ of.0.lengths_are) ∙ length-map p.words length)
