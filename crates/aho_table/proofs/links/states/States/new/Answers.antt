-- No states, and stores without lists.
use Rattle.std.proofs.Common.{◌≡◌, ℕ, List, [], ◌∷◌, false, min, sym, ap, subst, ◌∙◌, arith}
use Rattle.aho_table.specs.Lists.{Lists, PatternLists}
use Rattle.aho_table.specs.Inside.{recorded_states, IsConsistent}
use Rattle.aho_table.specs.declared.links.states.Record.{Record}
use Rattle.aho_table.proofs.Records.{recorded_states-none, same_table}
use Rattle.aho_table.proofs.Changes.{IsConsistent-none}
use Rattle.aho_table.proofs.links.states.States.new.Goals as goal

limit_is : (given greatest kept : ℕ) → kept ≡ min given greatest → greatest ≡ 2147483646 → kept ≡ min given 2147483646
limit_is given greatest kept is same = is ∙ ap (min given) same

pub invariant_of-result : goal.invariant_of-result
invariant_of-result c =
    let limit = limit_is c.args.limit c.as_usize.result c.min.result c.min.ensures c.as_usize.ensures.value in
    subst (λ (rs : List Record). IsConsistent rs c.new-2.result c.new-3.result c.min.result) (sym c.new.ensures.items)
    (IsConsistent-none c.new-2.result c.new-3.result c.min.result (omega arith)
    (c.new-2.ensures.empty ∙ ap (λ (n : ℕ). let s : Lists (ℕ × ℕ) = record { lists = [] ∷ []; limit = n } in s) (sym limit))
    (c.new-3.ensures.empty ∙ ap (λ (n : ℕ). let s : PatternLists = record { lists = [] ∷ []; closed = false ∷ []; count = 1; limit = n } in s) (sym limit)))

pub returns : goal.returns
returns c = record {
  empty = same_table
      (ap (recorded_states c.new-2.result.lists c.new-3.result.lists) c.new.ensures.items ∙ recorded_states-none c.new-2.result.lists c.new-3.result.lists)
      (limit_is c.args.limit c.as_usize.result c.min.result c.min.ensures c.as_usize.ensures.value);
}
