-- No words are no lists.
use Rattle.std.proofs.Common.{◌∷◌, false, ℕ, List, [], min, sym, ap, subst, ◌∙◌, arith}
use Rattle.aho_table.specs.Lists.{PatternLists}
use Rattle.aho_table.specs.Words.{pattern_store, AreStored}
use Rattle.aho_table.proofs.Patterns.{AreLaid-none}
use Rattle.aho_table.proofs.Listed.{AreStored-none, pattern_store-none}
use Rattle.aho_table.proofs.lists.matches.MatchLists.new.Goals as goal

pub invariant_of-result : goal.invariant_of-result
invariant_of-result c =
    subst (λ (ws : List ℕ). AreStored ws c.new-2.result.items 1 c.min.result) (sym c.new.ensures.items)
    (subst (λ (ps : List ℕ). AreStored [] ps 1 c.min.result) (sym c.new-2.ensures.items)
    (AreStored-none c.min.result AreLaid-none (omega (arith, c.min.ensures, c.as_usize.ensures.value))))

pub returns : goal.returns
returns c = record {
  empty =
      ap (λ (ws : List ℕ). pattern_store ws c.new-2.result.items 1 c.min.result) c.new.ensures.items
      ∙ ap (λ (ps : List ℕ). pattern_store [] ps 1 c.min.result) c.new-2.ensures.items
      ∙ pattern_store-none c.min.result
      ∙ ap (λ (n : ℕ). let s : PatternLists = record { lists = [] ∷ []; closed = false ∷ []; count = 1; limit = n } in s) (c.min.ensures ∙ ap (min c.args.limit) c.as_usize.ensures.value);
}
