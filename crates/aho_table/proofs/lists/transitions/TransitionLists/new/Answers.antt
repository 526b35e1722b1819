-- There is the entry at index 0 alone, which is no list.
use Rattle.std.proofs.Common.{List, [], length, min, ap, ◌∙◌}
use Rattle.aho_table.specs.Rings.{lists_of}
use Rattle.aho_table.specs.ListsInside.{transition_entries, with_first}
use Rattle.aho_table.specs.declared.lists.transitions.Transition.{Transition}
use Rattle.aho_table.proofs.Stores.{lists_of-one, same_store}
use Rattle.aho_table.proofs.lists.transitions.TransitionLists.new.Goals as goal

pub returns : goal.returns
returns c = record {
  empty = same_store
      (ap (λ (es : List Transition). lists_of (transition_entries (with_first es)) (length (with_first es))) c.new.ensures.items ∙ lists_of-one (transition_entries (with_first [])))
      (c.min.ensures ∙ ap (min c.args.limit) c.as_usize.ensures.value);
}
