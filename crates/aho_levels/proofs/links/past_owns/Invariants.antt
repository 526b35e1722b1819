use Rattle.std.proofs.Common.{◌≡◌, ℕ, ◌<◌, ◌≤◌, get_or}
use Rattle.aho_levels.specs.declared.trie.Own.{Own}
use Rattle.aho_levels.proofs.links.past_owns.Given as goal

abbrev pub invariant-loop-index : goal.invariant-loop-index
invariant-loop-index l = (i : ℕ) (d : Own) → l.from ≤ i → i < l.index → (get_or l.owns i d).state ≡ l.sid
