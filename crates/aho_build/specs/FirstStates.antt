-- The numbers of the two starts while a build makes its states, in the order of their creation: after DEAD and FAIL.
use Rattle.std.specs.Prelude.{ℕ}
use Rattle.aho_build.specs.declared.special.Special.{Special}

-- the root of the trie, where the searches start that are not anchored
abbrev pub root_id : ℕ
root_id = 2

-- where the anchored searches start
abbrev pub anchored_id : ℕ
anchored_id = 3

-- both, in the place of the starts that an automaton has once its states have the numbers that they keep
abbrev pub with_first_starts : Special → Special
with_first_starts special = record special { start_unanchored_id = root_id; start_anchored_id = anchored_id }
