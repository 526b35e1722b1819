-- What the phases of a build make of the patterns.
use Rattle.std.specs.Prelude.{◌≡◌, map, length}
use Rattle.std.specs.Option.{is_some}
use Rattle.aho_core.specs.Patterns.{Patterns}
use Rattle.aho_prefilter.specs.Prefilter.{has_empty}
use Rattle.aho_table.specs.Table.{matches_in}
use Rattle.aho_build.specs.Automaton.{IsOf}
use Rattle.aho_build.specs.Dense.{AreDense, dense_size, HasBorders}
use Rattle.aho_build.specs.Prefilters.{Collects, held_by}
use Rattle.aho_build.specs.Refusals.{IsAccepted}
use Rattle.aho_build.specs.Shuffled.{IsInOrder}
use Rattle.aho_build.specs.Trie.{HoldsTrie}
use Rattle.aho_build.specs.TrieGrowth.{AreWithin}
use Rattle.aho_build.specs.declared.settings.Settings.{Settings}
use Rattle.aho_build.specs.declared.compiler.compiled.Compiled.{Compiled}
use Rattle.aho_build.specs.declared.compiler.trie.Trie.{Trie}

-- the trie of the patterns, which the limits accept, and what is kept beside it
pub record IsTrieMade (settings : Settings) (made : Trie) (p : Patterns) : Type 0 where
  pub lengths : made.lens.items ≡ map length p.words
  pub holds : HoldsTrie p made.table.states
  pub within : AreWithin settings p
  pub accepted : IsAccepted settings p
  pub collects : Collects settings p made.prefilter
  pub borders : HasBorders p made.borders

-- the automaton of the patterns, with the rows, the prefilter and the numbers of its states
pub record IsMade (settings : Settings) (made : Compiled) (p : Patterns) : Type 0 where
  pub automaton : IsOf p settings.kind made.pattern_lens.items made.special made.table.states
  pub rows : AreDense settings.dense_depth made.table.states made.table.rows
  pub dense_len : made.table.dense_len ≡ dense_size settings.dense_depth p
  pub prefilter : made.prefilter ≡ held_by settings p
  pub borders : HasBorders p made.table.classes
  pub order : IsInOrder (has_empty p) (is_some made.prefilter) made.special (matches_in made.table.states)
