use Rattle.std.proofs.Common.{◌≡◌, length, map}
use Rattle.aho_build.specs.TrieGrowth.{AreWithin}
use Rattle.aho_table.specs.Table.{IsWithinLimit}
use Rattle.aho_build.specs.Trie.{HoldsTrie}
use Rattle.aho_build.specs.Items.{patterns_of}
use Rattle.aho_build.specs.Dense.{HasBorders}
use Rattle.aho_build.specs.Prefilters.{Collects}
use Rattle.aho_build.specs.Settings.{in_force}
use Rattle.aho_build.specs.Refusals.{IsAccepted}
use Rattle.aho_build.proofs.compiler.trie.build_trie.Given as goal

abbrev pub invariant-loop-pattern : goal.invariant-loop-pattern
invariant-loop-pattern g l = record {
  lens : l.trie.lens.items ≡ map length (patterns_of l.settings l.yielded).words;
  trie : HoldsTrie (patterns_of l.settings l.yielded) l.trie.table.states;
  limit : l.trie.table.limit ≡ (in_force l.settings).id;
  within : AreWithin l.settings (patterns_of l.settings l.yielded);
  room : IsWithinLimit (in_force l.settings).id l.trie.table.states;
  accepted : IsAccepted l.settings (patterns_of l.settings l.yielded);
  bordered : HasBorders (patterns_of l.settings l.yielded) l.trie.borders;
  collected : Collects l.settings (patterns_of l.settings l.yielded) l.trie.prefilter;
}
