-- The words before the place of the loop were added.
use Rattle.std.proofs.Common.{take}
use Rattle.aho_build.specs.Items.{patterns_of}
use Rattle.aho_build.specs.Settings.{default_settings}
use Rattle.aho_prefilter.specs.Taken.{HasTakenPacked}
use Rattle.compare.proofs.automata.packed_of.Given as goal

abbrev pub invariant-loop-word : goal.invariant-loop-word
invariant-loop-word l = HasTakenPacked l.builder (patterns_of (record default_settings { kind = l.fn.kind; ignore_case = l.ignore_case }) (take l.word-index l.words))
