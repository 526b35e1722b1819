use Rattle.std.proofs.Common.{◌<◌, ◌∙◌, length, refl, ap, arith}
use Rattle.aho_table.specs.Table.{Tables}
use Rattle.aho_build.proofs.FirstStates.{IsFilledBelow-none, IsFilledBelow-more}
use Rattle.aho_build.proofs.compiler.trie.init_full_state.Goals as goal

pub loop-byte-init : goal.loop-byte-init
loop-byte-init c = record {
  filled = IsFilledBelow-none c.args.sid c.args.next c.args.table.now.states c.requires.empty;
  limit = refl;
}

pub loop-byte-preserved : goal.loop-byte-preserved
loop-byte-preserved c =
    let below : c.args.sid < length c.loop-byte.table.states = omega (arith, c.loop-byte.invariant.filled.sized, c.requires.added) in
    record {
      filled = IsFilledBelow-more c.args.sid c.args.next c.loop-byte.byte c.args.table.now.states c.loop-byte.table.states c.set.new.self.states below c.loop-byte.invariant.filled
          (ap (λ (t : Tables). t.states) c.in_ok-set.ensures.set);
      limit = ap (λ (t : Tables). t.limit) c.in_ok-set.ensures.set ∙ c.loop-byte.invariant.limit;
    }
