use Rattle.std.proofs.Common.{false, refl, subst}
use Rattle.std.specs.Prelude.{IsOk}
use Rattle.std.proofs.lemmas.Bool.{both_ways}
use Rattle.chromesquid.proofs.Built.{engine_start}
use Rattle.chromesquid.proofs.searcher.AhoCorasick.earliest_in.Goals as goal

pub unreachable-requires : goal.unreachable-requires
unreachable-requires g c =
    let start = engine_start c.args.anchored c.args.self.now c.built.ensures.some c.requires.starts in
    let ok = c.earliest_in.ensures.ok start.0 (rw c.automaton.ensures.same (rw c.built.ensures.same start.1)) in
    both_ways false refl (subst IsOk c.in-Err.is ok)
