use Rattle.std.proofs.Common.{◌≡◌, ◌∙◌, ℕ, arith, length, subst}
use Rattle.aho_corasick.specs.ReadOut.{states_of}
use Rattle.aho_hybrid.specs.Filled.{AreShared}
use Rattle.aho_hybrid.proofs.Shared.{places-all, shared-more}
use Rattle.aho_hybrid.proofs.lists.share_lists.Goals as goal

pub loop-index-preserved : goal.loop-index-preserved
loop-index-preserved c =
    let states = states_of c.args.nfa.now in
    record {
      shared = shared-more states c.loop-index.index c.loop-index.lists c.share_list.new.lists c.loop-index.invariant.shared c.share_list.ensures.shared;
      words = c.share_list.ensures.shared.words ∙ c.loop-index.invariant.words;
    }

pub returns-clause-placed : goal.returns-clause-placed
returns-clause-placed c =
    let states = states_of c.args.nfa.now in
    let all : c.loop-index.index ≡ length states = omega (arith, c.loop-index-test.false, c.loop-index.auto.index-end, c.states_len-index-end.ensures.len) in
    places-all states c.loop-index.lists (subst (λ (n : ℕ). AreShared states n c.loop-index.lists) all c.loop-index.invariant.shared)
