use Rattle.std.proofs.Common.{◌≡◌, ℕ, ap, arith, length, subst}
use Rattle.aho_levels.specs.Layout.{StateTables}
use Rattle.aho_levels.specs.Listing.{AreListedTo}
use Rattle.aho_levels.proofs.Listing.{listed-all, listed-sound}
use Rattle.aho_levels.proofs.lists.list_patterns.Goals as goal

pub returns-clause-lists : goal.returns-clause-lists
returns-clause-lists c =
    let old = c.args.states.now in
    let all : c.loop-index.index ≡ length old.bytes =
    omega
    (arith, c.loop-index-test.false, c.loop-index.auto.index-end, c.len-index-end.ensures, c.states.inside.bytes.ok.0, ap (λ (t : StateTables). length t.bytes) c.states.view_is, ap length c.in_ok-list_none.ensures.same.trie.bytes, c.requires.can.sized.two) in
    listed-all c.args.owns.now c.loop-index.own old c.loop-index.states c.requires.can c.requires.all c.loop-index.invariant.same
    (subst (λ (n : ℕ). AreListedTo c.args.owns.now c.loop-index.own n c.loop-index.states) all c.loop-index.invariant.listed)

pub returns-clause-sound : goal.returns-clause-sound
returns-clause-sound c =
    let old = c.args.states.now in
    let all : c.loop-index.index ≡ length old.bytes =
    omega
    (arith, c.loop-index-test.false, c.loop-index.auto.index-end, c.len-index-end.ensures, c.states.inside.bytes.ok.0, ap (λ (t : StateTables). length t.bytes) c.states.view_is, ap length c.in_ok-list_none.ensures.same.trie.bytes, c.requires.can.sized.two) in
    listed-sound c.args.owns.now c.loop-index.own old c.loop-index.states c.requires.can c.requires.all c.loop-index.invariant.same
    (subst (λ (n : ℕ). AreListedTo c.args.owns.now c.loop-index.own n c.loop-index.states) all c.loop-index.invariant.listed)
