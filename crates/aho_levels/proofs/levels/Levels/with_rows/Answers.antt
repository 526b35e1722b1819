use Rattle.std.proofs.Common.{refl}
use Rattle.aho_core.specs.Replacement.{pieces_of}
use Rattle.aho_levels.specs.Building.{patterns_of_kind}
use Rattle.aho_levels.proofs.Reached.{items-folded}
use Rattle.aho_levels.proofs.levels.Levels.with_rows.Goals as goal

pub trie_of-requires-clause-items : goal.trie_of-requires-clause-items
trie_of-requires-clause-items c = (patterns_of_kind c.args.kind c.args.ignore_case (pieces_of c.args.patterns.now), refl, c.in_ok-ordered.ensures.items c.args.kind)

pub states_of-requires : goal.states_of-requires
states_of-requires c =
    let p = patterns_of_kind c.args.kind c.args.ignore_case (pieces_of c.args.patterns.now) in
    record { some = (p, refl, refl, c.in_ok-trie.ensures.trie p refl (c.in_ok-ordered.ensures.items c.args.kind)) }

pub returns-clause-of : goal.returns-clause-of
returns-clause-of c held =
    let p = patterns_of_kind c.args.kind c.args.ignore_case (pieces_of c.args.patterns.now) in
    let named = c.in_ok-states.ensures.naming p refl refl (c.in_ok-trie.ensures.trie p refl (c.in_ok-ordered.ensures.items c.args.kind)) in
    (record { kind_is = refl; lengths_are = c.in_ok-pattern_lens.ensures.lens; names = named.0; naming = named.1 }, held)

pub returns-clause-bytes : goal.returns-clause-bytes
returns-clause-bytes c =
    items-folded (patterns_of_kind c.args.kind c.args.ignore_case (pieces_of c.args.patterns.now)) 1 c.in_ok-ordered.ordered.text.items c.in_ok-ordered.ordered.items.items
    (c.in_ok-ordered.ensures.items c.args.kind)
