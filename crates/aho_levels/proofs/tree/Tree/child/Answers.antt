use Rattle.std.proofs.Common.{◌≡◌, ℕ, ◌-◌, ap, ◌∙◌, sym, subst, length, get_or, arith, rules}
use Rattle.std.proofs.lemmas.List.{get_or_read}
use Rattle.std.specs.Prelude.{◌++◌, ◌∷◌, []}
use Rattle.aho_levels.proofs.Growth.{led-last}
use Rattle.aho_levels.specs.Growing.{IsLedToState, byte_in}
use Rattle.aho_levels.proofs.tree.Tree.child.Goals as goal

pub returns-then-byte-below-clause-child : goal.returns-then-byte-below-clause-child
returns-then-byte-below-clause-child c names word tree named deep =
    let same : c.args.self.now.parent ≡ c.args.parent = search rules in
    let last : length c.args.self.now.bytes.items - 1 ≡ c.new_unchecked.result = search rules in
    let byte : byte_in c.args.self.now (length c.args.self.now.bytes.items - 1) ≡ c.args.byte =
    (let read : c.index-below.result.now ≡ get_or c.args.self.now.bytes.items (c.len-last.result - 1) 0 = get_or_read c.args.self.now.bytes.items (c.len-last.result - 1) c.index-below.result.now (omega (arith, tree.two)) c.index-below.ensures 0 in
    let count : length c.args.self.now.bytes.items ≡ c.len-last.result = search rules in
    ap (λ (n : ℕ). byte_in c.args.self.now (n - 1)) count ∙ sym read ∙ sym c.if-byte-below.true) in
    subst (λ (sid : ℕ). IsLedToState names (word ++ c.args.byte ∷ []) sid c.args.self.now) last
    (led-last names c.args.self.now c.args.self.now tree c.args.parent c.args.byte c.args.depth word named same byte)
