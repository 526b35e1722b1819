use Rattle.std.proofs.Common.{◌≡◌, ℕ, ◌+◌, ap, ◌∙◌, sym, subst, length, get_or, arith, rules, refl, inl, inr}
use Rattle.std.specs.Prelude.{List, ◌++◌, ◌∷◌, []}
use Rattle.aho_levels.proofs.Growth.{led-new}
use Rattle.aho_levels.specs.Growing.{IsLedToState}
use Rattle.aho_levels.specs.declared.tree.Tree.{Tree}
use Rattle.aho_levels.proofs.tree.Tree.add.Goals as goal

pub begin-requires-clause-within : goal.begin-requires-clause-within
begin-requires-clause-within c =
    let tree = c.requires.tree.2 in
    let may = c.requires.may in
    elim may [ inl lt ↦ omega (arith, tree.begun, lt) | inr same ↦ omega (arith, tree.begun, same.0) ]

pub begin-requires-clause-small : goal.begin-requires-clause-small
begin-requires-clause-small c = omega (arith, c.requires.tree.2.small)

pub returns-clause-child : goal.returns-clause-child
returns-clause-child c names word tree named deep =
    let made = c.in_ok-begin.ensures.begun in
    let count : length c.args.self.now.bytes.items ≡ c.new_unchecked.result = search rules in
    let now : Tree = record { firsts = c.push.new.self.firsts; bytes = c.push.new.self.bytes; depths = c.push.new.self.depths; parent = c.args.parent } in
    subst (λ (sid : ℕ). IsLedToState names (word ++ c.args.byte ∷ []) sid now) count
    (led-new names c.args.self.now now tree c.args.parent c.args.byte c.args.depth word named
    c.requires.may (omega (arith, c.if-count-as_usize.false)) deep c.requires.small
    (c.in_ok-push.ensures.bytes ∙ ap (λ (xs : List ℕ). xs ++ c.args.byte ∷ []) made.bytes)
    (c.in_ok-push.ensures.depths ∙ ap (λ (xs : List ℕ). xs ++ c.args.depth ∷ []) made.depths)
    (λ i.
    ap (λ (xs : List ℕ). get_or xs i (length c.args.self.now.bytes.items)) c.in_ok-push.ensures.firsts
    ∙ ap (λ (xs : List ℕ). get_or c.begin.new.self.firsts.items i (length xs)) (sym made.bytes) ∙ made.firsts i)
    (ap length c.in_ok-push.ensures.firsts ∙ made.begun ∙ ap (λ (k : ℕ). k + 1) c.as_usize-2.ensures.value)
    refl)
