use Rattle.std.proofs.Common.{◌≡◌, ◌∙◌, ◌<◌, [], ℕ, List, ap, arith, inl, inr, length, sym}
use Rattle.std.proofs.lemmas.Bool.{cases_eq}
use Rattle.aho_laws.proofs.Kept.{is_node-root}
use Rattle.aho_levels.specs.Layout.{list_of_state}
use Rattle.aho_levels.proofs.Reached.{named-below, reached}
use Rattle.aho_levels.proofs.levels.Levels.most_listed.Goals as goal

pub returns-clause-most : goal.returns-clause-most
returns-clause-most c p of word node all =
    let t = c.args.self.now.states in
    let levels = of.0.naming.leads.levels in
    let there = reached p of.0.names t levels word node all in
    let within : there.0 < length t.bytes = omega (arith, named-below p of.0.names t levels there.0 word there.1, levels.sized) in
    omega (arith, c.most_listed.ensures.all there.0 within, ap (λ (l : List ℕ). length l) (of.0.naming.lists there.0 word there.1))

pub returns-clause-some : goal.returns-clause-some
returns-clause-some c p of =
    let t = c.args.self.now.states in
    let naming = of.0.naming in
    let levels = naming.leads.levels in
    let found = c.most_listed.ensures.some in
    elim (cases_eq found.0 0) [
      | inl dead ↦
          (let none : length (list_of_state t found.0) ≡ 0 = ap (λ (n : ℕ). length (list_of_state t n)) dead ∙ ap (λ (l : List ℕ). length l) naming.dead_list in
          let root : 1 < length t.bytes = omega (arith, named-below p of.0.names t levels 1 [] levels.root, levels.sized) in
          ([], is_node-root p, omega (arith, found.2, none, c.most_listed.ensures.all 1 root, ap (λ (l : List ℕ). length l) (naming.lists 1 [] levels.root))))
      | inr other ↦
          (let word = levels.complete found.0 (omega (arith, found.1, levels.sized)) other in
          (word.0, levels.nodes found.0 word.0 word.1, sym (ap (λ (l : List ℕ). length l) (naming.lists found.0 word.0 word.1)) ∙ found.2))
    ]
