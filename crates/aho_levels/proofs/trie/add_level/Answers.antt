use Rattle.std.proofs.Common.{◌≡◌, ◌∙◌, sym, refl, ap, subst, ℕ, ◌+◌, ◌<◌, length, take, get_or, arith}
use Rattle.std.specs.Prelude.{Some, None, ◌++◌, ◌∷◌, []}
use Rattle.aho_core.specs.Trie.{pattern_word}
use Rattle.aho_core.specs.declared.search.MatchKind.{MatchKind}
use Rattle.aho_levels.proofs.FirstLevel.{drop-same, same-at}
use Rattle.aho_levels.proofs.LevelSteps.{at-within, front-length, next-waits, stepping-first, stepping-last, stepping-next}
use Rattle.aho_levels.specs.Growing.{IsStepping, SettlesItem}
use Rattle.aho_levels.specs.Meaning.{named_word}
use Rattle.aho_levels.specs.declared.order.Item.{Item}
use Rattle.aho_levels.proofs.trie.add_level.Goals as goal

pub loop-index-init : goal.loop-index-init
loop-index-init c = record {
  ends = c.requires.ends;
  kept = omega arith;
  count = refl;
  rest = refl;
  stepping = λ p kind level. stepping-first p c.args.depth c.args.text.now c.args.tree.now c.args.ends.now c.args.items.now.items level;
}

pub bounds-text-as_usize : goal.bounds-text-as_usize
bounds-text-as_usize c =
    let within : c.loop-index.index < length c.args.items.now.items = omega (arith, c.loop-index-test.true, c.len-index-end.ensures, c.args.items.now.ok.0) in
    let item = c.index-item.result.now in
    let read = same-at c.loop-index.items.items c.args.items.now.items c.loop-index.index item c.loop-index.invariant.rest c.index-item.ensures in
    let some = c.requires.some in
    let are = c.loop-index.invariant.stepping some.0 some.1 some.2 in
    omega (
      arith,
      c.as_usize.ensures.value,
      at-within some.0 c.args.depth c.args.text.now are.names item
          (next-waits some.0 c.args.depth c.args.text.now c.loop-index.tree c.loop-index.ends c.args.items.now.items c.loop-index.index (take c.loop-index.kept c.loop-index.items.items) item within read are),
    )

pub child-requires-clause-tree : goal.child-requires-clause-tree
child-requires-clause-tree c =
    let within : c.loop-index.index < length c.args.items.now.items = omega (arith, c.loop-index-test.true, c.len-index-end.ensures, c.args.items.now.ok.0) in
    let item = c.index-item.result.now in
    let read = same-at c.loop-index.items.items c.args.items.now.items c.loop-index.index item c.loop-index.invariant.rest c.index-item.ensures in
    let some = c.requires.some in
    let are = c.loop-index.invariant.stepping some.0 some.1 some.2 in
    let waits = next-waits some.0 c.args.depth c.args.text.now c.loop-index.tree c.loop-index.ends c.args.items.now.items c.loop-index.index (take c.loop-index.kept c.loop-index.items.items) item within read are in
    (are.names, take c.args.depth (pattern_word some.0 item.number), are.tree_is, waits.arrived.named, front-length some.0 c.args.depth c.args.text.now are.names item waits ∙ sym c.new_unchecked-deeper.ensures.value)

pub new_unchecked-requires : goal.new_unchecked-requires
new_unchecked-requires c =
    let within : c.loop-index.index < length c.args.items.now.items = omega (arith, c.loop-index-test.true, c.len-index-end.ensures, c.args.items.now.ok.0) in
    let item = c.index-item.result.now in
    let read = same-at c.loop-index.items.items c.args.items.now.items c.loop-index.index item c.loop-index.invariant.rest c.index-item.ensures in
    let some = c.requires.some in
    let are = c.loop-index.invariant.stepping some.0 some.1 some.2 in
    let below = at-within some.0 c.args.depth c.args.text.now are.names item
    (next-waits some.0 c.args.depth c.args.text.now c.loop-index.tree c.loop-index.ends c.args.items.now.items c.loop-index.index (take c.loop-index.kept c.loop-index.items.items) item within read are) in
    record { within = omega (arith, below, c.as_usize-in-loop-index.ensures.value, c.requires.few) }

pub settle-requires-clause-alive : goal.settle-requires-clause-alive
settle-requires-clause-alive c =
    let within : c.loop-index.index < length c.args.items.now.items = omega (arith, c.loop-index-test.true, c.len-index-end.ensures, c.args.items.now.ok.0) in
    let item = c.index-item.result.now in
    let read = same-at c.loop-index.items.items c.args.items.now.items c.loop-index.index item c.loop-index.invariant.rest c.index-item.ensures in
    let some = c.requires.some in
    let are = c.loop-index.invariant.stepping some.0 some.1 some.2 in
    let waits = next-waits some.0 c.args.depth c.args.text.now c.loop-index.tree c.loop-index.ends c.args.items.now.items c.loop-index.index (take c.loop-index.kept c.loop-index.items.items) item within read are in
    let to = c.in_ok-state.ensures.child are.names (take c.args.depth (pattern_word some.0 item.number)) are.tree_is waits.arrived.named
    (front-length some.0 c.args.depth c.args.text.now are.names item waits ∙ sym c.new_unchecked-deeper.ensures.value) in
    λ zero_is. let clash : None ≡ Some (take c.args.depth (pattern_word some.0 item.number) ++ _ ∷ []) = sym to.tree_is.dead ∙ ap (named_word to.names) (sym zero_is) ∙ to.named in cc

pub loop-index-preserved : goal.loop-index-preserved
loop-index-preserved c =
    let within : c.loop-index.index < length c.args.items.now.items = omega (arith, c.loop-index-test.true, c.len-index-end.ensures, c.args.items.now.ok.0) in
    let item = c.index-item.result.now in
    let read = same-at c.loop-index.items.items c.args.items.now.items c.loop-index.index item c.loop-index.invariant.rest c.index-item.ensures in
    let keeps = c.keep-kept.ensures.keeps in
    let further : Item = record { state = c.in_ok-state.state; at = c.new_unchecked.result; end = item.end; number = item.number } in
    record {
      ends = c.in_ok-goes_on.ensures.ends;
      kept = omega (arith, keeps.near, c.loop-index.invariant.kept);
      count = keeps.count ∙ c.loop-index.invariant.count;
      rest = keeps.behind (c.loop-index.index + 1) (omega (arith, c.loop-index.invariant.kept)) ∙ drop-same c.loop-index.items.items c.args.items.now.items c.loop-index.index c.loop-index.invariant.rest;
      stepping = λ p kind level.
          stepping-next p c.args.depth c.args.text.now c.loop-index.tree c.child.new.self c.loop-index.ends c.settle.new.self c.args.items.now.items c.loop-index.index c.loop-index.kept c.keep-kept.result c.loop-index.items.items c.keep-kept.new.items.items item
          further (get_or c.args.text.now c.as_usize.result 0) c.in_ok-state.state c.in_ok-goes_on.goes_on
          within read level.folded (ap (λ (n : ℕ). get_or c.args.text.now n 0) c.as_usize.ensures.value)
          refl (c.new_unchecked.ensures.value ∙ ap (λ (n : ℕ). n + 1) c.as_usize-in-loop-index.ensures.value) refl refl
          (λ names w is named deep. c.in_ok-state.ensures.child names w is named (deep ∙ sym c.new_unchecked-deeper.ensures.value))
          (subst (λ (k : MatchKind). SettlesItem k further c.in_ok-goes_on.goes_on c.loop-index.ends c.settle.new.self) (sym kind) c.in_ok-goes_on.ensures.settled) keeps
          (c.loop-index.invariant.stepping p kind level);
    }

pub returns-clause-level : goal.returns-clause-level
returns-clause-level c = λ p kind level.
    stepping-last p c.args.depth c.args.text.now c.args.tree.now c.loop-index.tree c.args.ends.now c.loop-index.ends c.args.items.now.items c.truncate.new.self.items c.loop-index.index
    (omega (arith, c.loop-index-test.false, c.len-index-end.ensures, c.args.items.now.ok.0)) level
    (subst (IsStepping p c.args.depth c.args.text.now c.loop-index.tree c.loop-index.ends c.args.items.now.items c.loop-index.index) (sym c.truncate.ensures.items) (c.loop-index.invariant.stepping p kind level))
