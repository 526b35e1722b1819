use Rattle.std.proofs.Common.{◌≡◌, ◌∙◌, sym, refl, ap, subst, ℕ, ◌+◌, ◌<◌, List, length, take, arith}
use Rattle.std.proofs.lemmas.List.{length-map, take_all}
use Rattle.aho_core.specs.declared.search.MatchKind.{MatchKind}
use Rattle.aho_levels.proofs.FirstLevel.{drop-same, first-arrived, first-level, first-settling, number-at, same-at}
use Rattle.aho_levels.proofs.Settling.{settled-in}
use Rattle.aho_levels.specs.Growing.{IsSettling, SettlesItem, first_names, item_numbers}
use Rattle.aho_levels.specs.declared.order.Item.{Item}
use Rattle.aho_levels.proofs.trie.end_empty.Goals as goal

pub loop-index-init : goal.loop-index-init
loop-index-init c = record {
  ends = c.requires.ends;
  kept = omega arith;
  count = refl;
  rest = refl;
  settling = λ p text kind are. first-settling p text c.args.ends.now.owns.items c.args.ends.now.passed c.requires.none;
}

pub settle-requires : goal.settle-requires
settle-requires c =
    let within : c.loop-index.index < length c.args.items.now.items = omega (arith, c.loop-index-test.true, c.len-index-end.ensures, c.args.items.now.ok.0) in
    let item = c.index.result.now in
    let read = same-at c.loop-index.items.items c.args.items.now.items c.loop-index.index item c.loop-index.invariant.rest c.index.ensures in
    record {
      ends = c.loop-index.invariant.ends;
      alive = λ zero_is. omega (arith, c.requires.rooted c.loop-index.index item within, ap (λ (it : Item). it.state) read, zero_is);
    }

pub loop-index-preserved : goal.loop-index-preserved
loop-index-preserved c =
    let within : c.loop-index.index < length c.args.items.now.items = omega (arith, c.loop-index-test.true, c.len-index-end.ensures, c.args.items.now.ok.0) in
    let item = c.index.result.now in
    let read = same-at c.loop-index.items.items c.args.items.now.items c.loop-index.index item c.loop-index.invariant.rest c.index.ensures in
    let keeps = c.keep-kept.ensures.keeps in
    record {
      ends = c.in_ok-goes_on.ensures.ends;
      kept = omega (arith, keeps.near, c.loop-index.invariant.kept);
      count = keeps.count ∙ c.loop-index.invariant.count;
      rest = keeps.behind (c.loop-index.index + 1) (omega (arith, c.loop-index.invariant.kept)) ∙ drop-same c.loop-index.items.items c.args.items.now.items c.loop-index.index c.loop-index.invariant.rest;
      settling = λ p text kind are.
          settled-in p 0 text first_names c.loop-index.ends c.settle.new.self (item_numbers c.args.items.now.items) c.loop-index.index c.loop-index.kept c.keep-kept.result c.loop-index.items.items c.keep-kept.new.items.items item c.in_ok-goes_on.goes_on
          (omega (arith, within, length-map c.args.items.now.items (λ (it : Item). it.number))) (number-at c.args.items.now.items c.loop-index.index item within read)
          (c.loop-index.invariant.settling p text kind are) (first-arrived p text c.args.items.now.items are c.loop-index.index item within read)
          (subst (λ (k : MatchKind). SettlesItem k item c.in_ok-goes_on.goes_on c.loop-index.ends c.settle.new.self) (sym kind) c.in_ok-goes_on.ensures.settled) keeps;
    }

pub returns-clause-level : goal.returns-clause-level
returns-clause-level c = λ p text tree kind are is.
    let all : take c.loop-index.index (item_numbers c.args.items.now.items) ≡ item_numbers c.args.items.now.items =
    take_all c.loop-index.index (item_numbers c.args.items.now.items) (omega (arith, c.loop-index-test.false, c.len-index-end.ensures, c.args.items.now.ok.0, length-map c.args.items.now.items (λ (it : Item). it.number))) in
    first-level p text c.args.items.now.items are tree c.loop-index.ends c.truncate.new.self.items is
    (subst (λ (ns : List ℕ). IsSettling p 0 text first_names c.loop-index.ends.owns.items c.loop-index.ends.passed ns c.truncate.new.self.items) all
    (subst (IsSettling p 0 text first_names c.loop-index.ends.owns.items c.loop-index.ends.passed (take c.loop-index.index (item_numbers c.args.items.now.items))) (sym c.truncate.ensures.items) (c.loop-index.invariant.settling p text kind are)))
