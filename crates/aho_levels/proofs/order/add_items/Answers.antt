use Rattle.std.proofs.Common.{◌<◌, [], ℕ, List, ap, arith, get_or, length, subst, sym, take}
use Rattle.std.proofs.lemmas.List.{length-map}
use Rattle.aho_core.specs.Replacement.{pieces_of}
use Rattle.aho_levels.specs.Sorting.{HasItems, key_numbers}
use Rattle.aho_levels.specs.declared.order.Key.{Key}
use Rattle.aho_levels.proofs.Adding.{items-more, numbers-at, numbers-more, room-more}
use Rattle.aho_levels.proofs.order.add_items.Goals as goal

pub add_item-requires-clause-number : goal.add_item-requires-clause-number
add_item-requires-clause-number c =
    let keys = c.args.keys.now in
    let at : ℕ = c.loop-key.key-index in
    let less : at < length (key_numbers keys) = omega (arith, c.loop-key-test.true, length-map keys (λ (key : Key). key.number)) in
    omega (arith, numbers-at keys at c.key-item.result c.loop-key-test.true c.key-item.is, c.requires.numbers at 0 less)

pub add_item-requires-clause-room : goal.add_item-requires-clause-room
add_item-requires-clause-room c =
    let words = pieces_of c.args.patterns.now in
    let keys = c.args.keys.now in
    omega (
      arith,
      c.loop-key.invariant.sized,
      room-more words keys c.loop-key.key-index c.key-item.result c.loop-key-test.true,
      c.requires.room,
      ap (λ (key : Key). length (get_or words key.number [])) c.key-item.is,
    )

pub loop-key-preserved : goal.loop-key-preserved
loop-key-preserved c =
    let words = pieces_of c.args.patterns.now in
    let keys = c.args.keys.now in
    let at : ℕ = c.loop-key.key-index in
    let number : ℕ = c.key-item.result.number in
    let less : at < length (key_numbers keys) = omega (arith, c.loop-key-test.true, length-map keys (λ (key : Key). key.number)) in
    let within : number < length words =
    omega (arith, numbers-at keys at c.key-item.result c.loop-key-test.true c.key-item.is, c.requires.numbers at 0 less, length-map c.args.patterns.now (λ piece. piece.now)) in
    subst (λ (l : List ℕ). HasItems c.args.ignore_case words c.args.root l c.add_item.new.ordered) (sym (numbers-more keys at c.key-item.result c.loop-key-test.true c.key-item.is))
    (items-more c.args.ignore_case words c.args.root number c.loop-key.ordered c.add_item.new.ordered c.in_ok-add_item.ensures.added (key_numbers (take at keys)) within c.loop-key.invariant)
