-- The list has the pattern under its number, or under a new one.
use Rattle.std.proofs.Common.{◌+◌, ℕ, List, [], ◌∷◌, length, inr, sym, ap, subst, ◌∙◌, arith}
use Rattle.aho_table.specs.Words.{place_at, IsPlaceOfList}
use Rattle.aho_table.proofs.Listed.{length-pattern_lists, known_within, held_of, made_inside, listed_still, listed_anew, past_moved, stored_still, stored_anew}
use Rattle.aho_table.proofs.Results.{IfOk-more, IfOk-both, OnOk-both}
use Rattle.aho_table.proofs.lists.numbers.push_listed.Goals as goal

pub place_of-from-requires : goal.place_of-from-requires
place_of-from-requires c = record {
  known = omega (
    arith,
    known_within c.args.words.now.items c.args.places.now.items c.args.list c.requires.known,
    ap (λ (ps : List ℕ). length ps) c.deref.ensures.value,
  );
}

pub push_pattern-requires-clause-held : goal.push_pattern-requires-clause-held
push_pattern-requires-clause-held c =
    let from = c.place_of-from.ensures.place ∙ ap (λ (ps : List ℕ). place_at ps c.args.list) c.deref.ensures.value in
    subst (λ (p : ℕ). IsPlaceOfList c.args.words.now.items p) (sym from) (held_of c.args.words.now.items c.args.places.now.items c.args.list c.requires.known)

pub push_pattern-requires-clause-laid : goal.push_pattern-requires-clause-laid
push_pattern-requires-clause-laid c =
    (c.requires.stored.count, c.requires.stored.stored.laid_down, omega (arith, c.requires.stored.few, c.requires.stored.stored.small))

pub returns-then-place-from-clause-listed : goal.returns-then-place-from-clause-listed
returns-then-place-from-clause-listed c =
    let old = c.args.words.now.items in
    let places = c.args.places.now.items in
    let from = c.place_of-from.ensures.place ∙ ap (λ (ps : List ℕ). place_at ps c.args.list) c.deref.ensures.value in
    listed_still old c.push_pattern.new.words.items places c.args.list c.place_of-from.result c.in_ok-place.place (c.args.pattern ∷ [])
    c.requires.stored.stored.placed (known_within old places c.args.list c.requires.known) from c.in_ok-place.ensures.listed
    c.args.list (c.if-place-from.true ∙ from)

pub returns-then-place-from-clause-stored : goal.returns-then-place-from-clause-stored
returns-then-place-from-clause-stored c count limit stored few =
    stored_still c.args.words.now.items c.push_pattern.new.words.items c.args.places.now.items count (count + 1) limit stored
    (c.in_ok-place.ensures.laid count stored.laid_down (omega (arith, few, stored.small)))
    (omega arith) (omega (arith, few)) c.in_ok-place.ensures.longer

pub returns-clause-listed : goal.returns-clause-listed
returns-clause-listed c =
    let old = c.args.words.now.items in
    let places = c.args.places.now.items in
    let from = c.place_of-from.ensures.place ∙ ap (λ (ps : List ℕ). place_at ps c.args.list) c.deref.ensures.value in
    IfOk-both c.add_number.result c.add_number.ensures.number c.add_number.ensures.added c.add_number.ensures.kept
    (λ made number added kept.
    listed_anew old c.push_pattern.new.words.items places c.args.list c.place_of-from.result c.in_ok-place.place (c.args.pattern ∷ [])
    c.requires.stored.stored.placed (known_within old places c.args.list c.requires.known) from c.in_ok-place.ensures.listed
    c.add_number.new.words.items c.add_number.new.places.items made number added kept)

pub returns-clause-number : goal.returns-clause-number
returns-clause-number c =
    IfOk-more c.add_number.result
    (λ made number. inr (omega (arith, number, length-pattern_lists c.args.words.now.items c.args.places.now.items)))
    c.add_number.ensures.number

pub returns-clause-stored : goal.returns-clause-stored
returns-clause-stored c =
    let old = c.args.words.now.items in
    let mid = c.push_pattern.new.words.items in
    OnOk-both c.add_number.result c.add_number.ensures.added c.add_number.ensures.kept
    (λ added kept count limit stored few.
    let laid = c.in_ok-place.ensures.laid count stored.laid_down (omega (arith, few, stored.small)) in
    stored_anew old mid c.args.places.now.items count (count + 1) limit c.in_ok-place.place c.add_number.new.words.items c.add_number.new.places.items
    stored laid (omega arith) (omega (arith, few))
    (past_moved c.in_ok-place.place c.place_of-from.result (length old) c.in_ok-place.ensures.place c.if-place-from.false)
    (made_inside old mid (count + 1) c.place_of-from.result c.in_ok-place.place _ laid c.in_ok-place.ensures.listed)
    added kept)
