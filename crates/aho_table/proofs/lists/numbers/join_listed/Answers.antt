-- The list has the patterns of both under a new number, or under that of the other list, which it shares.
use Rattle.std.proofs.Common.{◌+◌, ℕ, List, ◌++◌, length, inl, inr, refl, sym, ap, subst, ◌∙◌, arith}
use Rattle.aho_table.specs.Lists.{list_at, IsListed}
use Rattle.aho_table.specs.Words.{place_at, length_at, patterns_at, is_closed, pattern_lists, pattern_store, IsPlaceOfList, AreLaid}
use Rattle.aho_table.proofs.Patterns.{length_at-zero}
use Rattle.aho_table.proofs.Listed.{length-pattern_lists, list_at-pattern_lists, length-list_at, known_within, held_of, closed_at-within, made_inside, listed_still, listed_anew, past_joined, shared_so, stored_still, stored_anew}
use Rattle.aho_table.proofs.Results.{IfOk-more, IfOk-both, OnOk-both}
use Rattle.aho_table.proofs.lists.numbers.join_listed.Goals as goal

pub place_of-from-requires : goal.place_of-from-requires
place_of-from-requires c = record {
  known = omega (
    arith,
    known_within c.args.words.now.items c.args.places.now.items c.args.list c.requires.known,
    ap (λ (ps : List ℕ). length ps) c.deref.ensures.value,
  );
}

pub place_of-shared-requires : goal.place_of-shared-requires
place_of-shared-requires c = record {
  known = omega (
    arith,
    known_within c.args.words.now.items c.args.places.now.items c.args.other c.requires.other,
    ap (λ (ps : List ℕ). length ps) c.deref-2.ensures.value,
  );
}

pub join_patterns-requires-clause-laid : goal.join_patterns-requires-clause-laid
join_patterns-requires-clause-laid c =
    let old = c.args.words.now.items in
    let may = c.requires.stored in
    let shared = c.place_of-shared.ensures.place ∙ ap (λ (ps : List ℕ). place_at ps c.args.other) c.deref-2.ensures.value in
    let more = length-list_at old c.args.places.now.items may.count c.args.other may.stored.laid_down ∙ ap (length_at old) (sym shared) in
    (may.count, may.stored.laid_down, omega (arith, more, may.few, may.stored.small))

pub join_patterns-requires-clause-held : goal.join_patterns-requires-clause-held
join_patterns-requires-clause-held c =
    let from = c.place_of-from.ensures.place ∙ ap (λ (ps : List ℕ). place_at ps c.args.list) c.deref.ensures.value in
    subst (λ (p : ℕ). IsPlaceOfList c.args.words.now.items p) (sym from) (held_of c.args.words.now.items c.args.places.now.items c.args.list c.requires.known)

pub join_patterns-requires-clause-other : goal.join_patterns-requires-clause-other
join_patterns-requires-clause-other c =
    let shared = c.place_of-shared.ensures.place ∙ ap (λ (ps : List ℕ). place_at ps c.args.other) c.deref-2.ensures.value in
    subst (λ (p : ℕ). IsPlaceOfList c.args.words.now.items p) (sym shared) (held_of c.args.words.now.items c.args.places.now.items c.args.other c.requires.other)

pub join_patterns-requires-clause-some : goal.join_patterns-requires-clause-some
join_patterns-requires-clause-some c none =
    let old = c.args.words.now.items in
    let may = c.requires.stored in
    let shared = c.place_of-shared.ensures.place ∙ ap (λ (ps : List ℕ). place_at ps c.args.other) c.deref-2.ensures.value in
    let more = length-list_at old c.args.places.now.items may.count c.args.other may.stored.laid_down ∙ ap (length_at old) (sym shared ∙ none) in
    omega (arith, more, length_at-zero old, c.requires.some)

pub returns-then-place-shared-clause-listed : goal.returns-then-place-shared-clause-listed
returns-then-place-shared-clause-listed c count now limit =
    let old = c.args.words.now.items in
    let new = c.join_patterns.new.words.items in
    let places = c.args.places.now.items in
    let from = c.place_of-from.ensures.place ∙ ap (λ (ps : List ℕ). place_at ps c.args.list) c.deref.ensures.value in
    let shared = c.place_of-shared.ensures.place ∙ ap (λ (ps : List ℕ). place_at ps c.args.other) c.deref-2.ensures.value in
    subst (λ (ys : List ℕ). IsListed (pattern_store old places count limit) (pattern_store new places now limit) c.args.list c.args.other (list_at (pattern_lists old places) c.args.list ++ ys))
    (ap (patterns_at old) shared ∙ sym (list_at-pattern_lists old places c.args.other))
    (listed_still old new places c.args.list c.place_of-from.result c.in_ok-place.place (patterns_at old c.place_of-shared.result)
    c.requires.stored.stored.placed (known_within old places c.args.list c.requires.known) from c.in_ok-place.ensures.listed
    c.args.other (c.if-place-shared.true ∙ shared) count now limit)

pub returns-then-place-shared-clause-number : goal.returns-then-place-shared-clause-number
returns-then-place-shared-clause-number c =
    let old = c.args.words.now.items in
    let new = c.join_patterns.new.words.items in
    let places = c.args.places.now.items in
    let shared = c.place_of-shared.ensures.place ∙ ap (λ (ps : List ℕ). place_at ps c.args.other) c.deref-2.ensures.value in
    let closed = shared_so c.in_ok-place.place c.place_of-shared.result (length old) c.in_ok-place.ensures.place
    (omega (arith, c.if-place-shared.true, shared, c.requires.stored.stored.placed.inside c.args.other))
    in
    inr (
      refl,
      closed_at-within new places c.args.other (known_within old places c.args.other c.requires.other)
          ∙ ap (is_closed new) (sym (c.if-place-shared.true ∙ shared)) ∙ closed,
    )

pub returns-then-place-shared-clause-stored : goal.returns-then-place-shared-clause-stored
returns-then-place-shared-clause-stored c count limit stored few =
    let old = c.args.words.now.items in
    let new = c.join_patterns.new.words.items in
    let places = c.args.places.now.items in
    let shared = c.place_of-shared.ensures.place ∙ ap (λ (ps : List ℕ). place_at ps c.args.other) c.deref-2.ensures.value in
    let more = length-list_at old places count c.args.other stored.laid_down ∙ ap (length_at old) (sym shared) in
    let laid = c.in_ok-place.ensures.laid count stored.laid_down (omega (arith, more, few, stored.small)) in
    stored_still old new places count (count + length (list_at (pattern_lists old places) c.args.other)) limit stored
    (subst (λ (n : ℕ). AreLaid new (count + n)) (sym more) laid)
    (omega arith) few c.in_ok-place.ensures.longer

pub returns-clause-listed : goal.returns-clause-listed
returns-clause-listed c =
    let old = c.args.words.now.items in
    let mid = c.join_patterns.new.words.items in
    let new = c.add_number.new.words.items in
    let places = c.args.places.now.items in
    let after = c.add_number.new.places.items in
    let from = c.place_of-from.ensures.place ∙ ap (λ (ps : List ℕ). place_at ps c.args.list) c.deref.ensures.value in
    let shared = c.place_of-shared.ensures.place ∙ ap (λ (ps : List ℕ). place_at ps c.args.other) c.deref-2.ensures.value in
    IfOk-both c.add_number.result c.add_number.ensures.number c.add_number.ensures.added c.add_number.ensures.kept
    (λ made number added kept count now limit.
    subst (λ (ys : List ℕ). IsListed (pattern_store old places count limit) (pattern_store new after now limit) c.args.list made (list_at (pattern_lists old places) c.args.list ++ ys))
    (ap (patterns_at old) shared ∙ sym (list_at-pattern_lists old places c.args.other))
    (listed_anew old mid places c.args.list c.place_of-from.result c.in_ok-place.place (patterns_at old c.place_of-shared.result)
    c.requires.stored.stored.placed (known_within old places c.args.list c.requires.known) from c.in_ok-place.ensures.listed
    new after made number added kept count now limit))

pub returns-clause-number : goal.returns-clause-number
returns-clause-number c =
    IfOk-more c.add_number.result
    (λ made number. inl (inr (omega (arith, number, length-pattern_lists c.args.words.now.items c.args.places.now.items))))
    c.add_number.ensures.number

pub returns-clause-stored : goal.returns-clause-stored
returns-clause-stored c =
    let old = c.args.words.now.items in
    let mid = c.join_patterns.new.words.items in
    let places = c.args.places.now.items in
    let shared = c.place_of-shared.ensures.place ∙ ap (λ (ps : List ℕ). place_at ps c.args.other) c.deref-2.ensures.value in
    OnOk-both c.add_number.result c.add_number.ensures.added c.add_number.ensures.kept
    (λ added kept count limit stored few.
    let now = count + length (list_at (pattern_lists old places) c.args.other) in
    let more = length-list_at old places count c.args.other stored.laid_down ∙ ap (length_at old) (sym shared) in
    let laid : AreLaid mid now = subst (λ (n : ℕ). AreLaid mid (count + n)) (sym more) (c.in_ok-place.ensures.laid count stored.laid_down (omega (arith, more, few, stored.small))) in
    stored_anew old mid places count now limit c.in_ok-place.place c.add_number.new.words.items c.add_number.new.places.items
    stored laid (omega (arith, c.requires.some)) few
    (past_joined c.in_ok-place.place c.place_of-shared.result (length old) c.in_ok-place.ensures.place c.if-place-shared.false)
    (made_inside old mid now c.place_of-from.result c.in_ok-place.place _ laid c.in_ok-place.ensures.listed)
    added kept)
