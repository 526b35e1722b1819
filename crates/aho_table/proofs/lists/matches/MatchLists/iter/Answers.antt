-- A walk begins at the first pattern of the list.
use Rattle.std.proofs.Common.{◌≡◌, ◌≤◌, ℕ, List, length, take, drop, sym, ap, subst, ◌∙◌, arith}
use Rattle.std.specs.List.{All}
use Rattle.aho_core.specs.Numbers.{greatest_index}
use Rattle.aho_table.specs.Lists.{IsList}
use Rattle.aho_table.specs.Words.{length_at, patterns_at, place_at, pattern_lists, IsPlaceOfList}
use Rattle.aho_table.proofs.Patterns.{own_within, patterns_at-small}
use Rattle.aho_table.proofs.Listed.{known_within, held_of, list_at-pattern_lists}
use Rattle.aho_table.proofs.Laying.{patterns_at-taken}
use Rattle.aho_table.proofs.lists.matches.MatchLists.iter.Goals as goal

pub place_of-place-requires : goal.place_of-place-requires
place_of-place-requires c =
    let known : IsList (pattern_lists c.self.inside.words.items c.self.inside.places.items) c.args.list = rw (← c.self.view_is) at c.requires.known in
    record {
      known = omega (
        arith,
        known_within c.self.inside.words.items c.self.inside.places.items c.args.list known,
        ap (λ (ps : List ℕ). length ps) c.deref.ensures.value,
      );
    }

pub len_at-count-requires : goal.len_at-count-requires
len_at-count-requires c =
    let words = c.self.inside.words.items in
    let known : IsList (pattern_lists words c.self.inside.places.items) c.args.list = rw (← c.self.view_is) at c.requires.known in
    let place = c.place_of-place.ensures.place ∙ ap (λ (ps : List ℕ). place_at ps c.args.list) c.deref.ensures.value in
    record {
      held = subst (λ (ws : List ℕ). IsPlaceOfList ws c.place_of-place.result) (sym c.deref-2.ensures.value)
          (subst (λ (p : ℕ). IsPlaceOfList words p) (sym place) (held_of words c.self.inside.places.items c.args.list known));
    }

pub words_from-requires : goal.words_from-requires
words_from-requires c =
    let words = c.self.inside.words.items in
    let places = c.self.inside.places.items in
    let known : IsList (pattern_lists words places) c.args.list = rw (← c.self.view_is) at c.requires.known in
    let place = c.place_of-place.ensures.place ∙ ap (λ (ps : List ℕ). place_at ps c.args.list) c.deref.ensures.value in
    let count = c.len_at-count.ensures.len ∙ ap (λ (ws : List ℕ). length_at ws c.place_of-place.result) c.deref-2.ensures.value ∙ ap (length_at words) place in
    let within = own_within words c.self.inside.count (place_at places c.args.list) c.self.invariant.laid_down (held_of words places c.args.list known) in
    record { within = omega (arith, within, count, place, ap (λ (ws : List ℕ). length ws) c.deref-3.ensures.value) }

pub invariant_of-result : goal.invariant_of-result
invariant_of-result c =
    let words = c.self.inside.words.items in
    let at = c.place_of-place.result in
    let count = c.len_at-count.ensures.len ∙ ap (λ (ws : List ℕ). length_at ws at) c.deref-2.ensures.value in
    let part : c.words_from.result.now ≡ patterns_at words at =
    c.words_from.ensures.part
    ∙ ap (λ (ws : List ℕ). take c.len_at-count.result (drop at ws)) c.deref-3.ensures.value
    ∙ patterns_at-taken words at c.len_at-count.result count
    in
    subst (λ (xs : List ℕ). All (λ (word : ℕ). word ≤ greatest_index) xs) (sym part) (patterns_at-small words c.self.inside.count at c.self.invariant.laid_down)

pub returns : goal.returns
returns c =
    let words = c.self.inside.words.items in
    let places = c.self.inside.places.items in
    let at = c.place_of-place.result in
    let place = c.place_of-place.ensures.place ∙ ap (λ (ps : List ℕ). place_at ps c.args.list) c.deref.ensures.value in
    let count = c.len_at-count.ensures.len ∙ ap (λ (ws : List ℕ). length_at ws at) c.deref-2.ensures.value in
    let part : c.words_from.result.now ≡ patterns_at words at =
    c.words_from.ensures.part
    ∙ ap (λ (ws : List ℕ). take c.len_at-count.result (drop at ws)) c.deref-3.ensures.value
    ∙ patterns_at-taken words at c.len_at-count.result count
    in
    record { listed = rw (← c.self.view_is) (part ∙ ap (patterns_at words) place ∙ sym (list_at-pattern_lists words places c.args.list)) }
