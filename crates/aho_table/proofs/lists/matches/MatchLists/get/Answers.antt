-- The word of the place is the pattern.
use Rattle.std.proofs.Common.{◌+◌, ◌<◌, ◌≤◌, ℕ, List, Some, length, sym, ap, subst, ◌∙◌, arith}
use Rattle.aho_core.specs.Numbers.{greatest_index}
use Rattle.aho_table.specs.Lists.{list_at, IsList}
use Rattle.aho_table.specs.Words.{word_at, length_at, place_at, pattern_lists}
use Rattle.aho_table.proofs.Patterns.{list_within, pattern_small}
use Rattle.aho_table.proofs.Listed.{known_within, length-list_at, get-list_at}
use Rattle.aho_table.proofs.lists.matches.MatchLists.get.Goals as goal

pub place_of-requires : goal.place_of-requires
place_of-requires c =
    let known : IsList (pattern_lists c.self.inside.words.items c.self.inside.places.items) c.args.list = rw (← c.self.view_is) at c.requires.known in
    record {
      known = omega (
        arith,
        known_within c.self.inside.words.items c.self.inside.places.items c.args.list known,
        ap (λ (ps : List ℕ). length ps) c.deref-2.ensures.value,
      );
    }

pub pattern_at-requires-clause-place : goal.pattern_at-requires-clause-place
pattern_at-requires-clause-place c =
    let words = c.self.inside.words.items in
    let places = c.self.inside.places.items in
    let laid = c.self.invariant.laid_down in
    let place = c.place_of.ensures.place ∙ ap (λ (ps : List ℕ). place_at ps c.args.list) c.deref-2.ensures.value in
    let within : c.args.index < length (list_at (pattern_lists words places) c.args.list) = rw (← c.self.view_is) at c.requires.within in
    let below : c.args.index < length_at words (place_at places c.args.list) = omega (arith, within, length-list_at words places c.self.inside.count c.args.list laid) in
    omega (
      arith,
      below,
      place,
      list_within words c.self.inside.count (place_at places c.args.list) laid (omega arith),
      ap (λ (ws : List ℕ). length ws) c.deref.ensures.value,
    )

pub pattern_at-requires-clause-small : goal.pattern_at-requires-clause-small
pattern_at-requires-clause-small c =
    let words = c.self.inside.words.items in
    let places = c.self.inside.places.items in
    let laid = c.self.invariant.laid_down in
    let place = c.place_of.ensures.place ∙ ap (λ (ps : List ℕ). place_at ps c.args.list) c.deref-2.ensures.value in
    let within : c.args.index < length (list_at (pattern_lists words places) c.args.list) = rw (← c.self.view_is) at c.requires.within in
    let below : c.args.index < length_at words (place_at places c.args.list) = omega (arith, within, length-list_at words places c.self.inside.count c.args.list laid) in
    subst (λ (ws : List ℕ). word_at ws (c.place_of.result + c.args.index) ≤ greatest_index) (sym c.deref.ensures.value)
    (subst (λ (p : ℕ). word_at words (p + c.args.index) ≤ greatest_index) (sym place)
    (pattern_small words c.self.inside.count (place_at places c.args.list) c.args.index laid below))

pub returns : goal.returns
returns c =
    let words = c.self.inside.words.items in
    let places = c.self.inside.places.items in
    let laid = c.self.invariant.laid_down in
    let place = c.place_of.ensures.place ∙ ap (λ (ps : List ℕ). place_at ps c.args.list) c.deref-2.ensures.value in
    let within : c.args.index < length (list_at (pattern_lists words places) c.args.list) = rw (← c.self.view_is) at c.requires.within in
    let below : c.args.index < length_at words (place_at places c.args.list) = omega (arith, within, length-list_at words places c.self.inside.count c.args.list laid) in
    record {
      listed = rw (← c.self.view_is) (get-list_at words places c.self.inside.count c.args.list laid c.args.index below
          ∙ ap Some (sym (c.pattern_at.ensures.pattern
          ∙ ap (λ (ws : List ℕ). word_at ws (c.place_of.result + c.args.index)) c.deref.ensures.value
          ∙ ap (λ (p : ℕ). word_at words (p + c.args.index)) place)));
    }
