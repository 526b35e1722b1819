-- The length that is told is that of the list.
use Rattle.std.proofs.Common.{ℕ, List, length, sym, ap, subst, ◌∙◌, arith}
use Rattle.aho_table.specs.Lists.{IsList}
use Rattle.aho_table.specs.Words.{length_at, place_at, pattern_lists, IsPlaceOfList}
use Rattle.aho_table.proofs.Listed.{known_within, held_of, length-list_at}
use Rattle.aho_table.proofs.lists.matches.MatchLists.len_of.Goals as goal

pub place_of-requires : goal.place_of-requires
place_of-requires c =
    let known : IsList (pattern_lists c.self.inside.words.items c.self.inside.places.items) c.args.list = rw (← c.self.view_is) at c.requires.known in
    record {
      known = omega (
        arith,
        known_within c.self.inside.words.items c.self.inside.places.items c.args.list known,
        ap (λ (ps : List ℕ). length ps) c.deref-2.ensures.value,
      );
    }

pub len_at-requires : goal.len_at-requires
len_at-requires c =
    let words = c.self.inside.words.items in
    let known : IsList (pattern_lists words c.self.inside.places.items) c.args.list = rw (← c.self.view_is) at c.requires.known in
    let place = c.place_of.ensures.place ∙ ap (λ (ps : List ℕ). place_at ps c.args.list) c.deref-2.ensures.value in
    record {
      held = subst (λ (ws : List ℕ). IsPlaceOfList ws c.place_of.result) (sym c.deref.ensures.value)
          (subst (λ (p : ℕ). IsPlaceOfList words p) (sym place) (held_of words c.self.inside.places.items c.args.list known));
    }

pub returns : goal.returns
returns c =
    let place = c.place_of.ensures.place ∙ ap (λ (ps : List ℕ). place_at ps c.args.list) c.deref-2.ensures.value in
    record {
      len = rw (← c.self.view_is) (c.len_at.ensures.len
          ∙ ap (λ (ws : List ℕ). length_at ws c.place_of.result) c.deref.ensures.value
          ∙ ap (length_at c.self.inside.words.items) place
          ∙ sym (length-list_at c.self.inside.words.items c.self.inside.places.items c.self.inside.count c.args.list c.self.invariant.laid_down));
    }
