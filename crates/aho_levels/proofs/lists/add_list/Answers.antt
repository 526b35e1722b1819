use Rattle.std.proofs.Common.{◌≡◌, ◌∙◌, ℕ, List, [], ◌∷◌, ◌++◌, ap, append_assoc, arith, length}
use Rattle.aho_levels.specs.Layout.{list_at_place}
use Rattle.aho_levels.specs.Listing.{numbers_of}
use Rattle.aho_levels.proofs.Listed.{list-kept, list-written}
use Rattle.aho_levels.proofs.lists.add_list.Goals as goal

pub returns-clause-added : goal.returns-clause-added
returns-clause-added c =
    let old = c.args.lists.now.items in
    let grown = c.push_owns.new.lists.items in
    let place = c.as_usize-3.result in
    let place_is : place ≡ length old = omega (arith, c.as_usize-3.ensures.value, c.in_ok-place.ensures.value, c.len.ensures, c.args.lists.now.ok.0) in
    let grown_is : grown ≡ (old ++ 0 ∷ []) ++ numbers_of c.args.owns.now =
    c.in_ok-push_owns.ensures.pushed ∙ ap (λ (l : List ℕ). l ++ numbers_of c.args.owns.now) (c.in_ok-push.ensures.pushed ∙ ap (λ (n : ℕ). old ++ n ∷ []) c.new_unchecked.ensures.value) in
    let same : list_at_place grown c.args.linked ≡ list_at_place old c.args.linked =
    ap (λ (l : List ℕ). list_at_place l c.args.linked) (grown_is ∙ append_assoc old (0 ∷ []) (numbers_of c.args.owns.now)) ∙ list-kept old (0 ∷ numbers_of c.args.owns.now) c.args.linked c.requires.within in
    list-written old (numbers_of c.args.owns.now) (list_at_place old c.args.linked) grown c.push_list.new.lists.items place c.new_unchecked-2.result grown_is
    (c.in_ok-push_list.ensures.pushed ∙ ap (λ (l : List ℕ). grown ++ l) same) place_is
    (omega (arith, c.new_unchecked-2.ensures.value, c.as_usize.ensures.value, c.as_usize-2.ensures.value, c.as_usize-3.ensures.value, c.in_ok-last.ensures.value, c.len-2.ensures, c.push_list.new.lists.ok.0))
