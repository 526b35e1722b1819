use Rattle.std.proofs.Common.{◌≡◌, ◌<◌, ◌+◌, ◌∙◌, ◌∷◌, ◌++◌, ℕ, List, [], true, false, arith, ap, length, sym}
use Rattle.std.proofs.lemmas.Bool.{both_ways}
use Rattle.std.proofs.lemmas.List.{append-nil, length-append}
use Rattle.aho_corasick.specs.ReadOut.{states_of}
use Rattle.aho_table.specs.Table.{matches_in}
use Rattle.aho_hybrid.specs.Filled.{has_own_list}
use Rattle.aho_hybrid.proofs.Listed.{list-placed, within-at}
use Rattle.aho_hybrid.proofs.Shared.{own-more}
use Rattle.aho_hybrid.proofs.Sizes.{lists-grow, lists-more, words-own, words-shared}
use Rattle.aho_hybrid.proofs.lists.add_list.Goals as goal

pub returns-then-not-has_own_list-clause-listed : goal.returns-then-not-has_own_list-clause-listed
returns-then-not-has_own_list-clause-listed c =
    let states = states_of c.args.nfa.now in
    let index = c.args.index in
    let words = c.args.lists.now.words.items in
    let shared : has_own_list states index ≡ false = sym c.has_own_list.ensures.own ∙ c.if-not-has_own_list.true in
    let places : c.push.new.list.items ≡ c.args.lists.now.places.items ++ 0 ∷ [] = c.in_ok-push.ensures.pushed ∙ ap (λ (n : ℕ). c.args.lists.now.places.items ++ n ∷ []) c.new_unchecked.ensures.value in
    record {
      places = own-more states index 0 words [] words c.args.lists.now.places.items c.push.new.list.items (sym (append-nil words)) places (λ some. absurd (omega (arith, some))) (λ own. absurd (both_ways (has_own_list states index) shared own)) c.requires.listed.places;
      sized = omega (arith, c.requires.listed.sized, lists-more states index, words-shared states index shared);
    }

pub new_unchecked-requires-2 : goal.new_unchecked-requires-2
new_unchecked-requires-2 c =
    let states = states_of c.args.nfa.now in
    let index = c.args.index in
    record { within = omega (arith, c.len-place.ensures, c.args.lists.now.words.ok.0, c.requires.listed.sized, lists-grow states index (length states) (omega (arith, c.requires.within)), c.requires.fits) }

pub push_list-requires-clause-small : goal.push_list-requires-clause-small
push_list-requires-clause-small c =
    let states = states_of c.args.nfa.now in
    let index = c.args.index in
    let own = words-own states index (sym c.has_own_list.ensures.own ∙ c.if-not-has_own_list.false) in
    omega (arith, ap (λ (n : ℕ). length (matches_in states n)) c.new_unchecked-3.ensures.value, own, lists-more states index, lists-grow states (index + 1) (length states) (omega (arith, c.requires.within)), c.requires.fits)

pub returns-clause-listed : goal.returns-clause-listed
returns-clause-listed c =
    let states = states_of c.args.nfa.now in
    let index = c.args.index in
    let words = c.args.lists.now.words.items in
    let list = matches_in states index in
    let own : has_own_list states index ≡ true = sym c.has_own_list.ensures.own ∙ c.if-not-has_own_list.false in
    let place : c.new_unchecked-2.result ≡ length words = omega (arith, c.new_unchecked-2.ensures.value, c.len-place.ensures, c.args.lists.now.words.ok.0) in
    let grown : c.push_list.new.words.items ≡ words ++ length list ∷ list =
    c.in_ok-push_list.ensures.pushed ∙ ap (λ (n : ℕ). words ++ length (matches_in states n) ∷ matches_in states n) c.new_unchecked-3.ensures.value in
    let some : 0 < length words = omega (arith, within-at words 0 [] c.requires.listed.places.empty) in
    record {
      places = own-more states index c.new_unchecked-2.result words (length list ∷ list) c.push_list.new.words.items c.args.lists.now.places.items c.push-2.new.list.items grown c.in_ok-push-2.ensures.pushed
          (λ set. list-placed words c.push_list.new.words.items list c.new_unchecked-2.result place grown) (λ is. omega (arith, place, some)) c.requires.listed.places;
      sized = omega
          (arith, ap (λ (l : List ℕ). length l) grown, length-append words (length list ∷ list), c.requires.listed.sized, lists-more states index, words-own states index own);
    }
