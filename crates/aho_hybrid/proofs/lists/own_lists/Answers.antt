use Rattle.std.proofs.Common.{◌≡◌, ◌∙◌, ℕ, List, [], ◌∷◌, ◌++◌, arith, length, subst, ap}
use Rattle.aho_corasick.specs.ReadOut.{states_of}
use Rattle.aho_hybrid.specs.Filled.{AreOwnLists}
use Rattle.aho_hybrid.proofs.Shared.{own-none}
use Rattle.aho_hybrid.proofs.Sizes.{lists-first}
use Rattle.aho_hybrid.proofs.lists.own_lists.Goals as goal

pub loop-index-init : goal.loop-index-init
loop-index-init c =
    let states = states_of c.args.nfa.now in
    let words : c.push.new.list.items ≡ 0 ∷ [] =
    c.in_ok-push.ensures.pushed ∙ ap (λ (l : List ℕ). l ++ c.new_unchecked.result ∷ []) c.in_ok-vec_of.ensures.empty ∙ ap (λ (n : ℕ). n ∷ []) c.new_unchecked.ensures.value in
    record {
      places = own-none states c.push.new.list.items c.in_ok-vec_of-2.field-0.items words c.in_ok-vec_of-2.ensures.empty;
      sized = omega (arith, ap (λ (l : List ℕ). length l) words, lists-first states);
    }

pub returns-clause-listed : goal.returns-clause-listed
returns-clause-listed c =
    let states = states_of c.args.nfa.now in
    let all : c.loop-index.index ≡ length states = omega (arith, c.loop-index-test.false, c.loop-index.auto.index-end, c.states_len-index-end.ensures.len) in
    subst (λ (n : ℕ). AreOwnLists states n c.loop-index.lists) all c.loop-index.invariant
