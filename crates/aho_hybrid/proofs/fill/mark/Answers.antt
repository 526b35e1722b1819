use Rattle.std.proofs.Common.{◌≡◌, ◌≤◌, ◌<◌, ◌∙◌, ℕ, Bool, List, [], ◌∷◌, ◌++◌, true, length, length-set, set, take, sym, subst, ap, arith}
use Rattle.std.proofs.lemmas.Iterator.Consumers.{YieldsList-from_first, YieldsList-turn, YieldsList-end}
use Rattle.std.proofs.lemmas.List.{length_push, take_all, take_more}
use Rattle.aho_hybrid.specs.Filled.{AreMarked}
use Rattle.aho_hybrid.proofs.Near.{marked-more}
use Rattle.aho_hybrid.proofs.fill.mark.Goals as goal

pub loop-byte-preserved : goal.loop-byte-preserved
loop-byte-preserved c =
    let all : List (ℕ × ℕ) = c.args.transitions in
    let start : c.into_iter-byte-iterator.result ≡ all = c.into_iter-byte-iterator.ensures.into_iter_gives in
    let turn = YieldsList-turn (YieldsList-from_first (λ (x : ℕ × ℕ). x) (λ (rest : List (ℕ × ℕ)). rest) {s = c.into_iter-byte-iterator.result} all start) c.loop-byte.yielded _ c.loop-byte.yielded_by _ _ (c.in-Some.byte, c.in-Some.field-0-1) c.in-Some.is c.next.ensures.steps in
    let count = length c.loop-byte.yielded in
    let one : ℕ × ℕ = (c.in-Some.byte, c.in-Some.field-0-1) in
    let grown : take count all ++ one ∷ [] ≡ take (length (c.loop-byte.yielded ++ one ∷ [])) all =
    ap (λ (x : ℕ × ℕ). take count all ++ x ∷ []) turn.1 ∙ sym (take_more all count one turn.0) ∙ ap (λ (n : ℕ). take n all) (sym (length_push c.loop-byte.yielded one)) in
    let within : c.in-Some.byte < length c.loop-byte.taken = omega (arith, c.loop-byte.invariant.sized) in
    record {
      sized = omega (arith, length-set {A = Bool}, c.loop-byte.invariant.sized);
      marked = subst (λ (l : List (ℕ × ℕ)). AreMarked l c.args.taken.now (set c.loop-byte.taken c.in-Some.byte true)) grown (marked-more (take count all) one c.args.taken.now c.loop-byte.taken within c.loop-byte.invariant.marked);
    }

pub returns : goal.returns
returns c =
    let all : List (ℕ × ℕ) = c.args.transitions in
    let start : c.into_iter-byte-iterator.result ≡ all = c.into_iter-byte-iterator.ensures.into_iter_gives in
    let end = YieldsList-end (YieldsList-from_first (λ (x : ℕ × ℕ). x) (λ (rest : List (ℕ × ℕ)). rest) {s = c.into_iter-byte-iterator.result} all start) c.loop-byte.yielded _ c.loop-byte.yielded_by _ _ c.in-None.is c.next.ensures.steps in
    let past : length all ≤ length c.loop-byte.yielded = omega (arith, end.1) in
    record { marked = subst (λ (l : List (ℕ × ℕ)). AreMarked l c.args.taken.now c.loop-byte.taken) (take_all (length c.loop-byte.yielded) all past) c.loop-byte.invariant.marked }
