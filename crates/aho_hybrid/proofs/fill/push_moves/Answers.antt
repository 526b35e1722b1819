use Rattle.std.proofs.Common.{◌≡◌, ◌≤◌, ◌∙◌, ℕ, List, [], ◌∷◌, ◌++◌, length, take, sym, ap, arith, append_assoc}
use Rattle.std.proofs.lemmas.Iterator.Consumers.{YieldsList-from_first, YieldsList-turn, YieldsList-end}
use Rattle.std.proofs.lemmas.List.{append-nil, length_push, take_all, take_more}
use Rattle.aho_hybrid.specs.Filled.{flat}
use Rattle.aho_hybrid.proofs.Stepping.{flat-append}
use Rattle.aho_hybrid.proofs.fill.push_moves.Goals as goal

pub loop-byte-init : goal.loop-byte-init
loop-byte-init c = sym (append-nil c.args.moves.now.items)

pub loop-byte-preserved : goal.loop-byte-preserved
loop-byte-preserved c =
    let all : List (ℕ × ℕ) = c.args.transitions in
    let old = c.args.moves.now.items in
    let start : c.into_iter-byte-iterator.result ≡ all = c.into_iter-byte-iterator.ensures.into_iter_gives in
    let turn = YieldsList-turn (YieldsList-from_first (λ (x : ℕ × ℕ). x) (λ (rest : List (ℕ × ℕ)). rest) {s = c.into_iter-byte-iterator.result} all start) c.loop-byte.yielded _ c.loop-byte.yielded_by _ _ (c.in-Some.byte, c.in-Some.next) c.in-Some.is c.next.ensures.steps in
    let count = length c.loop-byte.yielded in
    let one : ℕ × ℕ = (c.in-Some.byte, c.in-Some.next) in
    c.in_ok-push_move.ensures.pushed
    ∙ ap (λ (l : List ℕ). l ++ flat c.args.numbers.now (one ∷ [])) c.loop-byte.invariant
    ∙ append_assoc old (flat c.args.numbers.now (take count all)) (flat c.args.numbers.now (one ∷ []))
    ∙ ap (λ (l : List ℕ). old ++ l)
    (sym (flat-append c.args.numbers.now (take count all) (one ∷ []))
    ∙ ap (λ (x : ℕ × ℕ). flat c.args.numbers.now (take count all ++ x ∷ [])) turn.1
    ∙ ap (flat c.args.numbers.now) (sym (take_more all count one turn.0))
    ∙ ap (λ (n : ℕ). flat c.args.numbers.now (take n all)) (sym (length_push c.loop-byte.yielded one)))

pub returns-clause-pushed : goal.returns-clause-pushed
returns-clause-pushed c =
    let all : List (ℕ × ℕ) = c.args.transitions in
    let start : c.into_iter-byte-iterator.result ≡ all = c.into_iter-byte-iterator.ensures.into_iter_gives in
    let end = YieldsList-end (YieldsList-from_first (λ (x : ℕ × ℕ). x) (λ (rest : List (ℕ × ℕ)). rest) {s = c.into_iter-byte-iterator.result} all start) c.loop-byte.yielded _ c.loop-byte.yielded_by _ _ c.in-None.is c.next.ensures.steps in
    let past : length all ≤ length c.loop-byte.yielded = omega (arith, end.1) in
    c.loop-byte.invariant ∙ ap (λ (l : List (ℕ × ℕ)). c.args.moves.now.items ++ flat c.args.numbers.now l) (take_all (length c.loop-byte.yielded) all past)
