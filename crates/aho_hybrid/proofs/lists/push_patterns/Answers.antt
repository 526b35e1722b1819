use Rattle.std.proofs.Common.{◌≡◌, ◌≤◌, ◌∙◌, ℕ, List, [], ◌∷◌, ◌++◌, length, take, sym, ap, arith, append_assoc}
use Rattle.std.proofs.lemmas.Iterator.Consumers.{YieldsList-from_first, YieldsList-turn, YieldsList-end}
use Rattle.std.proofs.lemmas.List.{length_push, take_all, take_more}
use Rattle.aho_hybrid.proofs.lists.push_patterns.Goals as goal

pub loop-pattern-preserved : goal.loop-pattern-preserved
loop-pattern-preserved c =
    let start : c.into_iter-pattern-iterator.result ≡ c.args.matches = c.into_iter-pattern-iterator.ensures.into_iter_gives in
    let turn = YieldsList-turn (YieldsList-from_first (λ (x : ℕ). x) (λ (rest : List ℕ). rest) {s = c.into_iter-pattern-iterator.result} c.args.matches start) c.loop-pattern.yielded _ c.loop-pattern.yielded_by _ _ c.in-Some.pattern c.in-Some.is c.next.ensures.steps in
    let count = length c.loop-pattern.yielded in
    let index : c.new_unchecked.result ≡ c.in-Some.pattern = c.new_unchecked.ensures.value ∙ c.as_usize.ensures.value in
    c.in_ok-push.ensures.pushed
    ∙ ap (λ (l : List ℕ). l ++ c.new_unchecked.result ∷ []) c.loop-pattern.invariant
    ∙ append_assoc c.args.lists.now.items (take count c.args.matches) (c.new_unchecked.result ∷ [])
    ∙ ap (λ (l : List ℕ). c.args.lists.now.items ++ l)
    (ap (λ (n : ℕ). take count c.args.matches ++ n ∷ []) (index ∙ turn.1)
    ∙ sym (take_more c.args.matches count c.in-Some.pattern turn.0)
    ∙ ap (λ (n : ℕ). take n c.args.matches) (sym (length_push c.loop-pattern.yielded c.in-Some.pattern)))

pub returns-clause-pushed : goal.returns-clause-pushed
returns-clause-pushed c =
    let start : c.into_iter-pattern-iterator.result ≡ c.args.matches = c.into_iter-pattern-iterator.ensures.into_iter_gives in
    let end = YieldsList-end (YieldsList-from_first (λ (x : ℕ). x) (λ (rest : List ℕ). rest) {s = c.into_iter-pattern-iterator.result} c.args.matches start) c.loop-pattern.yielded _ c.loop-pattern.yielded_by _ _ c.in-None.is c.next.ensures.steps in
    let past : length c.args.matches ≤ length c.loop-pattern.yielded = omega (arith, end.1) in
    c.loop-pattern.invariant ∙ ap (λ (l : List ℕ). c.args.lists.now.items ++ l) (take_all (length c.loop-pattern.yielded) c.args.matches past)
