use Rattle.std.proofs.Common.{◌≡◌, ◌≢◌, ◌≤◌, ℕ, List, length, subst, arith}
use Rattle.std.proofs.lemmas.Bool.Decides.{nat_tests}
use Rattle.std.proofs.lemmas.Iterator.Consumers.{YieldsList-from_first, YieldsList-turn, YieldsList-end}
use Rattle.std.proofs.lemmas.List.{take_all}
use Rattle.acdraw.specs.Words.{IsLastTo}
use Rattle.acdraw.proofs.LastBytes.{last_here, last_before}
use Rattle.acdraw.proofs.picture.words.last_to.Goals as goal

pub loop-byte-preserved-then-eq : goal.loop-byte-preserved-then-eq
loop-byte-preserved-then-eq c =
    let start : c.into_iter-byte-iterator.result ≡ c.args.transitions = c.into_iter-byte-iterator.ensures.into_iter_gives in
    let turn = YieldsList-turn (YieldsList-from_first (λ (x : ℕ × ℕ). x) (λ (rest : List (ℕ × ℕ)). rest) {s = c.into_iter-byte-iterator.result} c.args.transitions start) c.loop-byte.yielded _ c.loop-byte.yielded_by _ _ (c.in-Some.byte, c.in-Some.next) c.in-Some.is c.next.ensures.steps in
    let same : c.in-Some.next ≡ c.args.sid = grind (arith, nat_tests, c.eq.ensures, c.if-eq.true) in
    last_here c.args.transitions c.loop-byte.yielded c.in-Some.byte c.in-Some.next c.args.sid turn.0 turn.1 same

pub loop-byte-preserved : goal.loop-byte-preserved
loop-byte-preserved c =
    let start : c.into_iter-byte-iterator.result ≡ c.args.transitions = c.into_iter-byte-iterator.ensures.into_iter_gives in
    let turn = YieldsList-turn (YieldsList-from_first (λ (x : ℕ × ℕ). x) (λ (rest : List (ℕ × ℕ)). rest) {s = c.into_iter-byte-iterator.result} c.args.transitions start) c.loop-byte.yielded _ c.loop-byte.yielded_by _ _ (c.in-Some.byte, c.in-Some.next) c.in-Some.is c.next.ensures.steps in
    let other : c.in-Some.next ≢ c.args.sid = grind (arith, nat_tests, c.eq.ensures, c.if-eq.false) in
    last_before c.args.transitions c.loop-byte.yielded c.in-Some.byte c.in-Some.next c.args.sid turn.0 turn.1 other c.loop-byte.last c.loop-byte.invariant

pub returns : goal.returns
returns c =
    let start : c.into_iter-byte-iterator.result ≡ c.args.transitions = c.into_iter-byte-iterator.ensures.into_iter_gives in
    let end = YieldsList-end (YieldsList-from_first (λ (x : ℕ × ℕ). x) (λ (rest : List (ℕ × ℕ)). rest) {s = c.into_iter-byte-iterator.result} c.args.transitions start) c.loop-byte.yielded _ c.loop-byte.yielded_by _ _ c.in-None.is c.next.ensures.steps in
    let past : length c.args.transitions ≤ length c.loop-byte.yielded = omega (arith, end.1) in
    record { last = subst (λ (l : List (ℕ × ℕ)). IsLastTo c.args.sid l c.loop-byte.last) (take_all (length c.loop-byte.yielded) c.args.transitions past) c.loop-byte.invariant }
