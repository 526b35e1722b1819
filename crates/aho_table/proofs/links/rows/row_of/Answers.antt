-- Each transition is put where its class stands.
use Rattle.std.proofs.Common.{◌≡◌, ℕ, ◌+◌, ◌<◌, ◌≤◌, List, length, drop, sym, subst, rules, arith}
use Rattle.std.proofs.Math.ListN.{set}
use Rattle.std.proofs.lemmas.List.{length_push}
use Rattle.std.proofs.lemmas.Iterator.Consumers.{YieldsList-from_first, YieldsList-turn, YieldsList-end}
use Rattle.aho_table.specs.Inside.{IsFilled}
use Rattle.aho_table.proofs.Rows.{IsFilled-first, IsFilled-more, filled_row}
use Rattle.aho_table.proofs.links.rows.row_of.Goals as goal

pub loop-byte-init : goal.loop-byte-init
loop-byte-init c = IsFilled-first c.args.classes.now c.args.transitions

pub loop-byte-preserved : goal.loop-byte-preserved
loop-byte-preserved c =
    let start : c.into_iter-byte-iterator.result ≡ c.args.transitions = c.into_iter-byte-iterator.ensures.into_iter_gives in
    let turn = YieldsList-turn (YieldsList-from_first (λ (x : ℕ × ℕ). x) (λ (rest : List (ℕ × ℕ)). rest) {s = c.into_iter-byte-iterator.result} c.args.transitions start) c.loop-byte.yielded _ c.loop-byte.yielded_by _ _ (c.in-Some.byte, c.in-Some.next) c.in-Some.is c.next.ensures.steps in
    let small : c.in-Some.byte < 256 = search rules in
    let more = IsFilled-more c.args.classes.now c.args.transitions c.requires.rising c.requires.alike (length c.loop-byte.yielded) c.loop-byte.row c.loop-byte.invariant
    (c.in-Some.byte, c.in-Some.next) turn.0 turn.1 small in
    subst (λ (n : ℕ). IsFilled c.args.classes.now c.args.transitions (drop n c.args.transitions) (set c.loop-byte.row c.get.result c.in-Some.next))
    (sym (length_push c.loop-byte.yielded (c.in-Some.byte, c.in-Some.next)))
    (subst (λ (n : ℕ). IsFilled c.args.classes.now c.args.transitions (drop (length c.loop-byte.yielded + 1) c.args.transitions) (set c.loop-byte.row n c.in-Some.next)) (sym c.get.ensures.class) more)

pub returns-clause-leads : goal.returns-clause-leads
returns-clause-leads c =
    let start : c.into_iter-byte-iterator.result ≡ c.args.transitions = c.into_iter-byte-iterator.ensures.into_iter_gives in
    let end = YieldsList-end (YieldsList-from_first (λ (x : ℕ × ℕ). x) (λ (rest : List (ℕ × ℕ)). rest) {s = c.into_iter-byte-iterator.result} c.args.transitions start) c.loop-byte.yielded _ c.loop-byte.yielded_by _ _ c.in-None.is c.next.ensures.steps in
    let past : length c.args.transitions ≤ length c.loop-byte.yielded = omega (arith, end.1) in
    filled_row c.args.classes.now c.args.transitions c.requires.rising c.requires.alike (length c.loop-byte.yielded) c.loop-byte.row c.loop-byte.invariant past
