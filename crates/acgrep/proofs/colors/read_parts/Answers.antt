-- One part more, up to a wrong one or the end.
use Rattle.std.proofs.Common.{◌+◌, ◌<◌, ◌∙◌, ◌≡◌, List, ap, arith, drop, length, rules, sym, tests, ℕ}
use Rattle.std.proofs.lemmas.Iterator.Consumers.{YieldsList-end, YieldsList-turn}
use Rattle.std.proofs.lemmas.Iterator.Splits.{YieldsList-from_slice_split}
use Rattle.std.proofs.lemmas.List.{at_drop_all, at_drop_more, length_push}
use Rattle.std.specs.Prelude.{if◌then◌else◌, slice_index_or}
use Rattle.acgrep.specs.Colors.{Palette, is_colon, is_right, palette_of, with_part, with_parts}
use Rattle.acgrep.proofs.colors.read_parts.Goals as goal

-- what the next part and those behind it say
next_part : (parts : List (List ℕ)) (i : ℕ) (part : List ℕ) (colors : Palette) → (i < length parts) × (part ≡ slice_index_or parts i part)
    → with_parts (drop i parts) colors ≡ (if is_right part then with_parts (drop (i + 1) parts) (with_part part colors) else colors)
next_part parts i part colors turn = at_drop_more (λ (l : List (List ℕ)). with_parts l colors) parts i part turn.0
    ∙ ap (λ (l : List ℕ). if is_right l then with_parts (drop (i + 1) parts) (with_part l colors) else colors) (sym turn.1)

-- behind the last part nothing is said
past_parts : (parts : List (List ℕ)) (n : ℕ) (colors : Palette) → n ≡ length parts → with_parts (drop n parts) colors ≡ colors
past_parts parts n colors is = at_drop_all (λ (l : List (List ℕ)). with_parts l colors) parts n (omega (arith, is))

pub returns-then-not-is_right : goal.returns-then-not-is_right
returns-then-not-is_right c =
    let parts = YieldsList-from_slice_split _ is_colon c.args.text.now (cc) (cc) (cc) (λ x b q k. search (rules, tests)) in
    let turn = YieldsList-turn parts c.loop-part.yielded _ c.loop-part.yielded_by _ _ c.in-Some.part c.in-Some.is c.next.ensures.steps in
    record { read = sym (rw (sym c.is_right.ensures ∙ c.if-not-is_right.true) at (next_part _ _ _ (palette_of c.loop-part.colors) turn)) ∙ c.loop-part.invariant }

pub loop-part-preserved : goal.loop-part-preserved
loop-part-preserved c =
    let parts = YieldsList-from_slice_split _ is_colon c.args.text.now (cc) (cc) (cc) (λ x b q k. search (rules, tests)) in
    let turn = YieldsList-turn parts c.loop-part.yielded _ c.loop-part.yielded_by _ _ c.in-Some.part c.in-Some.is c.next.ensures.steps in
    rw (length_push c.loop-part.yielded c.in-Some.part, c.with_part.ensures.with)
    (sym (rw (sym c.is_right.ensures ∙ c.if-not-is_right.false) at (next_part _ _ _ (palette_of c.loop-part.colors) turn)) ∙ c.loop-part.invariant)

pub returns : goal.returns
returns c =
    let parts = YieldsList-from_slice_split _ is_colon c.args.text.now (cc) (cc) (cc) (λ x b q k. search (rules, tests)) in
    let all = YieldsList-end parts c.loop-part.yielded _ c.loop-part.yielded_by _ _ c.in-None.is c.next.ensures.steps in
    record { read = sym (past_parts _ _ (palette_of c.loop-part.colors) all.1) ∙ c.loop-part.invariant }
