-- The given bytes: what a buffer holds of them, and parts of them.
use Rattle.std.proofs.Common.{◌≡◌, ℕ, ◌+◌, ◌-◌, ◌≤◌, List, ◌++◌, length, take, drop, refl, sym, ◌∙◌, ap, arith, append_assoc, length-append}
use Rattle.std.specs.Prelude.{slice_range}
use Rattle.std.proofs.lemmas.List.{take-append-drop, take-append-le, take_all, drop-append-le, drop_at, length-drop}
use Rattle.aho_automaton.proofs.Places.{part_join}
use Rattle.aho_stream.specs.After.{EndsWith}

-- bytes end in what is left of their last ones
pub EndsWith-drop : (given last : List ℕ) (n : ℕ) → EndsWith given last → EndsWith given (drop n last)
EndsWith-drop given last n (gone, e) = (
  gone ++ take n last,
  e ∙ ap (λ (xs : List ℕ). gone ++ xs) (sym (take-append-drop n last)) ∙ sym (append_assoc gone (take n last) (drop n last)),
)

-- and where more is given, in these with what is more
pub EndsWith-append : (given last more : List ℕ) → EndsWith given last → EndsWith (given ++ more) (last ++ more)
EndsWith-append given last more (gone, e) = (gone, ap (λ (xs : List ℕ). xs ++ more) e ∙ append_assoc gone last more)

-- a part of what was given stays, whatever follows
pub part_stays : (given more : List ℕ) (start end : ℕ) → start ≤ end → end ≤ length given → slice_range (given ++ more) start end ≡ slice_range given start end
part_stays given more start end ordered within =
    ap (take (end - start)) (drop-append-le start given more (omega arith))
    ∙ take-append-le (end - start) (drop start given) more (omega (arith, length-drop start given))

-- and a part up to the end goes on with what is more
pub part_with_more : (given more : List ℕ) (start : ℕ) → start ≤ length given → slice_range (given ++ more) start (length (given ++ more)) ≡ slice_range given start (length given) ++ more
part_with_more given more start within =
    let all = given ++ more in
    let long : length all ≡ length given + length more = length-append given more in
    part_join all start (length given) (length all) within (omega (arith, long))
    ∙ ap (λ (xs : List ℕ). xs ++ slice_range all (length given) (length all)) (part_stays given more start (length given) within (omega arith))
    ∙ ap (λ (xs : List ℕ). slice_range given start (length given) ++ xs) (ap (take (length all - length given)) (drop_at given more (length given) refl) ∙ take_all (length all - length given) more (omega (arith, long)))
