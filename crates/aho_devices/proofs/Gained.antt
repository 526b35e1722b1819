-- What a buffer holds after one read, and after several.
use Rattle.std.proofs.Common.{◌≡◌, ℕ, ◌+◌, ◌-◌, ◌≤◌, List, length, take, drop, sym, ap, ◌∙◌, arith, zero-add}
use Rattle.std.specs.List.{copy_within}
use Rattle.std.proofs.lemmas.List.{drop-take, length-drop}
use Rattle.std.proofs.lemmas.List.Edits.{take-paste}
use Rattle.std.proofs.Math.Seq.{paste}

-- a copy of the last bytes to the front has them there
pub take-copy_within : (xs : List ℕ) (start count end : ℕ) → start + count ≡ end → end ≤ length xs
    → take count (copy_within xs start end 0) ≡ drop start (take end xs)
take-copy_within xs start count end e fits =
    let n : end - start ≡ count = omega arith in
    let room : count ≤ length (drop start xs) = omega (arith, length-drop start xs) in
    let front : 0 ≤ length xs = omega arith in
    ap (λ k. take count (paste xs 0 (drop start xs) k)) n
    ∙ ap (λ k. take k (paste xs 0 (drop start xs) count)) (sym (zero-add count))
    ∙ take-paste xs 0 (drop start xs) count front room
    ∙ sym (drop-take start count xs)
    ∙ ap (λ k. drop start (take k xs)) e
