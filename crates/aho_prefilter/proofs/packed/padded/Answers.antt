use Rattle.std.proofs.Common.{zero, suc, refl, [], ◌≡◌, ℕ, ◌+◌, ◌-◌, ◌≤◌, List, ◌++◌, drop, get_or, get_or-take, length, length-take-le, replicate, sym, take, ap, ◌∙◌, inl, inr, arith}
use Rattle.std.proofs.lemmas.Bool.{cases_lt}
use Rattle.std.proofs.lemmas.List.{get_or-append_right, get_or-drop, get_or_append_left, get_or_past, length-drop}
use Rattle.aho_prefilter.proofs.packed.padded.Goals as goal

zeros : (n i : ℕ) → get_or {A = ℕ} (replicate n 0) i 0 ≡ 0
zeros zero i = get_or_past [] i 0 (omega arith)
zeros (suc n) zero = refl
zeros (suc n) (suc i) = zeros n i

-- the bytes from a place on, and zeros behind them
with_zeros : (bytes copied : List ℕ) (from k : ℕ) → from ≤ length bytes → copied ≡ take (length bytes - from) (drop from bytes)
    → get_or (copied ++ drop (length (take (length bytes - from) (drop from bytes))) (replicate 80 0)) k 0 ≡ get_or bytes (from + k) 0
with_zeros bytes copied from k within is =
    let n = length bytes - from in
    let long : length (take n (drop from bytes)) ≡ n = length-take-le n (drop from bytes) (omega (arith, length-drop from bytes)) in
    let long_copied : length copied ≡ n = ap (λ (xs : List ℕ). length xs) is ∙ long in
    elim (cases_lt k n) [
      | inl below ↦
          get_or_append_left copied _ 0 k (omega arith)
          ∙ ap (λ (xs : List ℕ). get_or xs k 0) is
          ∙ get_or-take n (drop from bytes) k 0 below
          ∙ get_or-drop from bytes k 0
      | inr past ↦
          get_or-append_right copied _ n k 0 long_copied past
          ∙ get_or-drop (length (take n (drop from bytes))) (replicate 80 0) (k - n) 0
          ∙ zeros 80 (length (take n (drop from bytes)) + (k - n))
          ∙ sym (get_or_past bytes (from + k) 0 (omega arith))
    ]

pub returns : goal.returns
returns c = record { same = λ k. with_zeros c.args.bytes.now c.copy_from_slice.new.self c.args.from k c.requires.within c.copy_from_slice.ensures.after }
