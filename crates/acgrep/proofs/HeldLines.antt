-- Lines that are held, and one more or one less of them.
use Rattle.acgrep.proofs.Common.{common_steps, length-drop, sum, take_all}
use Rattle.std.proofs.Common.{◌++◌, ◌+◌, ◌<◌, ◌∙◌, ◌∷◌, ◌≡◌, ◌≤◌, List, [], ap, arith, drop, length, sym, take, ℕ}
use Rattle.std.proofs.lemmas.List.{drop-append-le, take-append-le}
use Rattle.std.proofs.lemmas.List.Sums.{sum_by-cons}
use Rattle.std.specs.Prelude.{slice_index_or}
use Rattle.acgrep.specs.Filled.{cut_by}

-- bytes of so many lines, and those of one more behind them
pub cut_more : (sizes : List ℕ) (bytes line : List ℕ) → sum sizes ≡ length bytes → cut_by (sizes ++ (length line ∷ [])) (bytes ++ line) ≡ cut_by sizes bytes ++ (line ∷ [])
cut_more [] [] line same = ap (λ (l : List ℕ). l ∷ []) (take_all (length line) line (omega arith))
cut_more [] (byte ∷ bytes) line same = absurd (omega (arith, same))
cut_more (size ∷ sizes) bytes line same =
    let all : size + sum sizes ≡ length bytes = sym (sum_by-cons (λ n. n) size sizes) ∙ same in
    let within : size ≤ length bytes = omega (arith, all) in
    cc (take-append-le size bytes line within, drop-append-le size bytes line within, cut_more sizes (drop size bytes) line (omega (arith, all, length-drop size bytes)))

-- a line is cut off where its size is the next one
pub sum_left : (sizes : List ℕ) (index size : ℕ) (rest left : List ℕ) → index < length sizes → size ≡ slice_index_or sizes index size → sum (drop index sizes) ≡ length rest
    → left ≡ drop size rest → sum (drop (index + 1) sizes) ≡ length left
sum_left sizes index size rest left some is all cut = grind (arith, common_steps)

pub cut_left : (sizes : List ℕ) (index size : ℕ) (rest line left : List ℕ) → index < length sizes → size ≡ slice_index_or sizes index size → line ≡ take size rest → left ≡ drop size rest
    → cut_by (drop index sizes) rest ≡ line ∷ cut_by (drop (index + 1) sizes) left
cut_left sizes index size rest line left some is front back = grind (arith, common_steps)
