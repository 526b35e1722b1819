-- Words that are the same, byte by byte.
use Rattle.std.proofs.Common.{◌≡◌, ℕ, ◌<◌, List, length, get_or, sym, ◌∙◌, ap, arith}
use Rattle.std.proofs.lemmas.List.{same_lists, get_or-map, length-map}
use Rattle.std.specs.Bool.{Decides}
use Rattle.std.proofs.lemmas.Slice.Eq.{bytes_eq-Decides}
use Rattle.aho_core.specs.Bytes.{folded, folded_word, IsSameByte, IsSameWord, is_same_word}
use Rattle.aho_core.specs.Patterns.{Patterns}

module _ (p : Patterns) where
  -- words of one length whose bytes are the same are the same
  pub IsSameWord-from_bytes : (xs ys : List ℕ) → length xs ≡ length ys → ((k : ℕ) → k < length xs → IsSameByte p (get_or xs k 0) (get_or ys k 0)) → IsSameWord p xs ys
  IsSameWord-from_bytes xs ys len same =
      same_lists (folded_word p xs) (folded_word p ys) (length-map xs (folded p) ∙ len ∙ sym (length-map ys (folded p)))
      (λ k d below.
      let in_xs : k < length xs = omega (arith, length-map xs (folded p)) in
      let in_ys : k < length ys = omega arith in
      get_or-map (folded p) xs k 0 d in_xs ∙ same k in_xs ∙ sym (get_or-map (folded p) ys k 0 d in_ys))

  -- words that are the same have one length
  pub IsSameWord-length : (xs ys : List ℕ) → IsSameWord p xs ys → length xs ≡ length ys
  IsSameWord-length xs ys same = sym (length-map xs (folded p)) ∙ ap length same ∙ length-map ys (folded p)

  -- and their bytes are the same
  pub IsSameWord-byte : (xs ys : List ℕ) (k : ℕ) → IsSameWord p xs ys → k < length xs → IsSameByte p (get_or xs k 0) (get_or ys k 0)
  IsSameWord-byte xs ys k same below =
      let in_ys : k < length ys = omega (arith, IsSameWord-length xs ys same) in
      sym (get_or-map (folded p) xs k 0 0 below) ∙ ap (λ (w : List ℕ). get_or w k 0) same ∙ get_or-map (folded p) ys k 0 0 in_ys

  pub is_same_word-Decides : (xs ys : List ℕ) → Decides (is_same_word p xs ys) (IsSameWord p xs ys)
  is_same_word-Decides xs ys = bytes_eq-Decides (folded_word p xs) (folded_word p ys)

pub ruleset same_words = (IsSameWord-from_bytes, IsSameWord-length, IsSameWord-byte)
