-- Words that begin others, by the words that are the same; and where none does.
use Rattle.std.proofs.Common.{◌≡◌, ℕ, ◌<◌, Bool, true, false, List, ◌++◌, length, take, drop, sym, ◌∙◌, ap, arith, inl, inr, length-append}
use Rattle.std.specs.Bool.{Decides}
use Rattle.std.specs.List.{list_any, range_with_len}
use Rattle.std.proofs.Math.Seq.{take-append_seam}
use Rattle.std.proofs.lemmas.Bool.{cases_Bool}
use Rattle.std.proofs.lemmas.Bool.Decides.{same_from_decides}
use Rattle.std.proofs.lemmas.List.{length-map, take-map, take-append-drop}
use Rattle.aho_laws.proofs.Begins.{begins-true, begins-from, any-true}
use Rattle.aho_core.specs.Bytes.{folded, folded_word, IsSameWord, is_same_word}
use Rattle.aho_core.specs.Patterns.{Patterns}
use Rattle.aho_core.specs.Trie.{begins}
use Rattle.aho_laws.proofs.SameWords.{is_same_word-Decides}

module _ (p : Patterns) (word pattern : List ℕ) where
  begins-same : begins (folded_word p word) (folded_word p pattern) ≡ true → IsSameWord p word (take (length word) pattern)
  begins-same h =
      let t = begins-true (folded_word p word) (folded_word p pattern) h in
      sym (take-append_seam (folded_word p word) t.0)
      ∙ ap (take (length (folded_word p word))) t.1
      ∙ ap (λ (n : ℕ). take n (folded_word p pattern)) (length-map word (folded p))
      ∙ take-map (folded p) (length word) pattern

  same-begins : IsSameWord p word (take (length word) pattern) → begins (folded_word p word) (folded_word p pattern) ≡ true
  same-begins same =
      begins-from (folded_word p word) (drop (length word) (folded_word p pattern)) (folded_word p pattern)
      (ap (λ (w : List ℕ). w ++ drop (length word) (folded_word p pattern)) (same ∙ sym (take-map (folded p) (length word) pattern))
      ∙ take-append-drop (length word) (folded_word p pattern))

  begins-Decides : Decides (begins (folded_word p word) (folded_word p pattern)) (IsSameWord p word (take (length word) pattern))
  begins-Decides = (begins-same, same-begins)

  -- a word begins another where it is the same as that one's front
  pub is_same_word-front : is_same_word p word (take (length word) pattern) ≡ begins (folded_word p word) (folded_word p pattern)
  is_same_word-front = same_from_decides _ _ (is_same_word-Decides p word (take (length word) pattern)) begins-Decides

  -- a longer word begins none
  pub begins-longer : length pattern < length word → begins (folded_word p word) (folded_word p pattern) ≡ false
  begins-longer longer =
      elim (cases_Bool (begins (folded_word p word) (folded_word p pattern))) [
        | inl h ↦
            (let t = begins-true (folded_word p word) (folded_word p pattern) h in
            absurd (omega (arith, ap length t.1, length-append (folded_word p word) t.0, length-map word (folded p), length-map pattern (folded p))))
        | inr none ↦ none
      ]

-- no number of the range passes the test
pub list_any-none : (test : ℕ → Bool) (n : ℕ) → ((k : ℕ) → k < n → test k ≡ false) → list_any test (range_with_len 0 n) ≡ false
list_any-none test n fails =
    elim (cases_Bool (list_any test (range_with_len 0 n))) [
      | inl passes ↦ (let found = any-true test 0 n passes in let fails_there = fails found.0 (omega (arith, found.2)) in let passes_there = found.3 in cc)
      | inr none ↦ none
    ]
