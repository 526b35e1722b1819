-- Words turned round: the patterns turned round that end a word turned round are those that begin the word.
use Rattle.std.proofs.Common.{◌≡◌, ℕ, zero, suc, ◌+◌, ◌<◌, ◌≤◌, List, [], ◌∷◌, ◌++◌, length, map, take, drop, reverse, refl, sym, ◌∙◌, ap, arith}
use Rattle.std.specs.Prelude.{slice_index}
use Rattle.std.proofs.lemmas.List.{drop-map, drop_at, get_or-map, length-append, length-map, length-reverse, map-append, reverse-append, reverse-reverse, take-append-drop}
use Rattle.aho_core.specs.Bytes.{folded, folded_word}
use Rattle.aho_core.specs.Laws.{longest}
use Rattle.aho_core.specs.Patterns.{Patterns, pattern_at}
use Rattle.aho_laws.specs.TrieLaws.{IsSuffixOf}
use Rattle.aho_backward.specs.Turned.{size_of, turned}
use Rattle.aho_backward.proofs.Leaders.{BeginsWord}

pub map-reversed : (f : ℕ → ℕ) (xs : List ℕ) → map f (reverse xs) ≡ reverse (map f xs)
map-reversed f [] = refl
map-reversed f (x ∷ xs) =
    ap (map f) (reverse-append (x ∷ []) xs) ∙ map-append f (reverse xs) (x ∷ []) ∙ ap (λ (t : List ℕ). t ++ f x ∷ []) (map-reversed f xs) ∙ sym (reverse-append (f x ∷ []) (map f xs))

-- no length is above the greatest
pub longest-at : (xs : List ℕ) (i : ℕ) → i < length xs → slice_index xs i ≤ longest xs
longest-at [] i lt = absurd (omega arith)
longest-at (x ∷ xs) zero lt = omega arith
longest-at (x ∷ xs) (suc i) lt = omega (arith, longest-at xs i (omega arith))

module _ (p : Patterns) (given : List ℕ) where
  pub length-turned : length (turned p given).words ≡ length given
  length-turned = length-map given (λ number. reverse (pattern_at p number))

  pub pattern-turned : (i : ℕ) → i < length given → pattern_at (turned p given) i ≡ reverse (pattern_at p (slice_index given i))
  pattern-turned i lt = get_or-map (λ number. reverse (pattern_at p number)) given i 0 [] lt

  -- a pattern keeps its length
  pub size-turned : (i : ℕ) → i < length given → size_of (turned p given) i ≡ size_of p (slice_index given i)
  size-turned i lt = ap length (pattern-turned i lt) ∙ length-reverse (pattern_at p (slice_index given i))

  pub lengths-turned : (i : ℕ) → i < length given → slice_index (map length (turned p given).words) i ≡ size_of p (slice_index given i)
  lengths-turned i lt = get_or-map length (turned p given).words i [] 0 (omega (arith, length-turned)) ∙ size-turned i lt

  -- what ends the word turned round begins the word
  pub ends-begins : (word : List ℕ) (i : ℕ) → slice_index given i < length p.words → IsSuffixOf (turned p given) (reverse word) i → BeginsWord p word (slice_index given i)
  ends-begins word i numbered s =
      let pattern = pattern_at p (slice_index given i) in
      let w = reverse word in
      let last = drop s.at w in
      let first = take s.at w in
      let below : i < length given = omega (arith, s.numbered, length-turned) in
      let same : reverse (folded_word p pattern) ≡ folded_word p last = sym (map-reversed (folded p) pattern) ∙ ap (folded_word p) (sym (pattern-turned i below)) ∙ s.same in
      let parts : word ≡ reverse last ++ reverse first = sym (reverse-reverse word) ∙ ap reverse (sym (take-append-drop s.at w)) ∙ reverse-append first last in
      let begin : folded_word p (reverse last) ≡ folded_word p pattern = map-reversed (folded p) last ∙ ap reverse (sym same) ∙ reverse-reverse (folded_word p pattern) in (
        numbered,
        (
          folded_word p (reverse first),
          ap (λ (t : List ℕ). t ++ folded_word p (reverse first)) (sym begin) ∙ sym (map-append (folded p) (reverse last) (reverse first)) ∙ ap (folded_word p) (sym parts),
        ),
      )

  -- and what begins the word ends the word turned round
  pub begins-ends : (word : List ℕ) (i k : ℕ) → i < length given → slice_index given i ≡ k → BeginsWord p word k → IsSuffixOf (turned p given) (reverse word) i
  begins-ends word i k below is b =
      let pattern = pattern_at p k in
      let front = folded_word p pattern in
      let rest = b.1.0 in
      let at = length rest in
      let turned_is : pattern_at (turned p given) i ≡ reverse pattern = pattern-turned i below ∙ ap (λ (x : ℕ). reverse (pattern_at p x)) is in
      let long : length word ≡ length front + at = sym (length-map word (folded p)) ∙ ap length (sym b.1.1) ∙ length-append front rest in
      record {
        numbered = omega (arith, below, length-turned);
        at = at;
        within = omega (arith, length-reverse word, long);
        same =
            ap (folded_word p) turned_is
            ∙ map-reversed (folded p) pattern
            ∙ sym (drop_at (reverse rest) (reverse front) at (length-reverse rest))
            ∙ ap (drop at) (sym (reverse-append front rest) ∙ ap reverse b.1.1 ∙ sym (map-reversed (folded p) word))
            ∙ drop-map (folded p) at (reverse word);
      }
