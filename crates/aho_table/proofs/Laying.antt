-- What was put at the end of the words is a list as it is laid down.
use Rattle.std.proofs.Common.{◌≡◌, ℕ, ◌+◌, ◌-◌, ◌<◌, ◌≤◌, List, [], ◌∷◌, ◌++◌, length, get_or, take, drop, replicate, cond, Result, Ok, Err, sym, ap, ◌∙◌, arith}
use Rattle.std.specs.Prelude.{OnOk, is_ok, slice_range}
use Rattle.std.proofs.lemmas.List.{take-append-le, drop-append-le, length-drop, length-take-le, length-append, append_assoc, append-nil}
use Rattle.std.specs.List.{All}
use Rattle.std.proofs.lemmas.List.Elements.{All-get_or, All-append, All-from_get_or}
use Rattle.aho_core.specs.Numbers.{greatest_index}
use Rattle.aho_table.proofs.Patterns.{length-patterns_at, patterns_at-small}
use Rattle.aho_table.specs.Words.{room, length_mark, length_at, patterns_at, laid, AreLaid}

-- what a call that is refused as a whole made
pub OnOk-made : {T E X : Type 0} (result : Result T E) (new made old goal : X) → new ≡ cond (is_ok result) made old → made ≡ goal → OnOk result (new ≡ goal)
OnOk-made (Ok x) new made old goal is same = is ∙ same
OnOk-made (Err e) new made old goal is same = tt

pub added-less : (a b : ℕ) → a + b - a ≡ b
added-less a b = omega arith

pub slice-front : (old more : List ℕ) (from count : ℕ) → from + count ≤ length old → slice_range (old ++ more) from (from + count) ≡ take count (drop from old)
slice-front old more from count within =
    ap (λ (n : ℕ). take n (drop from (old ++ more))) (added-less from count)
    ∙ ap (take count) (drop-append-le from old more (omega arith))
    ∙ take-append-le count (drop from old) more (omega (arith, length-drop from old))

pub patterns_at-taken : (words : List ℕ) (list own : ℕ) → own ≡ length_at words list → take own (drop list words) ≡ patterns_at words list
unfolding patterns_at
patterns_at-taken words list own is = ap (λ (n : ℕ). take n (drop list words)) is

pub length-taken : (words : List ℕ) (list own : ℕ) → list + own ≤ length words → length (take own (drop list words)) ≡ own
length-taken words list own within = length-take-le own (drop list words) (omega (arith, length-drop list words))

-- a list that was begun, and what was put behind its own patterns
pub begun-more : (old own more : List ℕ) (count : ℕ) → length own + length more ≡ count → (old ++ (length_mark + count) ∷ own) ++ more ≡ old ++ laid (own ++ more)
begun-more old own more count is =
    append_assoc old ((length_mark + count) ∷ own) more
    ∙ ap (λ (n : ℕ). old ++ (length_mark + n) ∷ (own ++ more)) (sym is ∙ sym (length-append own more))

pub laid-grouped : (old items : List ℕ) (more : ℕ) → old ++ laid items ++ replicate more room ≡ old ++ (laid items ++ replicate more room)
laid-grouped old items more = append_assoc old (laid items) (replicate more room)

pub laid-alone : (old items : List ℕ) → old ++ laid items ≡ old ++ (laid items ++ replicate 0 room)
laid-alone old items = ap (λ (xs : List ℕ). old ++ xs) (sym (append-nil (laid items)))

-- ---- the patterns of a list, and more

both-small : (xs ys : List ℕ) → All (λ (x : ℕ). x ≤ greatest_index) xs → All (λ (y : ℕ). y ≤ greatest_index) ys → (i : ℕ) → i < length (xs ++ ys)
    → get_or (xs ++ ys) i 0 ≤ greatest_index
both-small xs ys low below i inside = All-get_or (λ (x : ℕ). x ≤ greatest_index) (xs ++ ys) i 0 inside (All-append (λ (x : ℕ). x ≤ greatest_index) xs ys low below)

module _ (words : List ℕ) (count list : ℕ) where
  pub pushed-len : (pattern : ℕ) → AreLaid words count → length (patterns_at words list ++ pattern ∷ []) ≡ length_at words list + 1
  pushed-len pattern are = omega (arith, length-append (patterns_at words list) (pattern ∷ []), length-patterns_at words count list are)

  pub pushed-small : (pattern : ℕ) → AreLaid words count → pattern ≤ greatest_index → (i : ℕ) → i < length (patterns_at words list ++ pattern ∷ [])
      → get_or (patterns_at words list ++ pattern ∷ []) i 0 ≤ greatest_index
  pushed-small pattern are small =
      both-small (patterns_at words list) (pattern ∷ []) (patterns_at-small words count list are)
      (All-from_get_or (λ (x : ℕ). x ≤ greatest_index) (pattern ∷ []) 0 (λ i inside. let is : i ≡ 0 = omega arith in omega (arith, small, ap (λ (n : ℕ). get_or (pattern ∷ []) n 0) is)))

  pub joined-len : (other : ℕ) → AreLaid words count → length (patterns_at words list ++ patterns_at words other) ≡ length_at words list + length_at words other
  joined-len other are =
      omega (arith, length-append (patterns_at words list) (patterns_at words other), length-patterns_at words count list are, length-patterns_at words count other are)

  pub joined-small : (other : ℕ) → AreLaid words count → (i : ℕ) → i < length (patterns_at words list ++ patterns_at words other)
      → get_or (patterns_at words list ++ patterns_at words other) i 0 ≤ greatest_index
  joined-small other are =
      both-small (patterns_at words list) (patterns_at words other) (patterns_at-small words count list are) (patterns_at-small words count other are)
