-- What is known after one byte more of a stream.
use Rattle.std.proofs.Common.{◌≡◌, ◌≢◌, ℕ, ◌+◌, ◌<◌, ◌≤◌, ◌⊎◌, ◌&&◌, inl, inr, Bool, true, false, List, [], ◌∷◌, ◌++◌, length, take, get_or, refl, sym, ◌∙◌, ap, subst, arith, append_assoc, length-append}
use Rattle.std.specs.Prelude.{Option, Some, None, IfSome, is_none}
use Rattle.std.proofs.lemmas.List.{take_more, length-take}
use Rattle.aho_core.specs.Laws.{BestAfter, Reads, better, longest, told}
use Rattle.aho_core.specs.Occurrence.{Occurrence}
use Rattle.aho_core.specs.Patterns.{Patterns}
use Rattle.aho_core.specs.declared.search.Anchored.{Anchored}
use Rattle.aho_core.specs.declared.search.Anchored.TheVariants.{No}
use Rattle.aho_core.specs.declared.search.MatchKind.{MatchKind}
use Rattle.aho_core.specs.declared.search.MatchKind.TheVariants.{Standard, LeftmostFirst, LeftmostLongest}
use Rattle.aho_automaton.proofs.Told.{better-none}
use Rattle.aho_stream.specs.After.{is_settled}
use Rattle.aho_stream.specs.Walking.{WalksOn}
use Rattle.aho_stream.proofs.PatternLengths.{occurs_short}

-- one byte more
pub one_more : (word bytes : List ℕ) (n : ℕ) → n < length bytes → word ++ take (n + 1) bytes ≡ (word ++ take n bytes) ++ get_or bytes n 0 ∷ []
one_more word bytes n within =
    ap (λ (xs : List ℕ). word ++ xs) (take_more bytes n 0 within)
    ∙ sym (append_assoc word (take n bytes) (get_or bytes n 0 ∷ []))

pub length_walked : (word bytes : List ℕ) (n at : ℕ) → length word ≡ at → n ≤ length bytes → length (word ++ take n bytes) ≡ at + n
length_walked word bytes n at place within = simp (length-append, length-take) (omega (arith, place))

-- a match in hand that is not settled is of a leftmost kind whose state is not dead
pub unsettled_leftmost : (kind : MatchKind) (dead : Bool) (m : Occurrence) → is_settled kind dead (Some m) ≡ false → (kind ≢ Standard) × (dead ≡ false)
unsettled_leftmost Standard dead m e = cc
unsettled_leftmost LeftmostFirst dead m e = (λ s. cc, e)
unsettled_leftmost LeftmostLongest dead m e = (λ s. cc, e)

-- and one that is settled is of the kind Standard, or the state is dead
pub why_settled : (kind : MatchKind) (dead : Bool) (m : Occurrence) → is_settled kind dead (Some m) ≡ true → (kind ≡ Standard) ⊎ (dead ≡ true)
why_settled Standard dead m e = inl refl
why_settled LeftmostFirst dead m e = inr e
why_settled LeftmostLongest dead m e = inr e

-- under Standard none is unsettled
pub unsettled_none : (kind : MatchKind) (dead : Bool) (best : Option Occurrence) → is_settled kind dead best ≡ false → kind ≡ Standard → best ≡ None
unsettled_none kind dead None e standard = refl
unsettled_none Standard dead (Some m) e standard = cc
unsettled_none LeftmostFirst dead (Some m) e standard = cc
unsettled_none LeftmostLongest dead (Some m) e standard = cc

-- where a search is as at its beginning, no match is in hand, and the state is a start
pub at_beginning : (best : Option Occurrence) (start : Bool) → (is_none best && start) ≡ true → (best ≡ None) × (start ≡ true)
at_beginning None start e = (refl, e)
at_beginning (Some m) start e = cc

-- so what a state tells is better than it
better_unsettled : (kind : MatchKind) (dead : Bool) (best : Option Occurrence) (m : Occurrence) → is_settled kind dead best ≡ false → better kind best (Some m) ≡ Some m
better_unsettled Standard dead None m e = refl
better_unsettled Standard dead (Some n) m e = cc
better_unsettled LeftmostFirst dead best m e = refl
better_unsettled LeftmostLongest dead best m e = refl

-- it stays so in another state that is not dead
pub still_unsettled : (kind : MatchKind) (dead now : Bool) (best : Option Occurrence) → is_settled kind dead best ≡ false → now ≡ false → is_settled kind now best ≡ false
still_unsettled kind dead now None e alive = refl
still_unsettled Standard dead now (Some m) e alive = cc
still_unsettled LeftmostFirst dead now (Some m) e alive = alive
still_unsettled LeftmostLongest dead now (Some m) e alive = alive

-- what a state tells ends where it is told
told_ends : (lengths list : List ℕ) (at : ℕ) (m : Occurrence) → told lengths No 0 at list ≡ Some m → m.end ≡ at
told_ends lengths [] at m e = cc
told_ends lengths (k ∷ ks) at m e = cc

module _ {p : Patterns} {kind : MatchKind} {lengths : List ℕ} {held : Anchored → List ℕ → ℕ → Type 0} {list : ℕ → List ℕ} {dead starts : ℕ → Bool}
    (laws : Reads p kind lengths held list dead starts) where
  -- the best is made of the best before and of what the state tells
  pub best_of_more : (word bytes : List ℕ) (n at sid : ℕ) (best : Option Occurrence) → length word ≡ at → n < length bytes → held No (word ++ take (n + 1) bytes) sid → BestAfter p No (word ++ take n bytes) best
      → BestAfter p No (word ++ take (n + 1) bytes) (better kind best (told lengths No 0 (at + n + 1) (list sid)))
  best_of_more word bytes n at sid best place within is_held is_best =
      let more = one_more word bytes n within in
      let w = word ++ take n bytes in
      subst (λ (k : ℕ). BestAfter p No (word ++ take (n + 1) bytes) (better kind best (told lengths No 0 (k + 1) (list sid)))) (length_walked word bytes n at place (omega arith))
      (subst (λ (xs : List ℕ). BestAfter p No xs (better kind best (told lengths No 0 (length w + 1) (list sid)))) (sym more)
      (laws.after_byte No w (get_or bytes n 0) sid best (subst (λ (xs : List ℕ). held No xs sid) more is_held) is_best))

  -- where the match in hand is not settled, it starts no farther back than the longest pattern is long
  pub near_unsettled : (w : List ℕ) (sid : ℕ) (m : Occurrence) → held No w sid → is_settled kind (dead sid) (Some m) ≡ false → BestAfter p No w (Some m) → length w ≤ m.start + longest lengths
  near_unsettled w sid m is_held going best = let u = unsettled_leftmost kind (dead sid) m going in laws.near w sid m u.0 is_held u.1 best

  -- and one byte later one byte farther
  near_more : (w z : List ℕ) (prev : ℕ) (best now : Option Occurrence) → length z ≡ length w + 1 → held No w prev → is_settled kind (dead prev) best ≡ false → BestAfter p No w best
      → ((m : Occurrence) → now ≡ Some m → m.end ≡ length z) → BestAfter p No z (better kind best now)
      → IfSome (better kind best now) (λ m. length z ≤ m.start + longest lengths + 1)
  near_more w z prev None None long is_held going is_best ends best = subst (λ (b : Option Occurrence). IfSome b (λ m. length z ≤ m.start + longest lengths + 1)) (sym (better-none kind None)) tt
  near_more w z prev (Some m) None long is_held going is_best ends best =
      subst (λ (b : Option Occurrence). IfSome b (λ m. length z ≤ m.start + longest lengths + 1)) (sym (better-none kind (Some m))) (omega (arith, near_unsettled w prev m is_held going is_best, long))
  near_more w z prev last (Some m) long is_held going is_best ends best =
      let same = better_unsettled kind (dead prev) last m going in
      let now = subst (λ (b : Option Occurrence). BestAfter p No z b) same best in
      subst (λ (b : Option Occurrence). IfSome b (λ m. length z ≤ m.start + longest lengths + 1)) (sym same) (omega (arith, occurs_short p lengths laws.lengths_are m now.0, ends m refl))

  module _ (word bytes : List ℕ) (n at prev : ℕ) (best : Option Occurrence) (place : length word ≡ at) (is_held : held No (word ++ take n bytes) prev)
      (going : is_settled kind (dead prev) best ≡ false) (is_best : BestAfter p No (word ++ take n bytes) best) where
    -- the walk ends where the match in hand is settled
    pub walks_settled : (sid : ℕ) (found : Option Occurrence) → n < length bytes → held No (word ++ take (n + 1) bytes) sid → found ≡ better kind best (told lengths No 0 (at + n + 1) (list sid))
        → WalksOn p lengths held word bytes (record { count = n + 1; sid = sid; found = found })
    walks_settled sid found within held_now is =
        let now = told lengths No 0 (at + n + 1) (list sid) in
        let z = word ++ take (n + 1) bytes in
        let long : length z ≡ at + (n + 1) = length_walked word bytes (n + 1) at place (omega arith) in
        let more = best_of_more word bytes n at sid best place within held_now is_best in
        record {
          held_is = held_now;
          best_is = subst (BestAfter p No z) (sym is) more;
          near = subst (λ (k : ℕ). IfSome found (λ m. k ≤ m.start + longest lengths + 1)) (long ∙ ap (λ (k : ℕ). k + (n + 1)) (sym place))
              (subst (λ (b : Option Occurrence). IfSome b (λ m. length z ≤ m.start + longest lengths + 1)) (sym is)
              (near_more (word ++ take n bytes) z prev best now (omega (arith, long, length_walked word bytes n at place (omega arith))) is_held going is_best
              (λ m e. omega (arith, told_ends lengths (list sid) (at + n + 1) m e, long)) more));
          ends = λ standard. subst (λ (b : Option Occurrence). IfSome b (λ m. length word + (n + 1) ≤ m.end)) (sym is) (ends_told standard now (λ m e. told_ends lengths (list sid) (at + n + 1) m e));
        }
      where
        ends_told : p.kind ≡ Standard → (now : Option Occurrence) → ((m : Occurrence) → now ≡ Some m → m.end ≡ at + n + 1) → IfSome (better kind best now) (λ m. length word + (n + 1) ≤ m.end)
        ends_told standard None ends = subst (λ (b : Option Occurrence). IfSome b (λ m. length word + (n + 1) ≤ m.end)) (sym (better-none kind best))
            (subst (λ (b : Option Occurrence). IfSome b (λ m. length word + (n + 1) ≤ m.end)) (sym (unsettled_none kind (dead prev) best going (laws.kind_is ∙ standard))) tt)
        ends_told standard (Some m) ends = subst (λ (b : Option Occurrence). IfSome b (λ m. length word + (n + 1) ≤ m.end)) (sym (better_unsettled kind (dead prev) best m going)) (omega (arith, ends m refl, place))

    -- or where all was walked
    pub walks_all : n ≡ length bytes → WalksOn p lengths held word bytes (record { count = n; sid = prev; found = best })
    walks_all all = record {
      held_is = is_held;
      best_is = is_best;
      near = near_best best going is_best;
      ends = λ standard. subst (λ (b : Option Occurrence). IfSome b (λ m. length word + n ≤ m.end)) (sym (unsettled_none kind (dead prev) best going (laws.kind_is ∙ standard))) tt;
    }
      where
        near_best : (best : Option Occurrence) → is_settled kind (dead prev) best ≡ false → BestAfter p No (word ++ take n bytes) best → IfSome best (λ m. length word + n ≤ m.start + longest lengths + 1)
        near_best None going is_best = tt
        near_best (Some m) going is_best = omega (arith, near_unsettled (word ++ take n bytes) prev m is_held going is_best, length_walked word bytes n at place (omega (arith, all)), place)
