-- Where the occurrences of a span end.
use Rattle.std.proofs.Common.{◌≡◌, ℕ, zero, suc, ◌<◌, ◌≤◌, List, [], ◌∷◌, length, get_or, inl, inr, refl, subst, arith}
use Rattle.aho_laws.proofs.Listings.{all_occurrences-only}
use Rattle.aho_core.specs.Listing.{IsMember}
use Rattle.aho_core.specs.Occurrence.{Occurrence}
use Rattle.aho_core.specs.Overlapping.{all_occurrences}
use Rattle.aho_core.specs.Patterns.{Patterns}

-- an occurrence ends in the span
abbrev pub EndsWithin : ℕ → ℕ → Occurrence → Type 0
EndsWithin start end m = (start ≤ m.end) × (m.end ≤ end)

member-get_or : {X : Type 0} (xs : List X) (i : ℕ) (d : X) → i < length xs → IsMember xs (get_or xs i d)
member-get_or [] i d below = absurd (omega arith)
member-get_or (x ∷ xs) zero d below = inl refl
member-get_or (x ∷ xs) (suc i) d below = inr (member-get_or xs i d (omega arith))

-- each of those listed does
pub all_occurrences-get_or : (p : Patterns) (haystack : List ℕ) (start end : ℕ) (ms : List Occurrence) (i : ℕ) (d : Occurrence)
    → end ≤ length haystack → ms ≡ all_occurrences p haystack start end → i < length ms → EndsWithin start end (get_or ms i d)
all_occurrences-get_or p haystack start end ms i d within are below =
    let occurs = all_occurrences-only p haystack start end (get_or ms i d) within (subst (λ (xs : List Occurrence). IsMember xs (get_or ms i d)) are (member-get_or ms i d below)) in
    (omega (arith, occurs.after_start, occurs.sized), occurs.before_end)
