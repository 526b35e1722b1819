-- What searches find by expressions that match alike.
use Rattle.std.proofs.Common.{◌≡◌, ℕ, ◌<◌, ◌≤◌, ◌-◌, ◌*◌, ◌+◌, List, All, Option, None, Some, option_map, false, sym, ap, ◌∙◌, refl, arith, get_or, subst, Fits, w8}
use Rattle.std.proofs.lemmas.List.{get_or_default}
use Rattle.std.proofs.lemmas.Option.{none-some, same_Some}
use Rattle.regex.specs.Patterns.{Match, Re, SameCaptures, find, span, slot_of}
use Rattle.regex.specs.Writes.{group_of, both}
use Rattle.regex.specs.Search.{Answers, next_match}
use Rattle.regex.proofs.SearchLemmas.{next_same, next_later}
use Rattle.regex_syntax.proofs.CapturesLemmas.{spans, find_alike}
use Rattle.regex.specs.declared.locations.CaptureLocations.{CaptureLocations}
use Rattle.secret_rules.specs.Readers.{IsLocated}

groups_alike : (m n : Match) → slot_of m ≡ slot_of n → (k : ℕ) → group_of m k ≡ group_of n k
groups_alike m n e k = ap (λ f. both (f (2 * k)) (f (2 * k + 1))) e

-- a match and another that a caller sees alike have the same ranges
located_alike : (l : CaptureLocations) (m n : Match) (range : ℕ × ℕ) → spans m ≡ spans n → IsLocated l m range → IsLocated l n range
located_alike l m n range e h =
    let same : span m ≡ span n = ap (λ (s : ℕ × ℕ × (ℕ → Option ℕ)). (s.0, s.1)) e in
    let slots : slot_of m ≡ slot_of n = ap (λ (s : ℕ × ℕ × (ℕ → Option ℕ)). s.2) e in
    (h.0 ∙ same, (λ some. h.1.0 some ∙ ap Some same, λ k low high. h.1.1 k low high ∙ groups_alike m n slots k))

pub answers_alike : (l : CaptureLocations) (found : Option (ℕ × ℕ)) (o p : Option Match) → option_map spans o ≡ option_map spans p
    → Answers found o (IsLocated l) → Answers found p (IsLocated l)
answers_alike l None None None e h = refl
answers_alike l None None (Some n) e h = absurd (none-some _ e)
answers_alike l None (Some m) p e h = absurd (none-some _ (sym h))
answers_alike l (Some range) o None e h = absurd (none-some _ (sym (ap (option_map spans) (sym h.1) ∙ e)))
answers_alike l (Some range) o (Some n) e h =
    let same : spans h.0 ≡ spans n = same_Some _ _ (ap (option_map spans) (sym h.1) ∙ e) in
    (n, refl, located_alike l h.0 n range same h.2)

bytes_of : (line : List ℕ) → ((k : ℕ) → Fits w8 (get_or line k 0)) → All (λ x. x < 256) line
bytes_of line bytes k d h = rw (get_or_default line k d 0 h) (bytes k).fits

module _ (line : List ℕ) (bytes : (k : ℕ) → Fits w8 (get_or line k 0)) (l : CaptureLocations) where
  -- what is found by one is found by the other
  pub found_as_by : (a b : Re) → SameCaptures a b → (start : ℕ) (found : Option (ℕ × ℕ))
      → Answers found (find a line start) (IsLocated l) → Answers found (find b line start) (IsLocated l)
  found_as_by a b same start found = answers_alike l found _ _ (find_alike a b same line (bytes_of line bytes) start)

-- the match from one place back is the next one where it ends no earlier than here
pub next_none : (re : Re) (line : List ℕ) (after : ℕ) → find re line (after - 1) ≡ None → next_match false re line after ≡ None
next_none re line after e = next_same re line false after (λ m f. absurd (none-some _ (sym e ∙ f))) ∙ e

pub next_found : (l : CaptureLocations) (re : Re) (line : List ℕ) (after : ℕ) (range : ℕ × ℕ) → after ≤ range.1
    → Answers (Some range) (find re line (after - 1)) (IsLocated l) → Answers (Some range) (next_match false re line after) (IsLocated l)
next_found l re line after range low h =
    let m = h.0 in
    let ends : m.trace.end ≡ range.1 = sym (ap (λ (r : ℕ × ℕ). r.1) h.2.0) in
    let here : (x : Match) → find re line (after - 1) ≡ Some x → after ≤ x.trace.end =
    λ x f. subst (λ (y : Match). after ≤ y.trace.end) (same_Some _ _ (sym h.1 ∙ f)) (omega arith) in
    (m, next_same re line false after here ∙ h.1, h.2)

pub next_further : (l k : CaptureLocations) (re : Re) (line : List ℕ) (after : ℕ) (range : ℕ × ℕ) (found : Option (ℕ × ℕ)) → range.1 < after
    → Answers (Some range) (find re line (after - 1)) (IsLocated l)
    → Answers found (find re line after) (IsLocated k) → Answers found (next_match false re line after) (IsLocated k)
next_further l k re line after range found high h g =
    let m = h.0 in
    let ends : m.trace.end ≡ range.1 = sym (ap (λ (r : ℕ × ℕ). r.1) h.2.0) in
    let moved = next_later re line false after m h.1 (omega arith) in
    subst (λ o. Answers found o (IsLocated k)) (sym moved) g
