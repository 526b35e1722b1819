-- The bytes that were fed of the first run in hand.
use Rattle.std.proofs.Common.{◌≡◌, ℕ, ◌<◌, ◌≤◌, max, min, List, [], ◌∷◌, ◌++◌, refl, sym, ◌∙◌, ap, subst, arith, inl, inr}
use Rattle.std.specs.Prelude.{Some, slice_range}
use Rattle.std.proofs.lemmas.Bool.{cases_lt}
use Rattle.aho_core.specs.Occurrence.{Occurrence}
use Rattle.aho_core.specs.Patterns.{Patterns}
use Rattle.aho_automaton.proofs.Places.{part_join}
use Rattle.aho_devices.specs.declared.device.Sink.{Ghosts as SinkGhosts}
use Rattle.aho_cover.specs.declared.progress.CoverProgress.{CoverProgress}
use Rattle.aho_cover.specs.Counting.{Output}
use Rattle.aho_cover.specs.Feeds.{Feeding}
use Rattle.aho_cover.specs.Hand.{first_start, held_runs}
use Rattle.aho_cover.specs.Progress.{IsSoundCover, least_start, outside_end}
use Rattle.aho_cover.specs.Writes.{WritesOn}
use Rattle.aho_cover.proofs.Copied.{nothing_between}
use Rattle.aho_cover.proofs.Written.{writes_still, writes_with}

-- what was fed, and the rest up to a place
pub fed-rest : (haystack : List ℕ) (copied fed start from to : ℕ) → copied ≤ start → (copied < fed → start ≡ copied) → from ≡ max fed start → from ≤ to
    → slice_range haystack copied fed ++ slice_range haystack from to ≡ slice_range haystack start to
fed-rest haystack copied fed start from to low first is within = elim (cases_lt copied fed) [
  | inl some ↦
      (let place : from ≡ fed = omega (arith, is, first some, some) in
      ap (λ (n : ℕ). slice_range haystack copied fed ++ slice_range haystack n to) place
      ∙ sym (part_join haystack copied fed to (omega (arith, some)) (omega (arith, place, within)))
      ∙ ap (λ (n : ℕ). slice_range haystack n to) (sym (first some)))
  | inr none ↦
      (let place : from ≡ start = omega (arith, is, none, low) in
      ap (λ (xs : List ℕ). xs ++ slice_range haystack from to) (nothing_between haystack copied fed none)
      ∙ ap (λ (n : ℕ). slice_range haystack n to) place)
]

-- where the first run begins, if some of it was fed
pub fed-start : (s : CoverProgress) (at : ℕ) → IsSoundCover s at → (x : Occurrence) (rest : List Occurrence) → held_runs s.hand ≡ x ∷ rest → s.copied < s.fed → x.start ≡ s.copied
fed-start s at sound x rest first some = let same : Some x.start ≡ Some s.copied = sym (ap first_start first) ∙ sound.fed_first some in cc

-- what was fed is the same where bytes are written that no run holds
pub fed-outside : (s : CoverProgress) (at : ℕ) → IsSoundCover s at → (place copied : ℕ) → copied ≡ max s.copied (outside_end place (held_runs s.hand)) → (haystack : List ℕ)
    → slice_range haystack s.copied s.fed ≡ slice_range haystack copied s.fed
fed-outside s at sound place copied most haystack = elim (cases_lt s.copied s.fed) [
  | inl some ↦
      (let end : outside_end place (held_runs s.hand) ≡ min place s.copied = ap (least_start place) (sound.fed_first some) in
      let same : s.copied ≡ copied = omega (arith, most, end) in
      ap (λ (n : ℕ). slice_range haystack n s.fed) same)
  | inr none ↦ nothing_between haystack s.copied s.fed none ∙ sym (nothing_between haystack copied s.fed (omega (arith, most, none)))
]

-- a call that makes no pieces keeps what was fed
module _ {W : Type 0} {K : SinkGhosts W} {one two : W} {a b : List ℕ} {X Y : Patterns → List ℕ → Output → Type 0} (holds : List ℕ → Type 0) (s s' : CoverProgress) where
  pub writes_feeding : ((haystack : List ℕ) → slice_range haystack s.copied s.fed ≡ slice_range haystack s'.copied s'.fed) → WritesOn K one two a b X Y → WritesOn K one two a b (Feeding holds s X) (Feeding holds s' Y)
  writes_feeding same writes =
      writes_still (Feeding holds s X) (Feeding holds s' Y) (λ p haystack written before. before) (λ p haystack written after. (after.0, subst holds (same haystack) after.1))
      (writes_with (λ p haystack. holds (slice_range haystack s.copied s.fed)) writes)

-- the first of some runs
pub first-known : (runs : List Occurrence) (start : ℕ) → first_start runs ≡ Some start → (x : Occurrence) × (rest : List Occurrence) × (runs ≡ x ∷ rest) × (x.start ≡ start)
first-known [] start e = cc
first-known (x ∷ rest) start e = (x, rest, refl, (cc))
