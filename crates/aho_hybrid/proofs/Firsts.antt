-- A byte of each class, written in the order of the bytes.
use Rattle.std.proofs.Common.{◌≡◌, ◌≢◌, ℕ, ◌+◌, ◌<◌, Bool, List, length, get_or, set, sym, ap, ◌∙◌, inl, inr, arith, get_or-set_same, get_or-set_other}
use Rattle.std.proofs.lemmas.Bool.{cases_eq}
use Rattle.aho_table.specs.Alphabet.{class_of}

-- with one byte more each class that was met has one of its bytes
pub first-written : (classes : List Bool) (firsts : List ℕ) (count class : ℕ) → class ≡ class_of classes count → class < length firsts
    → ((b : ℕ) → b < count → class_of classes (get_or firsts (class_of classes b) 0) ≡ class_of classes b)
    → (b : ℕ) → b < count + 1 → class_of classes (get_or (set firsts class count) (class_of classes b) 0) ≡ class_of classes b
first-written classes firsts count class is within met b below =
    elim (cases_eq (class_of classes b) class) [
      | inl same ↦
          ap (λ (n : ℕ). class_of classes (get_or (set firsts class count) n 0)) same
          ∙ ap (class_of classes) (get_or-set_same firsts class count 0 within)
          ∙ sym is ∙ sym same
      | inr other ↦
          let ne : b ≢ count = (λ e. other (ap (class_of classes) e ∙ sym is)) in
          ap (class_of classes) (get_or-set_other firsts class (class_of classes b) count 0 other) ∙ met b (omega (arith, ne, below))
    ]
