-- Runs of bytes that grow at their end.
use Rattle.std.proofs.Common.{◌≡◌, ℕ, ◌+◌, List, [], ◌∷◌, ◌++◌, sym, ap, ◌∙◌, arith}
use Rattle.std.proofs.lemmas.Grind.{flat_map-append}
use Rattle.std.proofs.lemmas.List.{append_assoc, append-nil}
use Rattle.std.proofs.lemmas.List.FromFn.{map-range_with_len_more}
use Rattle.acdraw.specs.declared.picture.runs.Run.{Run}
use Rattle.acdraw.specs.Runs.{AreApart, Adjoins, all_pairs, pairs_of}

-- the pairs of a last run stand last
last : (runs : List Run) (run : Run) → all_pairs (runs ++ run ∷ []) ≡ all_pairs runs ++ pairs_of run
last runs run = flat_map-append pairs_of runs (run ∷ []) ∙ ap (λ (l : List (ℕ × ℕ)). all_pairs runs ++ l) (append-nil (pairs_of run))

-- the last run takes the next byte
pub longer_run : (runs : List Run) (run new : Run) (byte : ℕ) → new ≡ record run { more = run.more + 1 } → run.first + run.more + 1 ≡ byte
    → all_pairs (runs ++ new ∷ []) ≡ all_pairs (runs ++ run ∷ []) ++ (byte, run.next) ∷ []
longer_run runs run new byte is next =
    let place : run.first + (run.more + 1) ≡ byte = omega arith in
    ap (λ (r : Run). all_pairs (runs ++ r ∷ [])) is
    ∙ last runs (record run { more = run.more + 1 })
    ∙ ap (λ (l : List (ℕ × ℕ)). all_pairs runs ++ l) (map-range_with_len_more (λ b. (b, run.next)) run.first (run.more + 1) byte place)
    ∙ sym (append_assoc (all_pairs runs) (pairs_of run) ((byte, run.next) ∷ []))
    ∙ ap (λ (l : List (ℕ × ℕ)). l ++ (byte, run.next) ∷ []) (sym (last runs run))

-- or another one begins
pub new_run : (runs : List Run) (new : Run) (byte next : ℕ) → new ≡ record { first = byte; more = 0; next = next } → all_pairs (runs ++ new ∷ []) ≡ all_pairs runs ++ (byte, next) ∷ []
new_run runs new byte next is = ap (λ (r : Run). all_pairs (runs ++ r ∷ [])) is ∙ last runs (record { first = byte; more = 0; next = next })

-- the last run is made longer
pub apart_longer : (runs : List Run) (run new : Run) → new.first ≡ run.first → new.next ≡ run.next → AreApart (runs ++ run ∷ []) → AreApart (runs ++ new ∷ [])
apart_longer [] run new first next apart = tt
apart_longer (before ∷ []) run new first next apart = (λ goes_on. apart.0 (goes_on.0 ∙ first, goes_on.1 ∙ next), tt)
apart_longer (before ∷ other ∷ runs) run new first next apart = (apart.0, apart_longer (other ∷ runs) run new first next apart.1)

-- or another one begins behind it
pub apart_more : (runs : List Run) (run new : Run) → (Adjoins run new → ⊥) → AreApart (runs ++ run ∷ []) → AreApart ((runs ++ run ∷ []) ++ new ∷ [])
apart_more [] run new other apart = (other, tt)
apart_more (before ∷ []) run new other apart = (apart.0, (other, tt))
apart_more (before ∷ next ∷ runs) run new other apart = (apart.0, apart_more (next ∷ runs) run new other apart.1)
