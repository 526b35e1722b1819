-- What a replacement in memory gives and writes, of all patterns that the searcher was built from.
use Rattle.std.specs.Prelude.{◌≡◌, ℕ, Bool, List, Result, Ok, Err, IfOk, OnOk, String, Vec, alloc_error, string_bytes, vec_items}
use Rattle.std.specs.Borrow.{Bor, MutBor}
use Rattle.std.specs.Fn.{Mut}
use Rattle.std.specs.declared.alloc.AllocError.{AllocError}
use Rattle.aho_core.specs.ClosureRun.{RunsInMemory}
use Rattle.aho_core.specs.Occurrence.{Occurrence}
use Rattle.aho_core.specs.Replacement.{on_boundaries, pieces_of, replaced}
use Rattle.aho_core.specs.declared.error.MatchErrorKind.{MatchErrorKind}
use Rattle.aho_core.specs.declared.error.replace.ReplaceError.{ReplaceError}
use Rattle.aho_core.specs.declared.error.replace.ReplaceError.TheVariants.{Match as Refused, Memory}
use Rattle.aho_automaton.specs.Finding.{HoldsOfFinds}
use Rattle.chromesquid.specs.Searcher.{IsBuiltFrom, Searcher}

-- it gives the text with these pieces in the place of its finds, but for those that start or end inside a character
abbrev pub ReplacesText : {E Z : Type 0} → Searcher → List ℕ → List (Bor (List ℕ)) → Result (String Z) E → Type 0
ReplacesText searcher haystack pieces result = HoldsOfFinds (IsBuiltFrom searcher) haystack (λ ms.
    IfOk result (λ text. string_bytes text ≡ replaced haystack (on_boundaries haystack ms) (pieces_of pieces)))

-- it gives the bytes with these pieces in the place of their finds
abbrev pub ReplacesBytes : {E Z : Type 0} → Searcher → List ℕ → List (Bor (List ℕ)) → Result (Vec ℕ Z) E → Type 0
ReplacesBytes searcher haystack pieces result = HoldsOfFinds (IsBuiltFrom searcher) haystack (λ ms.
    IfOk result (λ bytes. vec_items bytes ≡ replaced haystack ms (pieces_of pieces)))

-- where a search is refused, this is so
abbrev pub WhereRefused : {A : Type 0} → Result A ReplaceError → Type 0 → Type 0
WhereRefused result Holds = (reason : MatchErrorKind) → result ≡ Err (Refused reason) → Holds

-- a closure was called over a text, on those of its finds that start and end between characters
module _ {F Z : Type 0} (searcher : Searcher)
    (calls : Mut F (Bor Occurrence × (Bor (List ℕ) × (MutBor (String Z) × Unit {0}))) (Result Bool AllocError × (MutBor (String Z) × Unit {0})))
    (haystack : List ℕ) (closure : F) (old : String Z) where
  -- the run may end so
  abbrev pub RunsOverText : Result (Unit {0}) AllocError → String Z → Type 0
  RunsOverText result new = HoldsOfFinds (IsBuiltFrom searcher) haystack (λ ms.
      RunsInMemory calls string_bytes haystack (on_boundaries haystack ms) closure old result new)

  -- where no search is refused and memory is found, the run has come to its good end
  abbrev pub EndsOverText : Result (Unit {0}) ReplaceError → String Z → Type 0
  EndsOverText result new = HoldsOfFinds (IsBuiltFrom searcher) haystack (λ ms.
      OnOk result (RunsInMemory calls string_bytes haystack (on_boundaries haystack ms) closure old (Ok tt) new))

  -- where memory is wanted, the run has ended with that
  abbrev pub StopsOverText : Result (Unit {0}) ReplaceError → String Z → Type 0
  StopsOverText result new = HoldsOfFinds (IsBuiltFrom searcher) haystack (λ ms.
      result ≡ Err Memory → RunsInMemory calls string_bytes haystack (on_boundaries haystack ms) closure old (Err alloc_error) new)

-- a closure was called over a text of bytes, on its finds
module _ {F Z : Type 0} (searcher : Searcher)
    (calls : Mut F (Bor Occurrence × (Bor (List ℕ) × (MutBor (Vec ℕ Z) × Unit {0}))) (Result Bool AllocError × (MutBor (Vec ℕ Z) × Unit {0})))
    (haystack : List ℕ) (closure : F) (old : Vec ℕ Z) where
  -- the run may end so
  abbrev pub RunsOverBytes : Result (Unit {0}) AllocError → Vec ℕ Z → Type 0
  RunsOverBytes result new = HoldsOfFinds (IsBuiltFrom searcher) haystack (λ ms.
      RunsInMemory calls vec_items haystack ms closure old result new)

  -- where no search is refused and memory is found, the run has come to its good end
  abbrev pub EndsOverBytes : Result (Unit {0}) ReplaceError → Vec ℕ Z → Type 0
  EndsOverBytes result new = HoldsOfFinds (IsBuiltFrom searcher) haystack (λ ms.
      OnOk result (RunsInMemory calls vec_items haystack ms closure old (Ok tt) new))

  -- where memory is wanted, the run has ended with that
  abbrev pub StopsOverBytes : Result (Unit {0}) ReplaceError → Vec ℕ Z → Type 0
  StopsOverBytes result new = HoldsOfFinds (IsBuiltFrom searcher) haystack (λ ms.
      result ≡ Err Memory → RunsInMemory calls vec_items haystack ms closure old (Err alloc_error) new)
