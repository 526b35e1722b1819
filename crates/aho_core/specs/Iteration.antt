-- What an iterator over matches gives, one after another.
use Rattle.std.specs.Prelude.{◌≡◌, ℕ, suc, Bool, false, ◌&&◌, nat_eq, List, [], ◌∷◌, Option, Some, None, MatchBool}
use Rattle.aho_core.specs.Answer.{IsAnswer}
use Rattle.aho_core.specs.Occurrence.{Occurrence}
use Rattle.aho_core.specs.Patterns.{Patterns}
use Rattle.aho_core.specs.Search.{Search}

-- whether the answer is an empty match where the last match ended
abbrev pub repeats_end : Option ℕ → Option Occurrence → Bool
repeats_end None answer = false
repeats_end (Some last) None = false
repeats_end (Some last) (Some m) = nat_eq m.start m.end && nat_eq m.end last

-- the answer from the start on; where that is an empty match at the last match's end, the answer from one place on
abbrev pub IsNextFind : Patterns → Search → Option ℕ → Option Occurrence → Type 0
IsNextFind p search last found =
    (answer : Option Occurrence) × IsAnswer p search answer
    × MatchBool (repeats_end last answer) (IsAnswer p (record search { start = suc search.start }) found) (found ≡ answer)

-- the matches that iteration gives: each search begins at the end of the match before
abbrev pub AreFinds : Patterns → Search → Option ℕ → List Occurrence → Type 0
AreFinds p search last [] = IsNextFind p search last None
AreFinds p search last (m ∷ ms) = IsNextFind p search last (Some m) × AreFinds p (record search { start = m.end }) (Some m.end) ms
