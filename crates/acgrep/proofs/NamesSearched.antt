-- What the file of a name has that was searched.
use Rattle.acgrep.proofs.Common.{Consumes-nil, Job, Patterns, is_input}
use Rattle.std.proofs.Common.{◌≡◌, Bool, List, Option, [], false, refl, subst, true, ℕ}
use Rattle.std.specs.Prelude.{MatchBool}
use Rattle.acgrep.specs.Binary.{is_guarded, lines_sought}
use Rattle.acgrep.specs.Files.{HasSelected, LeavesInput, SearchesName, known_of}
use Rattle.acgrep.specs.Filled.{ReadsOn}
use Rattle.acgrep.specs.Written.{IsSelected, SomeLine}
use Rattle.acgrep.proofs.BinaryTold.{either_some}

-- a selected line, where the same lines are searched
pub name_has : (p : Patterns) (job : Job) (holds : List ℕ → Option (List ℕ)) (follows : Bool) (name : List ℕ) (left left' held held' : Option (List ℕ))
    → SearchesName p job follows holds name left left' held held' true → HasSelected p job (known_of holds name left)
name_has p job holds follows name left left' held held' searched = (
  searched.file.text,
  searched.file.of,
  subst (λ (j : Job). SomeLine (IsSelected p j.fit j.invert) (lines_sought j searched.file.text)) searched.is_named.is
      (either_some p searched.named searched.file.text searched.file.bytes (is_guarded searched.named) refl searched.file.tells),
)

-- where nothing is read, the input is left as it was
pub leaves_none : (name : List ℕ) (left : Option (List ℕ)) → LeavesInput name left left
leaves_none name left = by (is_input name)
  where
    by : (input : Bool) → MatchBool input (ReadsOn left left) (left ≡ left)
    by true = ([], Consumes-nil left)
    by false = refl
