-- What is told of files whose lines rules mark.
use Rattle.acgrep.proofs.Common.{Errors, Job, Nothing, Outcome, Shown, SinkGhosts, Tells, TellsBytes, TellsSome, Unread, some-one, some-tells, some-then, some-weaker}
use Rattle.std.proofs.Common.{◌==◌, ◌∷◌, Bool, List, [], ap, false, inl, inr, refl, subst, true, ℕ}
use Rattle.std.proofs.lemmas.List.Elements.{All-nil}
use Rattle.std.specs.Prelude.{if◌then◌else◌}
use Rattle.tool_parts.proofs.Lines.{tells-then}
use Rattle.acgrep.specs.Files.{IsNamed}
use Rattle.acgrep.specs.RunsByRules.{long_message, unwritten_line}
use Rattle.acgrep.specs.Told.{IsMessage, TellsOfEnd, TellsOfOutcome, TellsOutcome, TellsStatus}
use Rattle.acgrep.specs.ToldByRules.{IsMarkTold}
use Rattle.acgrep.specs.declared.files.Outcome.TheVariants.{Stopped}

module _ {E : Type 0} (K : SinkGhosts E) where
  -- a message is such a line
  pub some-told : (names : List (List ℕ)) (old new : Errors E) → TellsSome K (IsMessage names) old new → TellsSome K IsMarkTold old new
  some-told names old new told = some-weaker K (IsMessage names) IsMarkTold old new (λ line is. inl (names, is)) told

  outcome-by : (names : List (List ℕ)) (hushed : Bool) (outcome : Outcome) (old new : Errors E) → TellsOutcome K (IsMessage names) hushed outcome old new → TellsOutcome K IsMarkTold hushed outcome old new
  outcome-by names false Unread old new told = some-told names old new told
  outcome-by names hushed Stopped old new told = some-told names old new told
  outcome-by names _ _ old new told = told

  pub outcome-told : (hushed : Bool) (name : List ℕ) (outcome : Outcome) (old new : Errors E) → TellsOfOutcome K hushed name outcome old new → TellsOutcome K IsMarkTold hushed outcome old new
  outcome-told hushed name outcome old new told = outcome-by (name ∷ []) hushed outcome old new (told (name ∷ []) (λ asked. inl refl))

  pub end-told : (hushed : Bool) (outcome : Outcome) (old new : Errors E) → TellsOfEnd K hushed outcome old new → TellsOutcome K IsMarkTold hushed outcome old new
  end-told hushed outcome old new told = outcome-by [] hushed outcome old new (told [])

  -- of the file of a name
  pub named-told : (job named : Job) (name : List ℕ) → IsNamed job name false named → (outcome : Outcome) (old new : Errors E) → TellsOutcome K IsMarkTold named.hushed outcome old new
      → TellsOutcome K IsMarkTold job.hushed outcome old new
  named-told job named name is outcome old new told = subst (λ (b : Bool). TellsOutcome K IsMarkTold b outcome old new) (ap (λ (j : Job). j.hushed) is.is) told

  long-tells : (most count : ℕ) (old new : Errors E) → TellsBytes K old new (long_message most count) → Tells K IsMarkTold old new
  long-tells most count old new told = by (count == 0) told
    where
      by : (none : Bool) → TellsBytes K old new (if none then [] else unwritten_line most count) → Tells K IsMarkTold old new
      by true told = record { told = []; are_lines = All-nil IsMarkTold; written = told }
      by false told = some-tells K IsMarkTold old new (some-one K IsMarkTold old new (unwritten_line most count) (inr (inr (inr (inr (most, count, refl))))) told)

  -- and how many lines are too long behind
  pub long-told : (hushed : Bool) (shown : Shown) (status most count : ℕ) (old mid new : Errors E) → TellsStatus K IsMarkTold hushed shown status old mid → TellsBytes K mid new (long_message most count)
      → TellsStatus K IsMarkTold hushed Nothing status old new
  long-told hushed shown status most count old mid new before told =
      let later = long-tells most count mid new told in
      record {
        tells = tells-then K IsMarkTold old mid new before.tells later;
        silent = λ low loud. absurd (loud refl);
        some = λ asked two. some-then K IsMarkTold old mid new (before.some asked two) later;
      }
