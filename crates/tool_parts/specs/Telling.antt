-- What is written to standard error.
use Rattle.std.specs.Prelude.{◌≡◌, ◌⊎◌, ℕ, true, false, List, ◌∷◌, ◌++◌, Result, IfErr, OnErr, OnOk, codes}
use Rattle.std.specs.Borrow.{Bor}
use Rattle.std.specs.Io.KnownBytes.{Appends}
use Rattle.std.specs.List.{All, concat}
use Rattle.aho_core.specs.Replacement.{pieces_of}
use Rattle.aho_core.specs.Texts.{build_error_text, match_error_text}
use Rattle.aho_core.specs.declared.error.BuildError.{BuildError}
use Rattle.aho_core.specs.declared.error.MatchErrorKind.{MatchErrorKind}
use Rattle.aho_core.specs.declared.error.stream.StreamError.{StreamError}
use Rattle.aho_devices.specs.Counts.{AppendsBeginning, counted}
use Rattle.aho_devices.specs.Refusals.{IsWriteRefusal}
use Rattle.aho_devices.specs.declared.device.Sink.{Ghosts as SinkGhosts}
use Rattle.tool_parts.specs.declared.errors.Errors.{Errors}

-- the bytes of some parts, one after another
abbrev pub all_bytes : List (Bor (List ℕ)) → List ℕ
all_bytes parts = concat (pieces_of parts)

-- why an automaton is refused, as a line
abbrev pub build_error_line : BuildError → List ℕ
build_error_line error = build_error_text error ++ codes "\n"

-- why a search is refused, as a line
abbrev pub search_error_line : MatchErrorKind → List ℕ
search_error_line error = match_error_text error ++ codes "\n"

module _ {E : Type 0} (K : SinkGhosts E) where
  -- no call of a sink failed, and no write took nothing
  pub record NoneFailed (old new : E) : Type 0 where
    pub failures : K.failures new ≡ K.failures old
    pub empty_writes : K.empty_writes new ≡ K.empty_writes old

  -- one failed, or took nothing
  abbrev pub OneFailed : E → E → Type 0
  OneFailed old new = (K.failures new ≡ counted true (K.failures old)) ⊎ (K.empty_writes new ≡ counted true (K.empty_writes old))

  -- a sink takes these bytes: all of them where no write failed, and else a beginning of them
  pub record TakesBytes (old new : E) (bytes : List ℕ) (result : Result Unit StreamError) : Type 0 where
    pub whole : OnOk result (Appends (K.taken old) (K.taken new) bytes)
    pub begun : AppendsBeginning (K.taken old) (K.taken new) bytes
    -- which of both is so by the counts of the sink
    pub none_failed : OnOk result (NoneFailed old new)
    pub one_failed : OnErr result (OneFailed old new)
    pub only : IfErr result IsWriteRefusal

  -- the same of standard error of a program
  pub record TellsBytes (old new : Errors E) (bytes : List ℕ) : Type 0 where
    pub begun : AppendsBeginning (K.taken old.sink) (K.taken new.sink) bytes
    pub whole : new.failed ≡ false → Appends (K.taken old.sink) (K.taken new.sink) bytes
    pub none_failed : new.failed ≡ false → NoneFailed old.sink new.sink
    pub one_failed : new.failed ≡ true → old.failed ≡ false → OneFailed old.sink new.sink
    -- after the first write that failed nothing more is written
    pub ended : old.failed ≡ true → new ≡ old

  -- some lines are written so, each of which is one that may be
  pub record Tells (IsLine : List ℕ → Type 0) (old new : Errors E) : Type 0 where
    pub told : List (List ℕ)
    pub are_lines : All IsLine told
    pub written : TellsBytes old new (concat told)

  -- one line or more
  pub record TellsSome (IsLine : List ℕ → Type 0) (old new : Errors E) : Type 0 where
    pub first : List ℕ
    pub is_line : IsLine first
    pub more : List (List ℕ)
    pub are_lines : All IsLine more
    pub written : TellsBytes old new (concat (first ∷ more))
