-- Lines that are told, one after another.
use Rattle.std.proofs.Common.{ℕ, List, [], ◌∷◌, ◌++◌, sym, subst, append-nil, arith}
use Rattle.std.proofs.lemmas.List.Elements.{All-append, All-cons, All-nil, All-tail, All-weaker}
use Rattle.std.proofs.lemmas.List.Folds.{concat-append}
use Rattle.std.specs.List.{All, concat}
use Rattle.aho_devices.specs.declared.device.Sink.{Ghosts as SinkGhosts}
use Rattle.tool_parts.specs.Telling.{Tells, TellsBytes, TellsSome}
use Rattle.tool_parts.specs.declared.errors.Errors.{Errors}
use Rattle.tool_parts.proofs.Tellings.{tells-later, tells-nothing}

module _ {E : Type 0} (K : SinkGhosts E) (P : List ℕ → Type 0) where
  -- nothing is told
  pub tells-none : (e : Errors E) → Tells K P e e
  tells-none e = record { told = []; are_lines = All-nil P; written = tells-nothing K e }

  -- one line is
  pub some-one : (old new : Errors E) (line : List ℕ) → P line → TellsBytes K old new line → TellsSome K P old new
  some-one old new line is told = record {
    first = line;
    is_line = is;
    more = [];
    are_lines = All-nil P;
    written = subst (TellsBytes K old new) (sym (append-nil line)) told;
  }

  -- one or more lines are some lines
  pub some-tells : (old new : Errors E) → TellsSome K P old new → Tells K P old new
  some-tells old new some = record {
    told = some.first ∷ some.more;
    are_lines = All-cons P some.first some.more some.is_line some.are_lines;
    written = some.written;
  }

  -- some lines, and then others
  pub tells-then : (old mid new : Errors E) → Tells K P old mid → Tells K P mid new → Tells K P old new
  tells-then old mid new first later = record {
    told = first.told ++ later.told;
    are_lines = All-append P first.told later.told first.are_lines later.are_lines;
    written = subst (TellsBytes K old new) (sym (concat-append first.told later.told)) (tells-later K first.written later.written);
  }

  -- one line or more, and then others
  pub some-then : (old mid new : Errors E) → TellsSome K P old mid → Tells K P mid new → TellsSome K P old new
  some-then old mid new some later = record {
    first = some.first;
    is_line = some.is_line;
    more = some.more ++ later.told;
    are_lines = All-append P some.more later.told some.are_lines later.are_lines;
    written = subst (TellsBytes K old new) (sym (concat-append (some.first ∷ some.more) later.told)) (tells-later K some.written later.written);
  }

  -- some lines, and then one or more
  pub then-some : (old mid new : Errors E) → Tells K P old mid → TellsSome K P mid new → TellsSome K P old new
  then-some old mid new first some = from first.told first.are_lines first.written
    where
      from : (ls : List (List ℕ)) → All P ls → TellsBytes K old mid (concat ls) → TellsSome K P old new
      from [] are written = record {
        first = some.first;
        is_line = some.is_line;
        more = some.more;
        are_lines = some.are_lines;
        written = tells-later K written some.written;
      }
      from (line ∷ ls) are written = record {
        first = line;
        is_line = are 0 line (omega arith);
        more = ls ++ (some.first ∷ some.more);
        are_lines = All-append P ls (some.first ∷ some.more) (All-tail P line ls are) (All-cons P some.first some.more some.is_line some.are_lines);
        written = subst (TellsBytes K old new) (sym (concat-append (line ∷ ls) (some.first ∷ some.more))) (tells-later K written some.written);
      }

  -- lines that may be told in one case may be in another
  pub some-weaker : (Q : List ℕ → Type 0) (old new : Errors E) → ((line : List ℕ) → P line → Q line) → TellsSome K P old new → TellsSome K Q old new
  some-weaker Q old new may some = record {
    first = some.first;
    is_line = may some.first some.is_line;
    more = some.more;
    are_lines = All-weaker P Q may some.more some.are_lines;
    written = some.written;
  }

  pub tells-weaker : (Q : List ℕ → Type 0) (old new : Errors E) → ((line : List ℕ) → P line → Q line) → Tells K P old new → Tells K Q old new
  tells-weaker Q old new may tells = record {
    told = tells.told;
    are_lines = All-weaker P Q may tells.told tells.are_lines;
    written = tells.written;
  }
