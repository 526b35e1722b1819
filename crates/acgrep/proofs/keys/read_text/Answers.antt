-- What was read stands behind the bytes before.
use Rattle.std.proofs.Common.{◌∙◌, sym}
use Rattle.acgrep.proofs.WordLists.{file_added, input_added}
use Rattle.acgrep.proofs.keys.read_text.Goals as goal

pub returns-then-is_input : goal.returns-then-is_input
returns-then-is_input g c =
    let read = c.in_ok-read_to_end.ensures in
    record { added = input_added _ _ _ _ _ _ (sym c.is_input.ensures ∙ c.if-is_input.true) read.appends read.none_lost read.end }

pub returns : goal.returns
returns g c =
    let read = c.in_ok-read_to_end-2.ensures in
    record {
      added = file_added _ _ _ _ _ (g.F.File.Read.remaining c.in_ok-file.file) (g.F.File.Read.remaining c.read_to_end-2.new.self) (sym c.is_input.ensures ∙ c.if-is_input.false) c.in_ok-file.ensures.told
          read.appends read.none_lost read.end;
    }
