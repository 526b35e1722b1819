-- What stands before a line, the line with its matches, and what ends it.
use Rattle.acgrep.proofs.Common.{Appends-trans}
use Rattle.acgrep.proofs.matches.put_colored_line.Goals as goal

pub returns : goal.returns
returns g c = record {
  written = λ p is.
      let shown = c.in_ok-put_matches.ensures.written p is in
      record {
        matches = shown.matches;
        found = shown.found;
        written = Appends-trans _ _ _ _ _ c.in_ok-put_head.ensures.written (Appends-trans _ _ _ _ _ shown.written c.in_ok-write_all.ensures.bytes);
      };
}
