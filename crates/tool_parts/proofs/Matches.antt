-- The lines of the first of some matches are a beginning of the lines of all, and so are all of them.
use Rattle.std.proofs.Common.{ℕ, List, ◌++◌}
use Rattle.std.proofs.lemmas.Grind.{flat_map-append}
use Rattle.aho_core.specs.Occurrence.{Occurrence}
use Rattle.std.specs.declared.io.traits.Write.{Ghosts as Writers}
use Rattle.aho_devices.specs.declared.adapters.FromWrite.{FromWrite}
use Rattle.tool_parts.specs.Answers.{BeginsMatches, Begun, PrintsMatches, line_of, lines_of}
use Rattle.tool_parts.specs.Streams.{Contents, WritesBeginning, output_bytes}
use Rattle.tool_parts.specs.Asked.{Asked}
use Rattle.tool_parts.proofs.Beginnings.{beginning-more, beginning-whole}

module _ {W : Type 0} (Writes : Writers W) where
  pub begun-first : (AreMeant : List Occurrence → Type 0) (old new : FromWrite W) (ms more : List Occurrence)
      → AreMeant (ms ++ more) → WritesBeginning Writes old new (lines_of ms) → Begun Writes AreMeant old new
  begun-first AreMeant old new ms more meant begun = record {
    matches = ms ++ more;
    meant = meant;
    begun = rw (flat_map-append line_of) (beginning-more (output_bytes Writes old) (output_bytes Writes new) (lines_of ms) (lines_of more) begun);
  }

pub begins-told : {asked : Asked} {bytes : Contents} {status : ℕ} → PrintsMatches bytes status asked → BeginsMatches bytes asked
begins-told {bytes = bytes} prints = record {
  matches = prints.matches;
  found = prints.found;
  begun = beginning-whole bytes.held_before bytes.held_after (lines_of prints.matches) prints.printed;
}
