use Rattle.std.proofs.Common.{◌∙◌, sym}
use Rattle.aho_corasick.proofs.answers.settings_do_not_change_overlapping_finds.Goals as goal

pub returns : goal.returns
returns c = record { alike = let of = c.requires.of in c.in_ok-one.ensures.all of.0 of.1 ∙ sym (c.in_ok-other.ensures.all of.0 of.2) }
