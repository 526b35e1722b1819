use Rattle.aho_laws.proofs.OverlappingParts.{all_occurrences-parts}
use Rattle.aho_laws.proofs.cuts.lists_overlapping_parts.Goals as goal

pub returns : goal.returns
returns c = record { spans = all_occurrences-parts }
