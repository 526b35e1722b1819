-- What the name means with the options so far, and then with the others, is what it means with all.
use Rattle.acredact.proofs.Common.{drop, ◌≡◌}
use Rattle.std.specs.Prelude.{map}
use Rattle.tool_parts.specs.OptionNames.{found_among}
use Rattle.tool_parts.specs.declared.options.found.Found.TheVariants.{Unknown}
use Rattle.acredact.specs.Long.{named_row}
use Rattle.acredact.proofs.long.among.Given as goal

abbrev pub invariant-loop-row : goal.invariant-loop-row
invariant-loop-row l = found_among (map named_row (drop l.row-index l.fn.rows)) l.fn.name l.found ≡ found_among (map named_row l.fn.rows) l.fn.name Unknown
