-- The names from libraries below that definitions cite most, passed on from one place.
pub use Rattle.std.specs.Borrow.{Bor}
pub use Rattle.std.specs.Char.{is_ascii_digit}
pub use Rattle.std.specs.Io.KnownBytes.{Appends, Consumes, IsAtEnd, Keeps}
pub use Rattle.std.specs.List.{flat_map}
pub use Rattle.std.specs.Str.{bytes_eq}
pub use Rattle.std.specs.declared.io.traits.Read.{Ghosts as Readers}
pub use Rattle.std.specs.declared.io.traits.Write.{Ghosts as Writers}
pub use Rattle.aho_core.specs.Occurrence.{Occurrence}
pub use Rattle.aho_core.specs.Occurs.{OccursIn}
pub use Rattle.aho_core.specs.Patterns.{Patterns}
pub use Rattle.aho_core.specs.Search.{plain_search}
pub use Rattle.aho_core.specs.declared.search.MatchKind.TheVariants.{LeftmostLongest}
pub use Rattle.aho_devices.specs.declared.device.Sink.{Ghosts as SinkGhosts}
pub use Rattle.chromesquid.specs.Searcher.{IsBuiltFrom, Searcher}
pub use Rattle.secret_rules.specs.declared.rule.Rule.{Rule}
pub use Rattle.tool_parts.specs.Names.{is_input, name_bytes}
pub use Rattle.tool_parts.specs.OptionNames.{meant}
pub use Rattle.tool_parts.specs.declared.errors.Errors.{Errors}
