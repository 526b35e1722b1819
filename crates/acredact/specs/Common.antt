-- The names from libraries below that definitions cite most, passed on from one place.
pub use Rattle.std.specs.Borrow.{Bor}
pub use Rattle.std.specs.Io.{StartsWith}
pub use Rattle.std.specs.Io.BufRead.{ends_with_byte, strip_last}
pub use Rattle.std.specs.Io.KnownBytes.{Appends, Consumes, IsAtEnd, Keeps}
pub use Rattle.std.specs.List.{All, concat, flat_map, slice_split}
pub use Rattle.std.specs.Str.{bytes_eq}
pub use Rattle.std.specs.declared.io.traits.Read.{Ghosts as Readers}
pub use Rattle.std.specs.declared.io.traits.Write.{Ghosts as Writers}
pub use Rattle.aho_automaton.specs.declared.automaton.Automaton.{Ghosts}
pub use Rattle.aho_core.specs.Bytes.{folded_by}
pub use Rattle.aho_core.specs.Listing.{IsMember}
pub use Rattle.aho_core.specs.Occurrence.{Occurrence}
pub use Rattle.aho_core.specs.Patterns.{Patterns}
pub use Rattle.aho_core.specs.Replacement.{pieces_of}
pub use Rattle.aho_core.specs.declared.error.stream.StreamError.{StreamError}
pub use Rattle.aho_core.specs.declared.error.stream.StreamError.TheVariants.{Memory, PositionLimit, Read}
pub use Rattle.aho_core.specs.declared.search.MatchKind.TheVariants.{Standard}
pub use Rattle.aho_cover.specs.Pieces.{PieceRule}
pub use Rattle.aho_devices.specs.Counts.{counted}
pub use Rattle.aho_devices.specs.declared.adapters.FromRead.{FromRead}
pub use Rattle.aho_devices.specs.declared.adapters.FromWrite.{FromWrite}
pub use Rattle.aho_devices.specs.declared.device.Sink.{Ghosts as SinkGhosts}
pub use Rattle.aho_devices.specs.declared.device.Source.{Ghosts as SourceGhosts}
pub use Rattle.aho_stream.specs.Replacing.{MayBe, SourceGave}
pub use Rattle.rule_files.specs.Messages.{as_shown}
pub use Rattle.secret_rules.specs.Covering.{AreLineRuns, Covering}
pub use Rattle.secret_rules.specs.Lines.{stream_lines}
pub use Rattle.secret_rules.specs.declared.rule.Rule.{Rule}
pub use Rattle.tool_parts.specs.ArgumentForms.{Form, argument_form, joined_letters, long_name, long_with, no_more, no_option}
pub use Rattle.tool_parts.specs.Names.{is_input, name_bytes}
pub use Rattle.tool_parts.specs.Streams.{bytes_left, output_bytes}
pub use Rattle.tool_parts.specs.Telling.{Tells, TellsBytes, TellsSome}
pub use Rattle.tool_parts.specs.declared.errors.Errors.{Errors}
pub use Rattle.tool_parts.specs.declared.failure.Failure.{Failure as OtherFailure}
pub use Rattle.tool_parts.specs.declared.failure.Failure.TheVariants.{OutOfMemory}
pub use Rattle.tool_parts.specs.declared.reason.Reason.{Reason}
pub use Rattle.tool_parts.specs.declared.reason.Reason.TheVariants.{PositionLimit as TooLong, ReadFault}
