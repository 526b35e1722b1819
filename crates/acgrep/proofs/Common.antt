-- The names from below that proofs cite most, passed on from one place: of libraries, and of the types that the code declares.
pub use Rattle.std.proofs.KnownBytes.{Appends-nil, Appends-trans, Consumes-nil, Consumes-trans, Keeps-refl}
pub use Rattle.std.proofs.Math.Bool.{or-false}
pub use Rattle.std.proofs.Math.ListN.{get_or}
pub use Rattle.std.proofs.lemmas.Bool.{and_from, and_parts, cases_Bool, cases_lt, eq-eqb, eqb-true, lt-ltb, ltb-true, or_right, true≢false}
pub use Rattle.std.proofs.lemmas.Grind.{common_steps}
pub use Rattle.std.proofs.lemmas.List.{drop-drop, length-drop, length-map, length-take-le, nil_from_length, take_all, take_rest}
pub use Rattle.std.proofs.lemmas.Result.{on_ok_weaker}
pub use Rattle.std.specs.Io.{StartsWith}
pub use Rattle.std.specs.List.{concat, sum}
pub use Rattle.aho_core.specs.Answer.{IsAnswer}
pub use Rattle.aho_core.specs.Best.{IsBestOrNone}
pub use Rattle.aho_core.specs.Bytes.{IsSameWord}
pub use Rattle.aho_core.specs.Order.{IsBefore}
pub use Rattle.aho_core.specs.Patterns.{pattern_at}
pub use Rattle.aho_core.specs.Replacement.{pieces_of}
pub use Rattle.aho_core.specs.declared.search.MatchKind.{MatchKind}
pub use Rattle.aho_devices.specs.Counts.{AppendsBeginning}
pub use Rattle.aho_laws.proofs.ClearCuts.{Occurs-in}
pub use Rattle.memchr.specs.Find.{Nowhere}
pub use Rattle.secret_rules.specs.Covering.{Covering}
pub use Rattle.secret_rules.specs.Lines.{stream_lines}
pub use Rattle.tool_parts.proofs.Lines.{some-one, some-tells, some-then, some-weaker}
pub use Rattle.tool_parts.specs.Messages.{reason_text}
pub use Rattle.tool_parts.specs.Names.{IsOneOf, or_input}
pub use Rattle.tool_parts.specs.OptionNames.{found_among}
pub use Rattle.tool_parts.specs.Telling.{Tells, TellsBytes, TellsSome}
pub use Rattle.acgrep.specs.Common.{Appends, Consumes, Errors, IsAtEnd, IsBuiltFrom, Keeps, LeftmostLongest, Occurrence, OccursIn, Patterns, Rule, SinkGhosts, is_input, name_bytes, plain_search}
pub use Rattle.acgrep.specs.declared.all_options.Valued.TheVariants.{Around}
pub use Rattle.acgrep.specs.declared.arguments.Source.{Source}
pub use Rattle.acgrep.specs.declared.files.Outcome.{Outcome}
pub use Rattle.acgrep.specs.declared.files.Outcome.TheVariants.{Unread}
pub use Rattle.acgrep.specs.declared.files.Seen.{Seen}
pub use Rattle.acgrep.specs.declared.format.Piece.{Piece}
pub use Rattle.acgrep.specs.declared.job.Job.{Job}
pub use Rattle.acgrep.specs.declared.job.State.{State}
pub use Rattle.acgrep.specs.declared.options.Context.{Context}
pub use Rattle.acgrep.specs.declared.options.Fit.{Fit}
pub use Rattle.acgrep.specs.declared.options.Fit.TheVariants.{AnyPart}
pub use Rattle.acgrep.specs.declared.options.Flags.{Flags}
pub use Rattle.acgrep.specs.declared.options.Shown.{Shown}
pub use Rattle.acgrep.specs.declared.options.Shown.TheVariants.{Lines, Matches, Nothing, Objects}
pub use Rattle.acgrep.specs.declared.print.Place.{Place}
pub use Rattle.acgrep.specs.declared.print.Style.{Style}
pub use Rattle.acgrep.specs.declared.walk.Ways.{Ways}
pub use Rattle.acgrep.specs.declared.wrong.Refusal.{Refusal}
