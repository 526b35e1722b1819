-- The names from below that proofs cite most, passed on from one place: of libraries, and of the types that the code declares.
pub use Rattle.std.proofs.Common.{List, Option, [], ap, append-nil, append_assoc, arith, drop, false, get_or, inl, inr, le_refl, length, length-append, map, refl, rules, subst, suc, sym, take, true, zero, ℕ, ◌++◌, ◌+◌, ◌-◌, ◌<◌, ◌∙◌, ◌∷◌, ◌≡◌, ◌≢◌, ◌≤◌}
pub use Rattle.std.proofs.KnownBytes.{Appends-nil, Appends-trans, Consumes-kept, Consumes-nil, Keeps-refl}
pub use Rattle.std.proofs.Math.Bool.{and-false, and-true, and_assoc, or-false, or_assoc}
pub use Rattle.std.proofs.lemmas.Bool.{and_parts, eqb-true, ne_eqb}
pub use Rattle.std.proofs.lemmas.Grind.{common_steps}
pub use Rattle.std.proofs.lemmas.List.{at_drop_all, at_drop_more, drop_more, get_or-map, get_or-replicate, length-map, length-take-le, take_all, take_at}
pub use Rattle.std.proofs.lemmas.List.Elements.{All-append, All-cons, All-head, All-nil, All-tail, All-weaker}
pub use Rattle.std.proofs.lemmas.Option.{same_Some}
pub use Rattle.std.proofs.lemmas.Result.{IfErr-weaker, IfOk-weaker, on_err_weaker, on_ok_weaker}
pub use Rattle.std.proofs.lemmas.Simd.{map-map}
pub use Rattle.std.specs.Borrow.{MutBor}
pub use Rattle.std.specs.List.{AllWithin, filter_map, list_all, list_any}
pub use Rattle.std.specs.Prelude.{Bool, Err, IfErr, IfOk, IsOk, MatchBool, None, Ok, OnErr, OnOk, Result, Some, if◌then◌else◌, is_some, min, nat_eq, nat_lt, option_and_then, replicate, slice_get, slice_index, slice_index_or, slice_range, ◌&&◌, ◌==◌, ◌^◌, ◌||◌, ◌⊎◌}
pub use Rattle.aho_automaton.specs.declared.automaton.Automaton.{Ghosts as Automata}
pub use Rattle.aho_core.specs.Bytes.{folded_word}
pub use Rattle.aho_core.specs.Cover.{AreRunsOf}
pub use Rattle.aho_core.specs.Iteration.{AreFinds}
pub use Rattle.aho_core.specs.Laws.{shortest}
pub use Rattle.aho_core.specs.Patterns.{pattern_at}
pub use Rattle.aho_core.specs.Replacement.{replaced, replaced_by, replaced_from}
pub use Rattle.aho_core.specs.Search.{plain_search}
pub use Rattle.aho_core.specs.declared.error.stream.StreamError.TheVariants.{Match as Refused, Write, WriteZero}
pub use Rattle.aho_core.specs.declared.search.Anchored.TheVariants.{No}
pub use Rattle.aho_cover.proofs.Chosen.{all-made}
pub use Rattle.aho_cover.proofs.Counted.{counts_none, counts_then}
pub use Rattle.aho_cover.specs.Counting.{CountsThese, runs_named}
pub use Rattle.aho_cover.specs.Pieces.{piece_in}
pub use Rattle.aho_cover.specs.Words.{all_runs}
pub use Rattle.aho_devices.specs.Errors.{CountsErrors}
pub use Rattle.aho_devices.specs.Refusals.{IsWriteRefusal, is_write_fault, is_write_of_nothing}
pub use Rattle.aho_laws.proofs.Iterations.{finds-exist}
pub use Rattle.aho_laws.specs.CoverLaws.{IsCleanPiece}
pub use Rattle.aho_stream.specs.Refills.{is_limit}
pub use Rattle.aho_stream.specs.Replacing.{BeginsReplacing, IsStreamFault, MayBe, ReplacesStream}
pub use Rattle.aho_stream.specs.StreamRun.{CanBegin}
pub use Rattle.chromesquid.specs.Searcher.{Searcher}
pub use Rattle.chromesquid.specs.contracts.automaton.AhoCorasickAutomaton.TheImpl.{ghosts as of_searcher}
pub use Rattle.rule_files.specs.Messages.{as_shown}
pub use Rattle.secret_forms.specs.Patterns.{pattern_bytes}
pub use Rattle.secret_rules.proofs.Owners.{member-get_or}
pub use Rattle.secret_rules.specs.Covering.{AreLineRuns}
pub use Rattle.secret_rules.specs.Lines.{Line}
pub use Rattle.secret_rules.specs.OpenLines.{CanSearch}
pub use Rattle.secret_rules.specs.declared.error.LineError.{LineError}
pub use Rattle.tool_parts.proofs.Ends.{at_end}
pub use Rattle.tool_parts.proofs.Tellings.{tells-later, tells-nothing}
pub use Rattle.tool_parts.specs.Arguments.{texts}
pub use Rattle.tool_parts.specs.Asked.{ArePatterns}
pub use Rattle.tool_parts.specs.Failures.{failure_of_stream}
pub use Rattle.acredact.specs.Arguments.{Given, aim_of, all_asked, all_given, by_letters, counts_asked, covers_asked, given_by, given_of, has, is_check, last_value, words_asked}
pub use Rattle.acredact.specs.Back.{DoesJob, DoesText, DoesTold}
pub use Rattle.acredact.specs.Bounds.{NumbersRead, ReadsSize}
pub use Rattle.acredact.specs.Builds.{patterns_by_given}
pub use Rattle.acredact.specs.Calls.{Call, CallOutcome, IsLineOf, IsUnreadLine, IsWarningLine, IsWordLine, IsWrongLine, MayFail, OutputFails, TellsCounts, TellsOfFiles, TellsUnlessAll, WarnsLoaded, call_of, names_asked, reading_by, work_by}
pub use Rattle.acredact.specs.Checks.{BeginsLook, SeesFiles, quest_of, texts_looked_for}
pub use Rattle.acredact.specs.Common.{All, Appends, Bor, Consumes, Covering, Errors, FromWrite, Ghosts, IsMember, Keeps, Memory, Occurrence, OutOfMemory, Patterns, PieceRule, Readers, Reason, SinkGhosts, SourceGave, SourceGhosts, Standard, StartsWith, StreamError, Tells, TellsBytes, TellsSome, Writers, bytes_left, concat, counted, flat_map, folded_by, is_input, name_bytes, output_bytes, pieces_of, stream_lines}
pub use Rattle.acredact.specs.Counts.{lines_of_rules, zeros}
pub use Rattle.acredact.specs.Deeds.{Deed, SomeStream, WholeStream, WholeText}
pub use Rattle.acredact.specs.Doubts.{TellsDoubts}
pub use Rattle.acredact.specs.Failures.{EndsCall, IsFailureLine}
pub use Rattle.acredact.specs.Faults.{IsStreamEnd}
pub use Rattle.acredact.specs.Files.{AreCut, BeginsWriting, ComesOfReading, EachIsWritten, FailsByOutput, FilesOutcome, IsDone, Task, Work, WritesText, are_none, deed_of, redactor_of, task_in, task_of, unread_line}
pub use Rattle.acredact.specs.Findings.{lines_findings}
pub use Rattle.acredact.specs.Forms.{asked_form_patterns, asked_forms, filled, form_secret, forms_from, twice_patterns}
pub use Rattle.acredact.specs.Hmac.{mask_byte}
pub use Rattle.acredact.specs.InPlace.{IsPlaceLine, IsSparedLine, PlacesOutcome}
pub use Rattle.acredact.specs.Loading.{AreLoaded, CannotLoadOne, Loaded, key_in, loaded_in, reading_of_lists}
pub use Rattle.acredact.specs.Looks.{LookedText, LooksAt, Sought, both_seen, occurs_of, sought, verdict_as}
pub use Rattle.acredact.specs.Messages.{output_line}
pub use Rattle.acredact.specs.Named.{all_named, named_secret}
pub use Rattle.acredact.specs.Outcomes.{ComesOf}
pub use Rattle.acredact.specs.Parts.{IsAddedSome}
pub use Rattle.acredact.specs.Pieces.{IsMarked}
pub use Rattle.acredact.specs.Pseudonyms.{as_compared, pseudonym_rule}
pub use Rattle.acredact.specs.Reads.{EachName, OfName, bytes_of_names}
pub use Rattle.acredact.specs.Ruled.{IsRuledTold}
pub use Rattle.acredact.specs.RuledChecks.{check_load}
pub use Rattle.acredact.specs.Secrets.{AreCleanBy, CanDoStreams, CanRedact, IsRedaction, NoByteIsKept, NoneIsWhole, Redactor}
pub use Rattle.acredact.specs.Spelling.{first_number, holder_in, holds_byte, may_be_spelled}
pub use Rattle.acredact.specs.Streams.{DoesStream, StreamOutcome}
pub use Rattle.acredact.specs.Summaries.{no_volume}
pub use Rattle.acredact.specs.Sums.{HaveGrown, given_count, sum_for, sums_of}
pub use Rattle.acredact.specs.Tables.{GivesLine, Secret, lines_in, parts_left, patterns_in, secret_of, secrets_of}
pub use Rattle.acredact.specs.Totals.{AreTotals, CountsOfNames}
pub use Rattle.acredact.specs.Volumes.{ReadsVolume, files_with}
pub use Rattle.acredact.specs.declared.failure.Failure.{Failure}
pub use Rattle.acredact.specs.declared.failure.Failure.TheVariants.{Arguments, Other}
pub use Rattle.acredact.specs.declared.files.Job.{Job}
pub use Rattle.acredact.specs.declared.folder.Folder.{Ghosts as Folders}
pub use Rattle.acredact.specs.declared.look.Look.{Look}
pub use Rattle.acredact.specs.declared.look.Verdict.{Verdict}
pub use Rattle.acredact.specs.declared.options.Aim.TheVariants.{CheckLines, CheckTexts, RedactLines, RedactTexts}
pub use Rattle.acredact.specs.declared.options.Word.TheVariants.{AsWord, Forms, Strict}
pub use Rattle.acredact.specs.declared.rule.Rule.{Rule}
pub use Rattle.acredact.specs.declared.streams.Streams.{Streams}
pub use Rattle.acredact.specs.declared.summary.Volume.{Volume}
