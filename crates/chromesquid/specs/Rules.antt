-- The definitions that a caller's contract names, from one place.
pub use Rattle.aho_core.specs.Answer.{IsAnswer}
pub use Rattle.aho_core.specs.ClosureRun.{RunsInMemory}
pub use Rattle.aho_core.specs.Cover.{AreRuns, IsCover}
pub use Rattle.aho_core.specs.Iteration.{AreFinds}
pub use Rattle.aho_core.specs.Laws.{longest, shortest}
pub use Rattle.aho_core.specs.Occurrence.{Occurrence}
pub use Rattle.aho_core.specs.Overlapping.{all_occurrences}
pub use Rattle.aho_core.specs.Patterns.{Patterns}
pub use Rattle.aho_core.specs.Replacement.{on_boundaries, pieces_of, replaced}
pub use Rattle.aho_core.specs.Search.{Search, plain_search, search_of}
pub use Rattle.aho_core.specs.declared.search.Anchored.TheVariants.{No, Yes}
pub use Rattle.aho_core.specs.declared.search.MatchKind.TheVariants.{LeftmostFirst, LeftmostLongest, Standard}
pub use Rattle.aho_build.specs.Automaton.{memory_for}
pub use Rattle.aho_build.specs.Items.{patterns_of}
pub use Rattle.aho_build.specs.Refusals.{cause}
pub use Rattle.aho_build.specs.Settings.{default_settings}
pub use Rattle.aho_automaton.specs.Finding.{AreFirstFinds, HoldsOfFinds}
pub use Rattle.aho_stream.specs.FindRuns.{is_limit_among}
pub use Rattle.aho_stream.specs.StreamRun.{RefusesUntouched}
pub use Rattle.aho_backward.specs.Making.{MakesNone}
pub use Rattle.aho_backward.specs.Overhang.{HasBehind, IsAbove, IsOverhang}
pub use Rattle.aho_backward.specs.Replacing.{IsReplacedBy}
pub use Rattle.aho_backward.specs.Streams.{FourAByte, LeavesByBlocks, ReplacesAllBut, held_back}
pub use Rattle.secret_forms.specs.Forms.{HidesForm, HidesNested, form_patterns, forms_patterns, inner_patterns, nested_patterns}
pub use Rattle.secret_forms.specs.Patterns.{ListsPatterns, pattern_bytes}
pub use Rattle.chromesquid.specs.Backward.{HoldsIfWorth, IsBackwardFor, IsNotMade, wants_memory}
pub use Rattle.chromesquid.specs.Building.{Accepts, FailsFor, HasCount, HasLengths, HasMatchKind, HasMemory, HasNoBackward, HasSizeOf, HasStartKind, HasTrie, HoldsAsAsked, IsBuiltWithMemory, IsFailureOf, IsHeldAsAsked, SearchesAsAsked, SearchesBy, kind_to_make}
pub use Rattle.chromesquid.specs.Covers.{CanCoverAll, CoversBeginning, CoversBytes, CoversNearly, CoversWhole, IsCoverBegun, IsCoveredUpTo, IsStreamCovered, why_not_covered}
pub use Rattle.chromesquid.specs.Engine.{HasKind}
pub use Rattle.chromesquid.specs.InMemory.{EndsOverBytes, EndsOverText, ReplacesBytes, ReplacesText, RunsOverBytes, RunsOverText, StopsOverBytes, StopsOverText}
pub use Rattle.chromesquid.specs.Searcher.{Answers, ForItsPatterns, HasEmpty, HasNoEmpty, IsBuiltFrom, IsBuiltFromSome, RefusesSearch, TellsIfFound, automaton_kind_of, kind_for, match_kind_of, memory_usage_of, patterns_len_of}
pub use Rattle.chromesquid.specs.StreamIters.{CallsFindAlong, IsNew}
pub use Rattle.chromesquid.specs.Streams.{FindsBeginning, FindsOnward, FindsToLimit, FindsWhole, HasBufferFor, IsReplaced, IsReplacementBegun, IsReplacedUpTo, IsStreamRun, ReplacesBeginning, ReplacesNearly, ReplacesWhole, RunsFindBeginning, RunsFindToLimit, RunsFindWhole, RunsStream}
