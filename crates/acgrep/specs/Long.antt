-- The long names of options, and what they mean.
use Rattle.acgrep.specs.Common.{meant}
use Rattle.std.specs.Prelude.{◌∷◌, List, Option, [], codes, ℕ}
use Rattle.std.specs.Result.{result_ok}
use Rattle.tool_parts.specs.OptionNames.{Named, found_among, named, named_either}
use Rattle.tool_parts.specs.declared.options.found.Found.{Found}
use Rattle.tool_parts.specs.declared.options.found.Found.TheVariants.{Begun, Several, Unknown, Whole}
use Rattle.acgrep.specs.declared.long.Long.{Long}
use Rattle.acgrep.specs.declared.long.Long.TheVariants.{Plain, Takes, When}
use Rattle.acgrep.specs.declared.long.Row.{Row}
use Rattle.acgrep.specs.declared.long.Row.TheVariants.{Either, One}
use Rattle.acgrep.specs.declared.all_options.Valued.TheVariants.{After, Around, Before, BinaryFiles, Devices, Excluded, ExcludedFolder, ExcludedFrom, FirstLine, Folders, Format, Included, Kind, Label, LineLimit, MaxCount, Offset, PatternFile, Regexp, RuleFile, Separator}
use Rattle.acgrep.specs.declared.all_options.Switch.TheVariants.{Counts, Follow, Help, IgnoreCase, InitialTab, Invert, Json, MatchCase, NoMatchOk, NoMessages, NoName, NoSeparator, NullData, NullNames, Numbers, Offsets, OnlyLacking, OnlyMatching, OnlyNames, Quiet, Recursive, Same, Tallies, Text, Version, WholeLines, WholeWords, WithName}

-- an option with its long names
abbrev pub named_by : Row → Named Long
named_by (One name means) = named name.now means
named_by (Either one other means) = named_either one.now other.now means

-- the options that grep has too
abbrev pub shared_options : List (Named Long)
shared_options = named (codes "regexp") (Takes Regexp)
    ∷ named (codes "file") (Takes PatternFile)
    ∷ named (codes "ignore-case") (Plain IgnoreCase)
    ∷ named (codes "no-ignore-case") (Plain MatchCase)
    ∷ named (codes "invert-match") (Plain Invert)
    ∷ named (codes "word-regexp") (Plain WholeWords)
    ∷ named (codes "line-regexp") (Plain WholeLines)
    ∷ named_either (codes "fixed-strings") (codes "fixed-regexp") (Plain Same)
    ∷ named (codes "text") (Plain Text)
    ∷ named (codes "binary") (Plain Same)
    ∷ named (codes "binary-files") (Takes BinaryFiles)
    ∷ named (codes "count") (Plain Counts)
    ∷ named (codes "files-with-matches") (Plain OnlyNames)
    ∷ named (codes "files-without-match") (Plain OnlyLacking)
    ∷ named (codes "null") (Plain NullNames)
    ∷ named (codes "null-data") (Plain NullData)
    ∷ named (codes "quiet") (Plain Quiet)
    ∷ named (codes "silent") (Plain Quiet)
    ∷ named (codes "only-matching") (Plain OnlyMatching)
    ∷ named (codes "initial-tab") (Plain InitialTab)
    ∷ named (codes "label") (Takes Label)
    ∷ named (codes "line-number") (Plain Numbers)
    ∷ named (codes "byte-offset") (Plain Offsets)
    ∷ named (codes "with-filename") (Plain WithName)
    ∷ named (codes "no-filename") (Plain NoName)
    ∷ named (codes "max-count") (Takes MaxCount)
    ∷ named (codes "after-context") (Takes After)
    ∷ named (codes "before-context") (Takes Before)
    ∷ named (codes "context") (Takes Around)
    ∷ named (codes "no-group-separator") (Plain NoSeparator)
    ∷ named (codes "group-separator") (Takes Separator)
    ∷ named (codes "include") (Takes Included)
    ∷ named (codes "exclude") (Takes Excluded)
    ∷ named (codes "exclude-from") (Takes ExcludedFrom)
    ∷ named (codes "exclude-dir") (Takes ExcludedFolder)
    ∷ named (codes "directories") (Takes Folders)
    ∷ named (codes "devices") (Takes Devices)
    ∷ named_either (codes "color") (codes "colour") When
    ∷ named (codes "recursive") (Plain Recursive)
    ∷ named (codes "dereference-recursive") (Plain Follow)
    ∷ named (codes "no-messages") (Plain NoMessages)
    ∷ named (codes "line-buffered") (Plain Same)
    ∷ named (codes "unix-byte-offsets") (Plain Same)
    ∷ named (codes "help") (Plain Help)
    ∷ named (codes "version") (Plain Version)
    ∷ []

-- those that only acgrep has
abbrev pub own_options : List (Named Long)
own_options = named (codes "kind") (Takes Kind)
    ∷ named (codes "counts") (Plain Tallies)
    ∷ named (codes "json") (Plain Json)
    ∷ named (codes "format") (Takes Format)
    ∷ named (codes "offset") (Takes Offset)
    ∷ named (codes "first-line") (Takes FirstLine)
    ∷ named (codes "no-match-ok") (Plain NoMatchOk)
    ∷ named (codes "rules") (Takes RuleFile)
    ∷ named (codes "max-line") (Takes LineLimit)
    ∷ []

-- what a name means among those that grep has too
unfoldable pub shared_by : List ℕ → Found Long
shared_by asked = found_among shared_options asked Unknown

-- where none of them has a name that begins so, it is one of the others, or begins it
abbrev pub or_own : Found Long → List ℕ → Found Long
or_own Unknown asked = found_among own_options asked Unknown
or_own (Begun long) asked = Begun long
or_own Several asked = Several
or_own (Whole long) asked = Whole long

-- what a name means among all of them
abbrev pub found_by : List ℕ → Found Long
found_by asked = or_own (shared_by asked) asked

-- the option that is meant, where one is
abbrev pub option_by : List ℕ → Option Long
option_by asked = result_ok (meant (found_by asked))
