-- What `{}` writes of an error: one text with no line end, its numbers in decimal.
use Rattle.std.specs.Prelude.{ℕ, List, ◌++◌, codes}
use Rattle.std.specs.Fmt.{decimal}
use Rattle.aho_core.specs.declared.error.BuildError.{BuildError}
use Rattle.aho_core.specs.declared.error.BuildError.TheVariants.{StateIDOverflow, PatternIDOverflow, PatternTooLong, OutOfMemory}
use Rattle.aho_core.specs.declared.error.MatchErrorKind.{MatchErrorKind}
use Rattle.aho_core.specs.declared.error.MatchErrorKind.TheVariants.{InvalidInputAnchored, InvalidInputUnanchored, UnsupportedStream, UnsupportedOverlapping, UnsupportedEmpty}
use Rattle.aho_core.specs.declared.error.replace.ReplaceError.{ReplaceError}
use Rattle.aho_core.specs.declared.error.replace.ReplaceError.TheVariants.{Match as RefusedMatch, Memory as NoMemory}
use Rattle.aho_core.specs.declared.error.stream.StreamError.{StreamError}
use Rattle.aho_core.specs.declared.error.stream.StreamError.TheVariants.{Match, Read, Write, WriteZero, Memory, PositionLimit}
use Rattle.aho_core.specs.declared.search.MatchKind.{MatchKind}
use Rattle.aho_core.specs.declared.search.MatchKind.TheVariants.{Standard, LeftmostFirst, LeftmostLongest}

-- why an automaton was not built
abbrev pub build_error_text : BuildError → List ℕ
build_error_text (StateIDOverflow max requested) =
    codes "state identifier overflow: failed to create state ID from " ++ (decimal requested
    ++ (codes ", which exceeds the max of " ++ decimal max))
build_error_text (PatternIDOverflow max requested) =
    codes "pattern identifier overflow: failed to create pattern ID from " ++ (decimal requested
    ++ (codes ", which exceeds the max of " ++ decimal max))
build_error_text (PatternTooLong pattern len max) =
    codes "pattern " ++ (decimal pattern ++ (codes " with length " ++ (decimal len
    ++ (codes " exceeds the maximum pattern length of " ++ decimal max))))
build_error_text OutOfMemory = codes "out of memory"

-- the name of a match kind
abbrev pub kind_name : MatchKind → List ℕ
kind_name Standard = codes "Standard"
kind_name LeftmostFirst = codes "LeftmostFirst"
kind_name LeftmostLongest = codes "LeftmostLongest"

-- why a search is refused
abbrev pub match_error_text : MatchErrorKind → List ℕ
match_error_text InvalidInputAnchored = codes "anchored searches are not supported or enabled"
match_error_text InvalidInputUnanchored = codes "unanchored searches are not supported or enabled"
match_error_text (UnsupportedStream got) = codes "match kind " ++ (kind_name got ++ codes " does not support stream searching")
match_error_text (UnsupportedOverlapping got) = codes "match kind " ++ (kind_name got ++ codes " does not support overlapping searches")
match_error_text UnsupportedEmpty = codes "matching with an empty pattern string is not supported for this operation"

-- why a replacement in memory stopped
abbrev pub replace_error_text : ReplaceError → List ℕ
replace_error_text (RefusedMatch cause) = match_error_text cause
replace_error_text NoMemory = codes "out of memory"

-- why a stream stopped
abbrev pub stream_error_text : StreamError → List ℕ
stream_error_text (Match cause) = match_error_text cause
stream_error_text (Read fault) = codes "read fault"
stream_error_text (Write fault) = codes "write fault"
stream_error_text WriteZero = codes "write took no bytes"
stream_error_text Memory = codes "out of memory"
stream_error_text PositionLimit = codes "position limit reached"
