-- Which options do not go with rules.
use Rattle.acgrep.specs.Common.{LeftmostLongest, bytes_eq}
use Rattle.std.specs.Prelude.{◌++◌, ◌==◌, ◌∷◌, Bool, List, None, Option, Some, [], codes, false, if◌then◌else◌, is_some, not, true, ℕ}
use Rattle.aho_core.specs.declared.search.MatchKind.{MatchKind}
use Rattle.acgrep.specs.Arguments.{Origin, Said}
use Rattle.acgrep.specs.declared.beside.Unfit.{Unfit}
use Rattle.acgrep.specs.declared.beside.Unfit.TheVariants.{Alone, Beside}
use Rattle.acgrep.specs.declared.options.Color.{Color}
use Rattle.acgrep.specs.declared.options.Color.TheVariants.{Never}
use Rattle.acgrep.specs.declared.options.Flags.{Flags}

-- the option that gives patterns, if one does
abbrev pub source_beside : List Origin → Option (List ℕ)
source_beside [] = None
source_beside (source ∷ sources) = Some (if source.is_file then codes "-f" else codes "-e")

-- one that says how patterns are searched for
abbrev pub kind_beside : MatchKind → Option (List ℕ)
kind_beside LeftmostLongest = None
kind_beside _ = Some (codes "--kind")

abbrev pub pattern_beside : Flags → Option (List ℕ)
pattern_beside flags =
    if flags.ignore_case then Some (codes "-i")
    else if flags.invert then Some (codes "-v")
    else if flags.word then Some (codes "-w")
    else if flags.whole then Some (codes "-x")
    else kind_beside flags.kind

-- one that says what is written of lines, files or matches
abbrev pub output_beside : Said → Option (List ℕ)
output_beside given =
    if is_some given.flags.most then Some (codes "-m")
    else if given.flags.lacking then Some (codes "-L")
    else if given.flags.formatted then Some (codes "--format")
    else if given.flags.tallied then Some (codes "--counts")
    else if given.flags.offset then Some (codes "-b")
    else if not (given.flags.first == 0) then Some (codes "--offset")
    else if not (given.flags.first_line == 1) then Some (codes "--first-line")
    else if not (bytes_eq given.label (codes "(standard input)")) then Some (codes "--label")
    else None

-- one that says how lines are coloured, or what is done with those that hold a zero byte
abbrev pub is_color : Color → Bool
is_color Never = false
is_color _ = true

abbrev pub last_beside : Said → Option (List ℕ)
last_beside given =
    if given.flags.joined then Some (codes "--no-group-separator")
    else if not (bytes_eq given.separator (codes "--")) then Some (codes "--group-separator")
    else if is_color given.flags.color then Some (codes "--color")
    else if given.flags.text then Some (codes "-a")
    else if given.flags.text_alone then Some (codes "-I")
    else None

-- where lines end, and which are written around others
abbrev pub line_beside : Said → Option (List ℕ)
line_beside given =
    if given.flags.null then Some (codes "-Z")
    else if given.flags.null_data then Some (codes "-z")
    else if given.flags.tab then Some (codes "-T")
    else if is_some given.flags.after then Some (codes "-A")
    else if is_some given.flags.before then Some (codes "-B")
    else if is_some given.flags.context then Some (codes "-C")
    else last_beside given

-- the first, if there is one, and else the other
abbrev pub or_name : Option (List ℕ) → Option (List ℕ) → Option (List ℕ)
or_name None other = other
or_name (Some name) other = Some name

-- the first option that would change something, and does not go with rules
abbrev pub name_beside_rules : Said → Option (List ℕ)
name_beside_rules given =
    or_name (source_beside given.sources) (or_name (pattern_beside given.flags) (or_name (output_beside given) (line_beside given)))

-- the line that tells it
abbrev pub beside_line : List ℕ → List ℕ
beside_line name = codes "acgrep" ++ (codes ": option '" ++ (name ++ codes "' does not go with --rules\n"))

-- the line that tells that there are no rules for `--max-line`
abbrev pub alone_line : List ℕ
alone_line = codes "acgrep" ++ codes ": option '--max-line' needs --rules: without them no line is kept\n"

abbrev pub unfit_line : Unfit → List ℕ
unfit_line (Beside name) = beside_line name.now
unfit_line Alone = alone_line

abbrev pub told_beside : Option (List ℕ) → Option (List ℕ)
told_beside None = None
told_beside (Some name) = Some (beside_line name)

-- what is told of options that do not go together, if some do not
abbrev pub unfit_said : Said → Option (List ℕ)
unfit_said given =
    if given.flags.by_rules then told_beside (name_beside_rules given)
    else (if is_some given.flags.longest then Some alone_line else None)
