-- What the arguments of `--color`, `-d`, `-D` and `--binary-files` name.
use Rattle.acgrep.specs.Common.{bytes_eq, meant}
use Rattle.std.specs.Prelude.{◌||◌, ◌∷◌, Bool, List, None, Option, Some, [], codes, if◌then◌else◌, ℕ}
use Rattle.std.specs.Result.{result_ok}
use Rattle.std.specs.Str.{str_eq_ignore_ascii_case}
use Rattle.tool_parts.specs.OptionNames.{Named, found_among, named}
use Rattle.tool_parts.specs.declared.options.found.Found.TheVariants.{Unknown}
use Rattle.acgrep.specs.declared.options.Color.{Color}
use Rattle.acgrep.specs.declared.options.Color.TheVariants.{Always, Auto, Never}
use Rattle.acgrep.specs.declared.all_options.Switch.{Switch}
use Rattle.acgrep.specs.declared.all_options.Switch.TheVariants.{Binary, ReadDevices, ReadFolders, Recursive, SkipDevices, SkipFolders, Text, TextAlone}

-- one of three names, in whichever case
abbrev pub is_one_of : (first second third : List ℕ) → List ℕ → Bool
is_one_of first second third name =
    str_eq_ignore_ascii_case name first || (str_eq_ignore_ascii_case name second || str_eq_ignore_ascii_case name third)

-- when matches are coloured
abbrev pub color_named : List ℕ → Option Color
color_named argument =
    if is_one_of (codes "always") (codes "yes") (codes "force") argument then Some Always
    else if is_one_of (codes "never") (codes "no") (codes "none") argument then Some Never
    else if is_one_of (codes "auto") (codes "tty") (codes "if-tty") argument then Some Auto
    else None

-- what is done with folders: a beginning of one of these names that no other has is enough
abbrev pub folder_actions : List (Named Switch)
folder_actions = named (codes "read") ReadFolders
    ∷ named (codes "recurse") Recursive
    ∷ named (codes "skip") SkipFolders
    ∷ []

abbrev pub folders_named : List ℕ → Option Switch
folders_named argument = result_ok (meant (found_among folder_actions argument Unknown))

-- and with devices
abbrev pub devices_named : List ℕ → Option Switch
devices_named argument =
    if bytes_eq argument (codes "read") then Some ReadDevices
    else if bytes_eq argument (codes "skip") then Some SkipDevices
    else None

-- and with lines from the first on that holds a zero byte: on a terminal is told alone whether one is selected, they are lines as any
-- other, or they are not searched
abbrev pub binary_named : List ℕ → Option Switch
binary_named argument =
    if bytes_eq argument (codes "binary") then Some Binary
    else if bytes_eq argument (codes "text") then Some Text
    else if bytes_eq argument (codes "without-match") then Some TextAlone
    else None
