-- The long names of options, and what they mean.
use Rattle.std.specs.Prelude.{ℕ, List, [], ◌∷◌, Result, Ok, Err, codes}
use Rattle.tool_parts.specs.OptionNames.{Named, found_among, meant, named}
use Rattle.tool_parts.specs.declared.options.found.Found.{Found}
use Rattle.tool_parts.specs.declared.options.found.Found.TheVariants.{Unknown}
use Rattle.tool_parts.specs.declared.options.found.NotFound.{NotFound}
use Rattle.tool_parts.specs.declared.options.misuse.Misuse.TheVariants.{NotFound as NoName}
use Rattle.acredact.specs.Mistakes.{misuse_line}
use Rattle.acredact.specs.declared.long.Row.{Row}
use Rattle.acredact.specs.declared.options.Word.{Word}
use Rattle.acredact.specs.declared.options.Word.TheVariants.{IgnoreCase, Kind, Pattern, Patterns, Table, Env, EnvFile, Whole, With, Pseudonym, Forms, AsWord, Rules, After, MaxLine, Output, InPlace, KeepMode, Overwrite, Count, Summary, Crlf, AllowEmpty, Strict, Check, Help, Version}

-- an option with its long name
abbrev pub named_row : Row → Named Word
named_row row = named row.0.now row.1

-- all of them
abbrev pub all_options : List (Named Word)
all_options = named (codes "ignore-case") IgnoreCase
    ∷ named (codes "kind") Kind
    ∷ named (codes "pattern") Pattern
    ∷ named (codes "file") Patterns
    ∷ named (codes "table") Table
    ∷ named (codes "env") Env
    ∷ named (codes "env-file") EnvFile
    ∷ named (codes "whole") Whole
    ∷ named (codes "with") With
    ∷ named (codes "pseudonym") Pseudonym
    ∷ named (codes "forms") Forms
    ∷ named (codes "word") AsWord
    ∷ named (codes "rules") Rules
    ∷ named (codes "after") After
    ∷ named (codes "max-line") MaxLine
    ∷ named (codes "crlf") Crlf
    ∷ named (codes "allow-empty") AllowEmpty
    ∷ named (codes "output") Output
    ∷ named (codes "in-place") InPlace
    ∷ named (codes "keep-mode") KeepMode
    ∷ named (codes "overwrite") Overwrite
    ∷ named (codes "count") Count
    ∷ named (codes "summary") Summary
    ∷ named (codes "strict") Strict
    ∷ named (codes "check") Check
    ∷ named (codes "help") Help
    ∷ named (codes "version") Version
    ∷ []

-- what a name means among them
unfoldable pub found_of_name : List ℕ → Found Word
found_of_name asked = found_among all_options asked Unknown

-- the option that is meant, or the line that tells why none is
abbrev pub word_or_line : List ℕ → Result Word NotFound → Result Word (List ℕ)
word_or_line asked (Ok word) = Ok word
word_or_line asked (Err why) = Err (misuse_line (NoName why) asked)

abbrev pub word_by_name : List ℕ → Result Word (List ℕ)
word_by_name asked = word_or_line asked (meant (found_of_name asked))
