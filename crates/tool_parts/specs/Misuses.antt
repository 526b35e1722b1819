-- What is told of an option that is misused.
use Rattle.std.specs.Prelude.{ℕ, List, codes}
use Rattle.tool_parts.specs.declared.options.found.NotFound.TheVariants.{UnknownName, Ambiguous}
use Rattle.tool_parts.specs.declared.options.misuse.Misuse.{Misuse}
use Rattle.tool_parts.specs.declared.options.misuse.Misuse.TheVariants.{UnknownLetter, NotFound, TakesNone, NoArgument}

-- before the letter, the long name or what the option is called
abbrev pub text_before : Misuse → List ℕ
text_before UnknownLetter = codes "unknown option '-"
text_before (NotFound UnknownName) = codes "unknown option '--"
text_before (NotFound Ambiguous) = codes "several options begin with '--"
text_before TakesNone = codes "option '--"
text_before NoArgument = codes "option '"

-- and behind it
abbrev pub text_behind : Misuse → List ℕ
text_behind UnknownLetter = codes "'"
text_behind (NotFound why) = codes "'"
text_behind TakesNone = codes "' takes no argument"
text_behind NoArgument = codes "' needs an argument"
