-- The first equals sign ends the name.
use Rattle.std.proofs.Common.{lit<, rules}
use Rattle.std.proofs.lemmas.Str.Pattern.{split_once_first}
use Rattle.tool_parts.proofs.options.argument.long_text_of.Goals as goal

pub returns-in-Some : goal.returns-in-Some
returns-in-Some c = let h = split_once_first 61 c.args.text.now c.split_once.result c.split_once.ensures.cases (lit< tt) in search rules

pub returns-in-None : goal.returns-in-None
returns-in-None c = let h = split_once_first 61 c.args.text.now c.split_once.result c.split_once.ensures.cases (lit< tt) in search rules
