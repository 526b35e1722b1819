-- A letter that no option has.
use Rattle.acredact.proofs.Common.{None, Some, inr, rules, slice_get, sym, ◌∙◌, ◌≡◌}
use Rattle.std.proofs.Common.{lit<}
use Rattle.std.proofs.lemmas.Str.Pattern.{strip_prefix_char}
use Rattle.acredact.proofs.Readings.{no_letter}
use Rattle.acredact.proofs.arguments.read_letters.Goals as goal

pub returns-in-Some-first-clause-refused : goal.returns-in-Some-first-clause-refused
returns-in-Some-first-clause-refused c =
    let rest = c.letters.rest.now in
    let some : slice_get rest 0 ≡ Some c.in-Some-first.letter.now = search rules in
    inr (sym c.letters.invariant.read
    ∙ no_letter rest c.in-Some-first.letter.now _ some (strip_prefix_char 105 rest None c.in_default.ensures.cases (lit< tt)) (strip_prefix_char 119 rest None c.in_default-strip_prefix.ensures.cases (lit< tt))
    (strip_prefix_char 101 rest None c.in_default-strip_prefix-2.ensures.cases (lit< tt)) (strip_prefix_char 102 rest None c.in_default-strip_prefix-3.ensures.cases (lit< tt))
    (strip_prefix_char 116 rest None c.in_default-strip_prefix-4.ensures.cases (lit< tt)))
