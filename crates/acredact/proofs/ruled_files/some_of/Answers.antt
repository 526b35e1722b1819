-- An automaton without a pattern is not needed.
use Rattle.acredact.proofs.Common.{ap, length, length-map, rules, sym, ◌∙◌, ◌≡◌}
use Rattle.std.proofs.lemmas.List.{nil_from_length}
use Rattle.acredact.proofs.ruled_files.some_of.Goals as goal

pub returns-then-patterns_len-eq0-clause-searched : goal.returns-then-patterns_len-eq0-clause-searched
returns-then-patterns_len-eq0-clause-searched g c = λ p of.
    let none : length (g.A.Automaton.lengths c.args.automaton.now) ≡ 0 = search rules in
    nil_from_length p.words (sym (length-map p.words length) ∙ ap length (sym (g.met.A.Automaton.laws _ _ of).lengths_are) ∙ none)
