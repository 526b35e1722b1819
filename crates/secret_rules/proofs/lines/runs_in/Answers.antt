use Rattle.std.proofs.Common.{arith}
use Rattle.aho_core.specs.Numbers.{greatest_index}
use Rattle.aho_cover.proofs.Written.{if_ok}
use Rattle.secret_rules.proofs.Covered.{marks-numbered, marks-ordered, setting-full, setting-lie, setting-runs, setting-standing, some-searched}
use Rattle.secret_rules.proofs.Lying.{marks-within}
use Rattle.secret_rules.proofs.lines.runs_in.Goals as goal

pub push_marks-requires-clause-numbered : goal.push_marks-requires-clause-numbered
push_marks-requires-clause-numbered g c = λ mark there.
    let stated = c.requires.marks in
    marks-numbered stated.0 stated.1 c.args.line.now c.args.marks.now c.args.setting.now.patterns greatest_index stated.3
    (omega (arith, stated.2.whole, c.as_usize-whole.ensures.value, c.as_usize-whole.ensures.bound)) mark there

pub push_marks-requires-clause-ordered : goal.push_marks-requires-clause-ordered
push_marks-requires-clause-ordered g c = λ mark there.
    let stated = c.requires.marks in
    marks-ordered stated.0 stated.1 c.args.line.now c.args.marks.now stated.3 mark there

pub join-requires : goal.join-requires
join-requires g c = record {
  full = λ m there.
      let stated = c.requires.marks in
      let setting = c.args.setting.now in
      let some = some-searched g.A.Automaton setting.automaton stated.2.searches in
      let stand = c.in_ok-find_patterns.ensures.stand some.0 some.1 in
      setting-full g.A.Automaton setting stated.0 stated.2 stated.1 c.args.line.now c.requires.short c.args.marks.now stated.3 some.0 some.1 (λ a of. (g.met.A.Automaton.laws a some.0 of).lengths_are)
      c.find_patterns.new.found.items c.push_marks.new.found.items stand c.in_ok-push_marks.ensures.pushed m
      ((setting-standing g.A.Automaton setting stated.0 stated.2 stated.1 c.args.line.now c.requires.short c.args.marks.now stated.3 some.0 some.1 (λ a of. (g.met.A.Automaton.laws a some.0 of).lengths_are)
      c.find_patterns.new.found.items c.push_marks.new.found.items stand c.in_ok-push_marks.ensures.pushed).only m there);
}

pub returns-clause-runs : goal.returns-clause-runs
returns-clause-runs g c =
    if_ok c.join.result _ _
    (λ are rules before is all p searched. setting-runs g.A.Automaton c.args.setting.now rules is before c.args.line.now c.requires.short c.args.marks.now all p searched (λ a of. (g.met.A.Automaton.laws a p of).lengths_are)
    c.find_patterns.new.found.items c.push_marks.new.found.items (c.in_ok-find_patterns.ensures.stand p searched) c.in_ok-push_marks.ensures.pushed c.join.new.runs.items are)
    c.join.ensures.runs

pub returns-clause-lie : goal.returns-clause-lie
returns-clause-lie g c =
    let stated = c.requires.marks in
    let setting = c.args.setting.now in
    let some = some-searched g.A.Automaton setting.automaton stated.2.searches in
    if_ok c.join.result _ _
    (λ are. setting-lie g.A.Automaton setting stated.0 stated.2 stated.1 c.args.line.now c.requires.short c.args.marks.now stated.3 some.0 some.1 (λ a of. (g.met.A.Automaton.laws a some.0 of).lengths_are)
    c.find_patterns.new.found.items c.push_marks.new.found.items (c.in_ok-find_patterns.ensures.stand some.0 some.1) c.in_ok-push_marks.ensures.pushed c.join.new.runs.items (marks-within stated.0 stated.1 c.args.line.now c.args.marks.now stated.3) are)
    c.join.ensures.runs
