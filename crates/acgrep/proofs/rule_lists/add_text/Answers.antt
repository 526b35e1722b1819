-- Why there are none is told.
use Rattle.acgrep.proofs.Common.{some-one}
use Rattle.std.proofs.Common.{inl, inr}
use Rattle.acgrep.specs.ToldByRules.{IsMarkTold}
use Rattle.acgrep.proofs.rule_lists.add_text.Goals as goal

pub returns-in-Err-clause-told : goal.returns-in-Err-clause-told
returns-in-Err-clause-told g c = λ is.
    let (line, of, told) = c.tell_fault.ensures.told in
    some-one g.E.Sink IsMarkTold c.args.errors.now c.tell_fault.new.errors line (inr (inl (c.args.name.now, c.in-Err.fault, of))) told
