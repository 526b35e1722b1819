use Rattle.std.proofs.Common.{◌<◌, length, sym, ap, ◌∙◌, arith}
use Rattle.std.specs.Prelude.{Some, Result, Ok, Err, IfErr}
use Rattle.std.proofs.lemmas.Bool.Decides.{nat_tests}
use Rattle.aho_prefilter.proofs.Held.{whole_of-first, whole_of-later, whole-first, words-none, words-some}
use Rattle.aho_prefilter.proofs.prefilter.builder.PrefilterBuilder.copy_of_first.Goals as goal

pub returns-in_default : goal.returns-in_default
returns-in_default c = record {
  copied = λ p taken. sym (whole_of-later p c.args.pattern.now (words-some p (λ none. c.in_default.not-None (taken.first_bytes ∙ none))));
  wanted = λ p taken. tt;
  some = tt;
}

pub returns-in_err-from_slice-clause-wanted : goal.returns-in_err-from_slice-clause-wanted
returns-in_err-from_slice-clause-wanted c = λ p taken.
    let none = words-none p (sym taken.first_bytes ∙ c.in-None.is) in
    let whole = whole-first p c.args.pattern.now none (sym taken.rule ∙ c.if-self.false) in
    given c.from_residual.result whole
  where
    given : {X E : Type 0} {P : Type 0} (result : Result X E) → P → IfErr result (λ error. P)
    given (Ok x) holds = tt
    given (Err e) holds = holds

pub returns-clause-copied : goal.returns-clause-copied
returns-clause-copied c = λ p taken.
    let none = words-none p (sym taken.first_bytes ∙ c.in-None.is) in
    let some : 0 < length c.args.pattern.now = grind (arith, nat_tests, c.is_empty.ensures, c.if-is_empty.false) in
    ap Some c.in_ok-from_slice.ensures.items ∙ sym (whole_of-first p c.args.pattern.now none (sym taken.rule ∙ c.if-self.false) some)
