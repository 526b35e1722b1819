-- Of an expression the line tells the place in it.
use Rattle.std.proofs.Common.{◌≡◌, ℕ, List, ◌++◌, ◌+◌, ◌-◌, ◌∙◌, sym, ap, subst, codes, append-nil}
use Rattle.std.specs.Prelude.{◌^◌, decimal, min}
use Rattle.tool_parts.specs.Telling.{TellsBytes}
use Rattle.rule_files.specs.Flaws.{IsWhyFlawed}
use Rattle.rule_files.specs.declared.flaw.RuleFlaw.{RuleFlaw}
use Rattle.rule_files.proofs.flaw.write_flaw.Goals as goal

pub returns-in-Regex : goal.returns-in-Regex
returns-in-Regex g c =
    let cause = c.as_bytes-why.result.now in
    let place : c.digits_of-place.result.now ≡ decimal (min (c.in-Regex.error.span.start + 1) (2 ^ 64 - 1)) = c.digits_of-place.ensures.digits ∙ ap decimal c.saturating_add.ensures in
    let why = codes "regex, at byte " ++ (c.digits_of-place.result.now ++ (codes ": " ++ cause)) in
    record {
      told = (
        why,
        subst (λ (flaw : RuleFlaw). IsWhyFlawed flaw why) (sym c.in-Regex.is) (cause, ap (λ (digits : List ℕ). codes "regex, at byte " ++ (digits ++ (codes ": " ++ cause))) place),
        subst (λ (end : List ℕ). TellsBytes g.E.Sink c.args.errors.now c.write-in-Regex.new.self (codes "regex, at byte " ++ (c.digits_of-place.result.now ++ (codes ": " ++ end)))) (append-nil cause) c.write-in-Regex.ensures.told,
      );
    }
