-- The counts and the summary are of the sums, and are one text.
use Rattle.acredact.proofs.Common.{TellsBytes, [], all_given, append-nil, length, length-map, lines_of_rules, refl, rules, secret_of, secrets_of, subst, sums_of, ◌∙◌, ◌≡◌}
use Rattle.acredact.specs.RunCounts.{IsNumbersLine, counted_text}
use Rattle.acredact.specs.Summaries.{counts_told_by, numbers_text, rules_lent}
use Rattle.acredact.proofs.Calls.{tells_line}
use Rattle.acredact.proofs.run_counts.write_counted.Goals.{else-has, else-has-2, then-has+in_ok-put_counts+in_ok-put_rule_counts, then-has-2+in_ok-put_summary}
use Rattle.acredact.proofs.run_counts.write_counted.Goals as goal

pub returns : goal.returns
returns g c =
    let given = all_given c.args.given.now in
    let lines = lines_of_rules c.args.secrets.now in
    let lent = rules_lent c.args.rules in
    let sums : c.as_slice-sums.result.now ≡ sums_of (secrets_of c.args.secrets.now) c.args.tally.now = c.as_slice-sums.ensures.value ∙ c.in_ok-sums.ensures.sums in
    let none : c.new-text.result.items ≡ [] = search rules in
    let many : length (secrets_of c.args.secrets.now) ≡ length c.args.secrets.now = length-map c.args.secrets.now secret_of in
    let counts : c.if-has.text.items ≡ counts_told_by given lines c.as_slice-sums.result.now lent c.behind-runs.result.now = elim c.if-has.branch [
      | then-has+in_ok-put_counts+in_ok-put_rule_counts w ↦ search rules
      | else-has w ↦ search rules
    ] in
    let both : c.if-has-2.text.items ≡ numbers_text given lines c.as_slice-sums.result.now lent c.behind-runs.result.now c.args.volume = elim c.if-has-2.branch [
      | then-has-2+in_ok-put_summary w ↦ search rules
      | else-has-2 w ↦ search rules
    ] in
    let text : c.as_slice.result.now ≡ counted_text c.args.given.now c.args.secrets.now c.args.rules c.args.tally.now c.args.volume =
    rw (c.as_slice.ensures.value, both, sums, c.behind-runs.ensures.behind, ← many) refl in
    let told = subst (TellsBytes g.E.Sink c.args.errors.now c.write.new.self) (append-nil c.as_slice.result.now ∙ text) c.write.ensures.told in
    record {
      told = told;
      lines = tells_line g.E.Sink (IsNumbersLine c.args.given.now c.args.secrets.now c.args.rules c.args.tally.now c.args.volume) _ _ _ (c.requires.asked, refl) told;
    }
