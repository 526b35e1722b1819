-- The text of a rule more was read.
use Rattle.acgrep.proofs.Common.{common_steps, get_or}
use Rattle.std.proofs.Common.{◌+◌, ◌∷◌, ◌≡◌, [], arith, drop, refl}
use Rattle.acgrep.specs.Loading.{GivesText}
use Rattle.acgrep.specs.Rules.{rule_said, rules_said}
use Rattle.acgrep.specs.Told.{rule_files}
use Rattle.acgrep.specs.declared.rules.Rule.{Rule}
use Rattle.acgrep.specs.declared.rules.Sense.TheVariants.{Include}
use Rattle.acgrep.proofs.Gathered.{all_given, more_given}
use Rattle.acgrep.proofs.RuleTexts.{file_among}
use Rattle.acgrep.proofs.excluded.read_globs.Goals as goal

-- any rule
abbrev other : Rule
other = record { sense = Include; glob = record { ref_ptr = (0, 0); now = [] } }

pub loop-rule-preserved : goal.loop-rule-preserved
loop-rule-preserved g c =
    let rules = c.args.rules.now in
    let i = c.loop-rule.rule-index in
    let cut : drop i rules ≡ get_or rules i other ∷ drop (i + 1) rules = grind (arith, common_steps, c.loop-rule-test.true) in
    record {
      texts = more_given (GivesText (g.F.Open.holds c.args.files.now)) (rules_said c.args.rules.now) (g.R.Read.remaining c.args.input.now) (rule_said (get_or rules i other)) (rules_said (drop (i + 1) rules))
          (g.R.Read.remaining c.loop-rule.input) (g.R.Read.remaining c.text_of.new.input) _ _ (rw cut at c.loop-rule.invariant.texts)
          (record { more = c.in-Ok.text.items ∷ []; grown = grind (arith, common_steps); of = (c.in-Ok.text.items, refl, c.in-Ok.ensures.read) });
      told = c.loop-rule.invariant.told;
    }

pub returns-in-Err-clause-told : goal.returns-in-Err-clause-told
returns-in-Err-clause-told g c none =
    let all = rule_files (rules_said c.args.rules.now) in
    rw c.loop-rule.invariant.told at (c.tell_source.ensures.told all (file_among c.args.rules.now c.loop-rule.rule-index other c.loop-rule-test.true (c.in-Err.ensures.file refl)))

pub returns-in_default-clause-told : goal.returns-in_default-clause-told
returns-in_default-clause-told g c none = rw c.loop-rule.invariant.told at (c.tell_memory.ensures.told (rule_files (rules_said c.args.rules.now)))

pub returns-clause-texts : goal.returns-clause-texts
returns-clause-texts g c =
    all_given (GivesText (g.F.Open.holds c.args.files.now)) (rules_said c.args.rules.now) (g.R.Read.remaining c.args.input.now) rule_said (drop c.loop-rule.rule-index c.args.rules.now) (g.R.Read.remaining c.loop-rule.input) _
    (grind (arith, common_steps, c.loop-rule-test.false)) c.loop-rule.invariant.texts
