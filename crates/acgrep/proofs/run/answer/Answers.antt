-- A text is written, or a search is made by the rules in files, and its status told.
use Rattle.acgrep.proofs.Common.{Keeps-refl, Nothing, concat, some-one, some-weaker}
use Rattle.std.proofs.Common.{List, Option, Some, [], ap, arith, inl, inr, refl, subst, ℕ}
use Rattle.acgrep.specs.Arguments.{Said, said, shown_by}
use Rattle.acgrep.specs.Beside.{unfit_said}
use Rattle.acgrep.specs.Folders.{Known, known_by}
use Rattle.acgrep.specs.Listed.{listed_bytes}
use Rattle.acgrep.specs.Mistakes.{TellsUnfit}
use Rattle.acgrep.specs.Rules.{RuleSaid, rules_said}
use Rattle.acgrep.specs.Runs.{AfterRules, AreRules, BeginsSaid, SearchesSaid, names_by, ruled, sources_by}
use Rattle.acgrep.specs.RunsByRules.{MarksAsked, MayBeginAsked}
use Rattle.acgrep.specs.Told.{IsMessage, MaySaid, MaySay, TellsOfSaid, names_said, names_told, rule_files, wrong_parts}
use Rattle.acgrep.specs.ToldByRules.{IsMarkTold, TellsByRules}
use Rattle.acgrep.specs.declared.wrong.Wrong.TheVariants.{NoPattern}
use Rattle.acgrep.proofs.MarksTold.{some-told}
use Rattle.acgrep.proofs.RuleTexts.{rules_read}
use Rattle.acgrep.proofs.Told.{among-first, among-later, finished, message-more, status-as, status-none, status-some, status-weaker}
use Rattle.acgrep.proofs.Unfitting.{each_all, some_unfit, unfit_fits}
use Rattle.acgrep.proofs.run.answer.Given.{Over}
use Rattle.acgrep.proofs.run.answer.Goals.{After-with_rules-ruled}
use Rattle.acgrep.proofs.run.answer.Goals as goal

pub returns-then-given-clause-told : goal.returns-then-given-clause-told
returns-then-given-clause-told g c = λ by.
    let given = said c.args.given in
    finished g.E.Sink (names_said (Some given)) (MaySaid _ _ (Some given)) (λ line is. inl (inl is)) given.flags.no_messages (shown_by given.flags) 0 _ _ c.args.errors.now _
    (status-none g.E.Sink _ given.flags.no_messages (shown_by given.flags) 0 c.args.errors.now (omega arith)) c.write_text.ensures.told

pub returns-then-given-2-clause-told : goal.returns-then-given-2-clause-told
returns-then-given-2-clause-told g c = λ by.
    let given = said c.args.given in
    finished g.E.Sink (names_said (Some given)) (MaySaid _ _ (Some given)) (λ line is. inl (inl is)) given.flags.no_messages (shown_by given.flags) 0 _ _ c.args.errors.now _
    (status-none g.E.Sink _ given.flags.no_messages (shown_by given.flags) 0 c.args.errors.now (omega arith)) c.write_text-then-given-2.ensures.told

-- that a file of rules cannot be read
may-rules : (known : Known) (left : Option (List ℕ)) (given : Said) (line : List ℕ) → IsMessage (rule_files given.rules) line → MaySaid known left (Some given) line
may-rules known left given line is =
    let others = names_told given.flags.no_messages given.label (sources_by given.sources given.operands) (names_by given.sources given.operands) in
    inl (inl (message-more (rule_files given.rules) (names_said (Some given)) (λ name among. among-first name (rule_files given.rules) others among) line is))

-- what is told by rules that were read
may-ruled : (known : Known) (left between : Option (List ℕ)) (given : Said) (rules : List RuleSaid) → AreRules known.holds given.rules left between rules → (line : List ℕ)
    → MaySay known.tree (ruled given rules) (sources_by given.sources given.operands) (names_by given.sources given.operands) line → MaySaid known left (Some given) line
may-ruled known left between given rules read line (inl (inl message)) =
    let others = names_told given.flags.no_messages given.label (sources_by given.sources given.operands) (names_by given.sources given.operands) in
    inl (inl (message-more others (names_said (Some given)) (λ name among. among-later name (rule_files given.rules) others among) line message))
may-ruled known left between given rules read line (inl (inr usage)) = inl (inr usage)
may-ruled known left between given rules read line (inr named) = inr (record { what = rules; between = between; read = read; does = named })

-- what was done by the rules that were read
abbrev by-rules : (g : Over) (c : After-with_rules-ruled g) (Does : Said → Option (List ℕ) → Type 0) → Does (said c.with_rules-ruled.result) (g.R.Read.remaining c.read_globs.new.input)
    → AfterRules (known_by g.F.Open g.F.Folders c.args.files.now) (said c.args.given) (g.R.Read.remaining c.args.input.now) Does
by-rules g c Does does = record {
  what = rules_said c.in-Ok.all.items;
  between = g.R.Read.remaining c.read_globs.new.input;
  read = rules_read (g.F.Open.holds c.args.files.now) (said c.args.given).rules (rules_said c.as_slice-rules.result.now) (rules_said c.in-Ok.all.items) (listed_bytes c.in-Some-read_globs.texts.items)
      (listed_bytes c.as_slice.result.now) (g.R.Read.remaining c.args.input.now) (g.R.Read.remaining c.read_globs.new.input)
      (ap rules_said c.as_slice-rules.ensures.value) (ap listed_bytes c.as_slice.ensures.value) c.in-Some-read_globs.ensures.texts c.in-Ok.ensures.expanded;
  does = subst (λ (s : Said). Does s (g.R.Read.remaining c.read_globs.new.input)) c.with_rules-ruled.ensures.ruled does;
}

pub returns-then-lacks_pattern-clause-told : goal.returns-then-lacks_pattern-clause-told
returns-then-lacks_pattern-clause-told g c = λ by.
    status-some g.E.Sink _ _ _ _ _ (some-one g.E.Sink (MaySaid _ _ (Some (said c.args.given))) _ _ (concat (wrong_parts NoPattern)) (inl (inr refl)) c.tell_wrong.ensures.told)

pub returns-in_default-read_globs-clause-told : goal.returns-in_default-read_globs-clause-told
returns-in_default-read_globs-clause-told g c = λ by.
    let given = said c.args.given in
    status-some g.E.Sink _ _ _ _ _ (some-weaker g.E.Sink (IsMessage (rule_files given.rules)) (MaySaid _ _ (Some given)) _ _ (may-rules _ _ given)
    (rw c.as_slice-rules.ensures.value at c.in_default-read_globs.ensures.told refl))

pub returns-in_default-expanded-clause-told : goal.returns-in_default-expanded-clause-told
returns-in_default-expanded-clause-told g c = λ by.
    let given = said c.args.given in
    let same = c.in-Some-read_globs.ensures.silent refl in
    rw (← same) (status-some g.E.Sink _ _ _ _ _ (some-weaker g.E.Sink _ (MaySaid _ _ (Some given)) _ _ (λ line is. inl (inl is)) (c.tell_memory.ensures.told (names_said (Some given)))))

pub returns-in_default-read_globs-clause-told_marks : goal.returns-in_default-read_globs-clause-told_marks
returns-in_default-read_globs-clause-told_marks g c = λ by. status-some g.E.Sink IsMarkTold _ Nothing _ _ (some-told g.E.Sink _ _ _ (c.in_default-read_globs.ensures.told refl))

pub returns-in_default-expanded-clause-told_marks : goal.returns-in_default-expanded-clause-told_marks
returns-in_default-expanded-clause-told_marks g c = λ by.
    let same = c.in-Some-read_globs.ensures.silent refl in
    rw (← same) (status-some g.E.Sink IsMarkTold _ Nothing _ _ (some-told g.E.Sink [] _ _ (c.tell_memory.ensures.told [])))

-- options that do not go together are told
pub returns-in-Some : goal.returns-in-Some
returns-in-Some g c =
    let unfit = unfit_said (said c.args.given) in
    record {
      bound = omega arith;
      patternless = λ asks none. refl;
      lacking = λ asks none. unfit_fits c.in-Some.unfit unfit c.in-Some.ensures.unfit asks.fits;
      searches = λ asks low. absurd (omega (arith, low));
      begins = λ asks. inl (Keeps-refl _);
      unfit = λ asks. each_all unfit _ (λ line. refl);
      unfitting = λ asks. some_unfit c.in-Some.unfit unfit (λ line. TellsUnfit g.E.Sink line c.args.errors.now c.tell_unfit.new.errors) c.in-Some.ensures.unfit (inr c.tell_unfit.ensures.told);
      unfit_unread = λ asks. each_all unfit _ (λ line. refl);
      unfit_unwritten = λ asks. each_all unfit _ (λ line. Keeps-refl _);
      marks = λ asks low. absurd (omega (arith, low));
      begins_marks = λ asks. inl (Keeps-refl _);
      told_marks = λ asks. unfit_fits c.in-Some.unfit unfit c.in-Some.ensures.unfit asks.fits;
      told = λ by. unfit_fits c.in-Some.unfit unfit c.in-Some.ensures.unfit by.1;
      flushed = λ low. absurd (omega (arith, low));
    }

-- by rules lines are marked
pub returns-then-by_rules-clause-marks : goal.returns-then-by_rules-clause-marks
returns-then-by_rules-clause-marks g c = λ asks low. (
  c.mark_asked-status.result,
  by-rules g (goal.at.returns-then-by_rules-clause-marks g c).After-with_rules-ruled
      (λ s between. MarksAsked (known_by g.F.Open g.F.Folders c.args.files.now) c.args.screen.now s between (g.W.Sink.taken c.args.output.now) (g.W.Sink.taken c.mark_asked-status.new.output) c.mark_asked-status.result)
      (c.mark_asked-status.ensures.searches (c.status_told.ensures.low low)),
  c.status_told.ensures.told,
)

pub returns-then-by_rules-clause-begins_marks : goal.returns-then-by_rules-clause-begins_marks
returns-then-by_rules-clause-begins_marks g c = λ asks. inr (by-rules g (goal.at.returns-then-by_rules-clause-begins_marks g c).After-with_rules-ruled
    (λ s between. MayBeginAsked (known_by g.F.Open g.F.Folders c.args.files.now) c.args.screen.now s between (g.W.Sink.taken c.args.output.now) (g.W.Sink.taken c.mark_asked-status.new.output)) c.mark_asked-status.ensures.begins)

pub returns-then-by_rules-clause-told_marks : goal.returns-then-by_rules-clause-told_marks
returns-then-by_rules-clause-told_marks g c = λ asks.
    let flags = c.args.given.flags in
    let told = subst (λ (s : Said). TellsByRules g.E.Sink s c.mark_asked-status.result c.read_globs.new.errors c.mark_asked-status.new.errors) c.with_rules-ruled.ensures.ruled c.mark_asked-status.ensures.told in
    status-as g.E.Sink IsMarkTold flags.no_messages Nothing _ _ _ _ c.status_told.ensures.low c.status_told.ensures.failed (rw (c.in-Some-read_globs.ensures.silent refl) at told)

-- and else what was said is searched for
pub returns-clause-searches : goal.returns-clause-searches
returns-clause-searches g c = λ asks low. (
  c.search_asked-status.result,
  by-rules g (goal.at.returns-clause-searches g c).After-with_rules-ruled
      (λ s between. SearchesSaid (known_by g.F.Open g.F.Folders c.args.files.now) c.args.screen.now s between (g.R.Read.remaining c.search_asked-status.new.input) (g.W.Sink.taken c.args.output.now)
      (g.W.Sink.taken c.search_asked-status.new.output) c.search_asked-status.result)
      (c.search_asked-status.ensures.searches (c.status_told-2.ensures.low low)),
  c.status_told-2.ensures.told,
)

pub returns-clause-begins : goal.returns-clause-begins
returns-clause-begins g c = λ asks. inr (by-rules g (goal.at.returns-clause-begins g c).After-with_rules-ruled
    (λ s between. BeginsSaid (known_by g.F.Open g.F.Folders c.args.files.now) c.args.screen.now s between (g.W.Sink.taken c.args.output.now) (g.W.Sink.taken c.search_asked-status.new.output)) c.search_asked-status.ensures.begins)

pub returns-clause-told : goal.returns-clause-told
returns-clause-told g c = λ by.
    let given = said c.args.given in
    let known = known_by g.F.Open g.F.Folders c.args.files.now in
    let after = by-rules g (goal.at.returns-clause-told g c).After-with_rules-ruled (λ s between. Unit {0}) tt in
    let told = subst (λ (s : Said). TellsOfSaid g.E.Sink known.tree s c.search_asked-status.result c.read_globs.new.errors c.search_asked-status.new.errors) c.with_rules-ruled.ensures.ruled c.search_asked-status.ensures.told in
    status-as g.E.Sink (MaySaid known _ (Some given)) given.flags.no_messages (shown_by given.flags) _ _ _ _ c.status_told-2.ensures.low c.status_told-2.ensures.failed
    (status-weaker g.E.Sink _ (MaySaid known _ (Some given)) given.flags.no_messages (shown_by given.flags) _ _ _ (may-ruled known _ after.between given after.what after.read)
    (rw (c.in-Some-read_globs.ensures.silent refl) at told))

pub returns-then-by_rules-clause-bound : goal.returns-then-by_rules-clause-bound
returns-then-by_rules-clause-bound g c = c.status_told.ensures.bound c.mark_asked-status.ensures.bound

pub returns-clause-bound : goal.returns-clause-bound
returns-clause-bound g c = c.status_told-2.ensures.bound c.search_asked-status.ensures.bound
