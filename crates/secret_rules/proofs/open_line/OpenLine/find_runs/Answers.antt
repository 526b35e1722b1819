use Rattle.std.proofs.Common.{ℕ, List, [], ◌∷◌, ◌++◌, length, sym, ap, subst, arith}
use Rattle.aho_core.specs.Cover.{AreRunsOf}
use Rattle.secret_rules.specs.Covering.{CoveredIn, covering_by}
use Rattle.secret_rules.specs.Marking.{HasMarked}
use Rattle.secret_rules.specs.Marks.{AreAllMarks}
use Rattle.secret_rules.specs.OpenLines.{line_rules}
use Rattle.secret_rules.specs.Writing.{LieFrom}
use Rattle.secret_rules.proofs.open_line.OpenLine.find_runs.Goals as goal

pub runs_in-requires-clause-short : goal.runs_in-requires-clause-short
runs_in-requires-clause-short g c = omega (arith, c.requires.short, ap length c.as_slice-line.ensures.value)

pub runs_in-requires-clause-marks : goal.runs_in-requires-clause-marks
runs_in-requires-clause-marks g c =
    let (before, marked) = c.requires.marked in
    let rules = line_rules c.args.self.now in
    (rules, before, c.requires.setting, subst (AreAllMarks rules before c.as_slice-line.result.now) (sym c.as_slice-marks.ensures.value) (c.in_ok-mark.ensures.marks before marked))

pub returns-clause-runs : goal.returns-clause-runs
returns-clause-runs g c = λ before marked p searched.
    let rules = line_rules c.args.self.now in
    let setting = c.args.self.now.setting in
    subst (λ (xs : List ℕ). AreRunsOf (CoveredIn (covering_by setting.words rules setting.most p) before xs) c.runs_in.new.runs.items) c.as_slice-line.ensures.value
    (c.in_ok-runs_in.ensures.runs rules before c.requires.setting
    (subst (AreAllMarks rules before c.as_slice-line.result.now) (sym c.as_slice-marks.ensures.value) (c.in_ok-mark.ensures.marks before marked)) p searched)

pub returns-clause-lie : goal.returns-clause-lie
returns-clause-lie g c = subst (λ (xs : List ℕ). LieFrom xs 0 c.runs_in.new.runs.items) c.as_slice-line.ensures.value c.in_ok-runs_in.ensures.lie

pub returns-clause-marked : goal.returns-clause-marked
returns-clause-marked g c = λ before marked. subst (λ (xs : List ℕ). HasMarked c.mark.new.self (before ++ xs ∷ [])) c.as_slice-line.ensures.value (c.in_ok-mark.ensures.marked before marked)
