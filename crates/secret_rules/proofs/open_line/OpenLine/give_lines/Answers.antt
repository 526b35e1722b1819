use Rattle.std.proofs.Common.{[], ◌∷◌, ◌++◌, ◌+◌, ◌∙◌, length, take, drop, refl, sym, ap, subst, arith}
use Rattle.std.proofs.lemmas.List.{length-drop, take_rest}
use Rattle.std.proofs.lemmas.Result.{err_from_is_err_and}
use Rattle.secret_rules.specs.Covering.{seen_line}
use Rattle.secret_rules.specs.Lines.{ended_line}
use Rattle.secret_rules.specs.Marking.{marker_rules}
use Rattle.secret_rules.specs.OpenLines.{line_rules}
use Rattle.secret_rules.specs.SeenLines.{MissesLine, HoldsBehind, TakesLine}
use Rattle.secret_rules.specs.declared.open_line.Setting.{Setting}
use Rattle.secret_rules.proofs.Keeping.{stands-grown}
use Rattle.secret_rules.proofs.Same.{setting-same}
use Rattle.secret_rules.proofs.TakenLines.{given-all, given-breaks, given-line, given-none, given-stops, moved}
use Rattle.secret_rules.proofs.Taking.{none-before, parts-found}
use Rattle.secret_rules.proofs.open_line.OpenLine.give_lines.Goals as goal

pub lines-init : goal.lines-init
lines-init g c = record {
  setting = refl;
  rules = refl;
  fits = omega arith;
  given = given-none g.A.Automaton c.args.self.now.setting (line_rules c.args.self.now) g.V.LineVisitor c.args.self.now c.args.count.now c.args.visitor.now c.args.bytes.now;
}

pub give-requires-clause-setting : goal.give-requires-clause-setting
give-requires-clause-setting g c =
    let inv = c.lines.invariant in
    let kept = c.in_ok-keep.ensures in
    setting-same g.A.Automaton _ _ _ _ (sym (kept.setting ∙ inv.setting)) (sym (ap marker_rules kept.marker ∙ inv.rules)) c.requires.setting

pub give-requires-clause-stands : goal.give-requires-clause-stands
give-requires-clause-stands g c =
    let (before, read, stands) = c.requires.stands in
    let so_far = c.lines.invariant.given.goes before read stands in
    let part = take c.in-Some.end c.lines.rest.now in (
      so_far.before',
      so_far.read' ++ part,
      stands-grown c.lines.self c.keep.new.self c.lines.count c.keep.new.count so_far.before' so_far.read' part so_far.stands c.in_ok-keep.ensures.marker (c.in_ok-keep.ensures.kept so_far.read' so_far.stands.has),
    )

pub lines-preserved : goal.lines-preserved
lines-preserved g c =
    let inv = c.lines.invariant in
    let self = c.args.self.now in
    let rest = c.lines.rest.now in
    let end = c.in-Some.end in
    let found = c.in-Some.ensures in
    let part = take end rest in
    let kept = c.in_ok-keep.ensures in
    let gave = c.in_ok-give.ensures in
    let same_setting = kept.setting ∙ inv.setting in
    let same_rules = ap marker_rules kept.marker ∙ inv.rules in
    let later = take_rest rest (end + 1) in
    record {
      setting = gave.setting ∙ same_setting;
      rules = gave.rules ∙ same_rules;
      fits = omega (arith, inv.fits, gave.none, ap length later, length-drop (end + 1) rest);
      given = given-line g.A.Automaton self.setting (line_rules self) g.V.LineVisitor self c.lines.self c.args.count.now c.lines.count c.args.visitor.now c.lines.visitor c.args.bytes.now rest inv.given
          c.give.new.self c.give.new.count c.give.new.visitor part _
          (none-before rest end (omega (arith, found.0.high)) found.0.before)
          (parts-found rest _ end found.0.high found.1 later)
          (λ before read stands.
          let more = stands-grown c.lines.self c.keep.new.self c.lines.count c.keep.new.count before read part stands kept.marker (kept.kept read stands.has) in (
            moved _ _ _ _ (λ x y. TakesLine g.A.Automaton x y g.V.LineVisitor c.lines.visitor c.give.new.visitor before (ended_line (read ++ part))) same_setting same_rules (gave.takes before (read ++ part) more),
            subst (λ (x : Setting _). HoldsBehind c.give.new.self c.give.new.count (before ++ seen_line x.most (read ++ part) ∷ []) []) same_setting (gave.stands before (read ++ part) more),
          ));
    }

pub lines-smaller : goal.lines-smaller
lines-smaller g c =
    let rest = c.lines.rest.now in
    let end = c.in-Some.end in
    omega (arith, ap length (take_rest rest (end + 1)), length-drop (end + 1) rest, c.in-Some.ensures.0.high)

pub returns-in_err-keep-clause-misses : goal.returns-in_err-keep-clause-misses
returns-in_err-keep-clause-misses g c =
    let self = c.args.self.now in
    let told = err_from_is_err_and c.from_residual.result c.from_residual.ensures.1 in
    rw (told.1, told.2) (given-stops g.A.Automaton self.setting (line_rules self) g.V.LineVisitor self c.lines.self c.args.count.now c.lines.count c.args.visitor.now c.lines.visitor c.args.bytes.now c.lines.rest.now c.lines.invariant.given _ tt)

pub returns-in_err-give-clause-misses : goal.returns-in_err-give-clause-misses
returns-in_err-give-clause-misses g c =
    let inv = c.lines.invariant in
    let self = c.args.self.now in
    let rest = c.lines.rest.now in
    let end = c.in-Some.end in
    let found = c.in-Some.ensures in
    let part = take end rest in
    let kept = c.in_ok-keep.ensures in
    let told = err_from_is_err_and c.from_residual-in_err-give.result c.from_residual-in_err-give.ensures.1 in
    rw (told.1, told.2) (given-breaks g.A.Automaton self.setting (line_rules self) g.V.LineVisitor self c.lines.self c.args.count.now c.lines.count c.args.visitor.now c.lines.visitor c.args.bytes.now rest inv.given
    c.give.new.visitor part (drop (end + 1) rest) c.in_err-give.field-0.0
    (none-before rest end (omega (arith, found.0.high)) found.0.before)
    (parts-found rest (drop (end + 1) rest) end found.0.high found.1 refl)
    (λ before read stands.
    let more = stands-grown c.lines.self c.keep.new.self c.lines.count c.keep.new.count before read part stands kept.marker (kept.kept read stands.has) in
    moved _ _ _ _ (λ x y. MissesLine g.A.Automaton x y g.V.LineVisitor c.lines.visitor c.give.new.visitor before (ended_line (read ++ part)) c.in_err-give.field-0.0) (kept.setting ∙ inv.setting) (ap marker_rules kept.marker ∙ inv.rules)
    (c.in_err-give.ensures.misses before (read ++ part) more)))

pub returns-clause-takes : goal.returns-clause-takes
returns-clause-takes g c =
    let inv = c.lines.invariant in
    let self = c.args.self.now in
    let kept = c.in_ok-keep-2.ensures in
    given-all g.A.Automaton self.setting (line_rules self) g.V.LineVisitor self c.lines.self c.args.count.now c.lines.count c.args.visitor.now c.lines.visitor c.args.bytes.now c.lines.rest.now inv.given
    c.keep-2.new.self c.keep-2.new.count c.in_default.ensures
    (λ before read stands. stands-grown c.lines.self c.keep-2.new.self c.lines.count c.keep-2.new.count before read c.lines.rest.now stands kept.marker (kept.kept read stands.has))

pub returns-in_err-keep-2-clause-misses : goal.returns-in_err-keep-2-clause-misses
returns-in_err-keep-2-clause-misses g c =
    let self = c.args.self.now in
    let told = err_from_is_err_and c.from_residual-in_err-keep-2.result c.from_residual-in_err-keep-2.ensures.1 in
    rw (told.1, told.2) (given-stops g.A.Automaton self.setting (line_rules self) g.V.LineVisitor self c.lines.self c.args.count.now c.lines.count c.args.visitor.now c.lines.visitor c.args.bytes.now c.lines.rest.now c.lines.invariant.given _ tt)
