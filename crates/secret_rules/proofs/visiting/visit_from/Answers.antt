use Rattle.std.proofs.Common.{◌≡◌, ◌==◌, ◌∙◌, inl, ℕ, Bool, false, List, refl, sym, ap, subst, arith, ne_eqb, length}
use Rattle.std.proofs.lemmas.Result.{err_from_is_err_and}
use Rattle.std.specs.Prelude.{Err}
use Rattle.std.specs.Io.KnownBytes.{Consumes}
use Rattle.aho_devices.specs.Counts.{counted}
use Rattle.aho_cover.proofs.Written.{if_ok}
use Rattle.secret_rules.specs.Lines.{last_line}
use Rattle.secret_rules.specs.OpenLines.{line_rules}
use Rattle.secret_rules.specs.SeenLines.{ComesTo, IsLineUnvisited, MissesLine, MissesLines, TakesLine}
use Rattle.secret_rules.specs.declared.rule.Rule.{Rule}
use Rattle.secret_rules.proofs.Same.{setting-same}
use Rattle.secret_rules.proofs.Streaming.{no-bytes}
use Rattle.secret_rules.proofs.TakenLines.{moved}
use Rattle.secret_rules.proofs.Visited.{failures-read, failures-unread, going_on-begins, going_on-ends, going_on-first, going_on-more, going_on-stops, going_on-visits, going_on-whole, if_error, leaves-broken, leaves-last, leaves-unread, result-fails, same-refused, unvisited-fails, unvisited-unread}
use Rattle.secret_rules.proofs.visiting.visit_from.Goals as goal

pub reads-init : goal.reads-init
reads-init g c = record {
  setting = refl;
  rules = refl;
  read_failures = refl;
  within = omega arith;
  counted = omega arith;
  going = going_on-first g.A.Automaton c.args.line.now.setting (line_rules c.args.line.now) g.R.Source g.V.LineVisitor c.args.source.now c.args.visitor.now c.args.line.now c.requires.unbegun;
}

-- no read was made, or it failed
pub returns-in_err-more-clause-leaves : goal.returns-in_err-more-clause-leaves
returns-in_err-more-clause-leaves g c =
    let line = c.args.line.now in
    let inv = c.reads.invariant in
    let refilled = c.in_err-more.ensures in
    let told = err_from_is_err_and c.from_residual.result c.from_residual.ensures.1 in
    let read = subst (Consumes (g.R.Source.remaining c.reads.source) (g.R.Source.remaining c.read_once.new.source)) refilled.nothing refilled.given in
    rw (told.1, told.2) (leaves-unread g.A.Automaton line.setting (line_rules line) g.R.Source g.V.LineVisitor c.args.source.now c.args.visitor.now c.read_once.new.source c.reads.visitor _
    (going_on-begins g.A.Automaton line.setting (line_rules line) g.R.Source g.V.LineVisitor c.args.source.now c.args.visitor.now c.reads.line c.reads.count c.reads.source c.read_once.new.source c.reads.visitor _ inv.going read refilled.ended refilled.only)
    (going_on-whole g.A.Automaton line.setting (line_rules line) g.R.Source g.V.LineVisitor c.args.source.now c.args.visitor.now c.reads.line c.reads.count c.reads.source c.read_once.new.source c.reads.visitor c.reads.visitor inv.going read refilled.ended))

pub returns-in_err-more-clause-errors : goal.returns-in_err-more-clause-errors
returns-in_err-more-clause-errors g c =
    let told = err_from_is_err_and c.from_residual.result c.from_residual.ensures.1 in
    rw (told.1, told.2) (failures-read g.R.Source c.args.source.now c.reads.source c.read_once.new.source _ c.reads.invariant.read_failures c.in_err-more.ensures.read_failed)

pub returns-in_err-more-clause-only : goal.returns-in_err-more-clause-only
returns-in_err-more-clause-only g c =
    let told = err_from_is_err_and c.from_residual.result c.from_residual.ensures.1 in
    rw (told.1, told.2) (inl c.in_err-more.ensures.only)

-- the source has ended
pub give-requires-clause-setting : goal.give-requires-clause-setting
give-requires-clause-setting g c =
    let inv = c.reads.invariant in
    setting-same g.A.Automaton _ _ _ _ (sym inv.setting) (sym inv.rules) c.requires.setting

pub give-requires-clause-stands : goal.give-requires-clause-stands
give-requires-clause-stands g c = let going = c.reads.invariant.going in (going.before, going.read, going.stands)

pub returns-then-more-eq0-clause-leaves : goal.returns-then-more-eq0-clause-leaves
returns-then-more-eq0-clause-leaves g c =
    let line = c.args.line.now in
    let inv = c.reads.invariant in
    let going = inv.going in
    let refilled = c.in_ok-more.ensures in
    let gave = c.give.ensures in
    let none = no-bytes c.read_once.new.buffer.bytes (refilled.told ∙ c.if-more-eq0.true) in
    let read = subst (Consumes (g.R.Source.remaining c.reads.source) (g.R.Source.remaining c.read_once.new.source)) none refilled.given in
    let ended = subst (λ (n : ℕ). g.R.Source.empty_reads c.read_once.new.source ≡ counted (n == 0) (g.R.Source.empty_reads c.reads.source)) c.if-more-eq0.true refilled.ended in
    leaves-last g.A.Automaton line.setting (line_rules line) g.R.Source g.V.LineVisitor c.args.source.now c.args.visitor.now c.read_once.new.source c.give.new.visitor c.give.result
    (if_ok c.give.result _ _ (λ takes. going_on-visits g.A.Automaton line.setting (line_rules line) g.R.Source g.V.LineVisitor c.args.source.now c.args.visitor.now c.reads.line c.reads.count c.reads.source c.read_once.new.source c.reads.visitor c.give.new.visitor going read ended
    (moved _ _ _ _ (λ x y. TakesLine g.A.Automaton x y g.V.LineVisitor c.reads.visitor c.give.new.visitor going.before (last_line going.read)) inv.setting inv.rules (takes going.before going.read going.stands)))
    gave.takes)
    (if_error c.give.result _ _ (λ error misses. going_on-ends g.A.Automaton line.setting (line_rules line) g.R.Source g.V.LineVisitor c.args.source.now c.args.visitor.now c.reads.line c.reads.count c.reads.source c.read_once.new.source c.reads.visitor c.give.new.visitor going error read ended
    (moved _ _ _ _ (λ x y. MissesLine g.A.Automaton x y g.V.LineVisitor c.reads.visitor c.give.new.visitor going.before (last_line going.read) error) inv.setting inv.rules (misses going.before going.read going.stands)))
    gave.misses)
    (same-refused _ _ c.give.result inv.rules gave.only)

pub returns-then-more-eq0-clause-errors : goal.returns-then-more-eq0-clause-errors
returns-then-more-eq0-clause-errors g c =
    let inv = c.reads.invariant in
    failures-unread g.R.Source (line_rules c.reads.line) c.args.source.now c.read_once.new.source c.give.result (c.in_ok-more.ensures.read_failed ∙ inv.read_failures) c.give.ensures.only

pub returns-then-more-eq0-clause-only : goal.returns-then-more-eq0-clause-only
returns-then-more-eq0-clause-only g c = result-fails (line_rules c.args.line.now) c.give.result (same-refused _ _ c.give.result c.reads.invariant.rules c.give.ensures.only)

-- more was read
pub give_lines-requires-clause-setting : goal.give_lines-requires-clause-setting
give_lines-requires-clause-setting g c =
    let inv = c.reads.invariant in
    setting-same g.A.Automaton _ _ _ _ (sym inv.setting) (sym inv.rules) c.requires.setting

pub give_lines-requires-clause-stands : goal.give_lines-requires-clause-stands
give_lines-requires-clause-stands g c = let going = c.reads.invariant.going in (going.before, going.read, going.stands)

pub returns-in_err-give_lines-clause-leaves : goal.returns-in_err-give_lines-clause-leaves
returns-in_err-give_lines-clause-leaves g c =
    let error = c.in_err-give_lines.field-0.0 in
    let line = c.args.line.now in
    let inv = c.reads.invariant in
    let going = inv.going in
    let refilled = c.in_ok-more.ensures in
    let gave = c.in_err-give_lines.ensures in
    let bytes = c.buffer.result.now in
    let told = err_from_is_err_and c.from_residual-in_err-give_lines.result c.from_residual-in_err-give_lines.ensures.1 in
    let read = subst (Consumes (g.R.Source.remaining c.reads.source) (g.R.Source.remaining c.read_once.new.source)) (sym c.buffer.ensures.bytes) refilled.given in
    let ended = subst (λ (b : Bool). g.R.Source.empty_reads c.read_once.new.source ≡ counted b (g.R.Source.empty_reads c.reads.source)) (ne_eqb c.in_ok-more.more 0 c.if-more-eq0.false) refilled.ended in
    rw (told.1, told.2) (leaves-broken g.A.Automaton line.setting (line_rules line) g.R.Source g.V.LineVisitor c.args.source.now c.args.visitor.now c.read_once.new.source c.give_lines.new.visitor error
    (going_on-stops g.A.Automaton line.setting (line_rules line) g.R.Source g.V.LineVisitor c.args.source.now c.args.visitor.now c.reads.line c.reads.count c.reads.source c.read_once.new.source c.reads.visitor c.give_lines.new.visitor going bytes false error read ended
    (moved _ _ _ _ (λ x y. MissesLines g.A.Automaton x y g.V.LineVisitor c.reads.visitor c.give_lines.new.visitor going.before going.read bytes error) inv.setting inv.rules (gave.misses going.before going.read going.stands)))
    (unvisited-unread (line_rules c.reads.line) error gave.only))

pub returns-in_err-give_lines-clause-errors : goal.returns-in_err-give_lines-clause-errors
returns-in_err-give_lines-clause-errors g c =
    let inv = c.reads.invariant in
    let told = err_from_is_err_and c.from_residual-in_err-give_lines.result c.from_residual-in_err-give_lines.ensures.1 in
    rw (told.1, told.2) (failures-unread g.R.Source (line_rules c.reads.line) c.args.source.now c.read_once.new.source (Err c.in_err-give_lines.field-0.0) (c.in_ok-more.ensures.read_failed ∙ inv.read_failures) c.in_err-give_lines.ensures.only)

pub returns-in_err-give_lines-clause-only : goal.returns-in_err-give_lines-clause-only
returns-in_err-give_lines-clause-only g c =
    let inv = c.reads.invariant in
    let told = err_from_is_err_and c.from_residual-in_err-give_lines.result c.from_residual-in_err-give_lines.ensures.1 in
    rw (told.1, told.2) (unvisited-fails (line_rules c.args.line.now) c.in_err-give_lines.field-0.0 (subst (λ (rs : List Rule). IsLineUnvisited rs c.in_err-give_lines.field-0.0) inv.rules c.in_err-give_lines.ensures.only))

pub reads-preserved : goal.reads-preserved
reads-preserved g c =
    let line = c.args.line.now in
    let inv = c.reads.invariant in
    let going = inv.going in
    let refilled = c.in_ok-more.ensures in
    let gave = c.in_ok-give_lines.ensures in
    let bytes = c.buffer.result.now in
    let read = subst (Consumes (g.R.Source.remaining c.reads.source) (g.R.Source.remaining c.read_once.new.source)) (sym c.buffer.ensures.bytes) refilled.given in
    let ended = subst (λ (b : Bool). g.R.Source.empty_reads c.read_once.new.source ≡ counted b (g.R.Source.empty_reads c.reads.source)) (ne_eqb c.in_ok-more.more 0 c.if-more-eq0.false) refilled.ended in
    record {
      setting = gave.setting ∙ inv.setting;
      rules = gave.rules ∙ inv.rules;
      read_failures = refilled.read_failed ∙ inv.read_failures;
      within = refilled.limited;
      counted = omega (arith, inv.counted, gave.counted, ap length c.buffer.ensures.bytes, refilled.told);
      going = going_on-more g.A.Automaton line.setting (line_rules line) g.R.Source g.V.LineVisitor c.args.source.now c.args.visitor.now c.reads.line c.reads.count c.reads.source c.read_once.new.source c.reads.visitor c.give_lines.new.visitor going c.give_lines.new.self c.give_lines.new.count bytes read ended
          (moved _ _ _ _ (λ x y. ComesTo g.A.Automaton x y g.V.LineVisitor c.reads.visitor c.give_lines.new.visitor c.give_lines.new.self c.give_lines.new.count going.before going.read bytes) inv.setting inv.rules
          (gave.takes going.before going.read going.stands));
    }

pub reads-smaller : goal.reads-smaller
reads-smaller g c = omega (arith, c.if-more-eq0.false, c.in_ok-more.ensures.limited)
