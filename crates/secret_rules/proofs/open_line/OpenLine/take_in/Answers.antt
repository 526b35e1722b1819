use Rattle.std.proofs.Common.{◌++◌, ◌+◌, ◌∙◌, length, take, drop, refl, sym, ap, arith}
use Rattle.std.proofs.lemmas.List.{length-drop, take_rest}
use Rattle.std.proofs.lemmas.Result.{err_from_is_err_and}
use Rattle.aho_cover.proofs.Written.{on_err}
use Rattle.secret_rules.specs.LineCovers.{AreSearchedFor}
use Rattle.secret_rules.specs.Lines.{ended_line}
use Rattle.secret_rules.specs.Marking.{marker_rules}
use Rattle.secret_rules.specs.OpenLines.{line_rules}
use Rattle.secret_rules.proofs.Same.{setting-same, stands-same, stops-same, tells-same, writes-same}
use Rattle.secret_rules.proofs.Taking.{none-before, parts-found, stands-more, taken-all, taken-breaks, taken-line, taken-none, taken-stops}
use Rattle.secret_rules.proofs.open_line.OpenLine.take_in.Goals as goal

pub lines-init : goal.lines-init
lines-init g c = record {
  setting = refl;
  rules = refl;
  rule = refl;
  failures = refl;
  empty_writes = refl;
  taken = taken-none g.W.Sink g.P.Pieces (AreSearchedFor g.A.Automaton c.args.self.now.setting.automaton) c.args.self.now.setting.words (line_rules c.args.self.now) c.args.self.now.setting.most (g.P.Pieces.rule c.args.pieces.now)
      c.args.self.now c.args.pieces.now c.args.sink.now c.args.counts.now c.args.bytes.now;
}

pub end-requires-clause-setting : goal.end-requires-clause-setting
end-requires-clause-setting g c =
    let inv = c.lines.invariant in
    let added = c.in_ok-add.ensures in
    setting-same g.A.Automaton c.args.self.now.setting c.add.new.self.setting (line_rules c.args.self.now) (line_rules c.add.new.self) (sym (added.setting ∙ inv.setting)) (sym (ap marker_rules added.marker ∙ inv.rules)) c.requires.setting

pub end-requires-clause-stands : goal.end-requires-clause-stands
end-requires-clause-stands g c =
    let (before, read, stands) = c.requires.stands in
    let so_far = c.lines.invariant.taken.goes before read stands in
    let part = take c.in-Some.end c.lines.rest.now in (
      so_far.before',
      so_far.read' ++ part,
      stands-more g.P.Pieces c.lines.self c.add.new.self c.lines.pieces c.add.new.pieces so_far.before' so_far.read' part so_far.stands c.in_ok-add.ensures.marker (c.in_ok-add.ensures.read so_far.read' so_far.stands.has),
    )

pub lines-preserved : goal.lines-preserved
lines-preserved g c =
    let inv = c.lines.invariant in
    let self = c.args.self.now in
    let rest = c.lines.rest.now in
    let end = c.in-Some.end in
    let found = c.in-Some.ensures in
    let part = take end rest in
    let added = c.in_ok-add.ensures in
    let ended = c.in_ok-end.ensures in
    let same_setting = added.setting ∙ inv.setting in
    let same_rules = ap marker_rules added.marker ∙ inv.rules in
    let same_rule = added.rule ∙ inv.rule in
    let later = take_rest rest (end + 1) in
    record {
      setting = ended.setting ∙ same_setting;
      rules = ended.rules ∙ same_rules;
      rule = ended.rule ∙ same_rule;
      failures = ended.tells.write_failed ∙ inv.failures;
      empty_writes = ended.tells.took_nothing ∙ inv.empty_writes;
      taken = taken-line g.W.Sink g.P.Pieces (AreSearchedFor g.A.Automaton self.setting.automaton) self.setting.words (line_rules self) self.setting.most (g.P.Pieces.rule c.args.pieces.now)
          self c.lines.self c.args.pieces.now c.lines.pieces c.args.sink.now c.lines.sink c.args.counts.now c.lines.counts c.args.bytes.now rest inv.taken
          c.end.new.self c.end.new.pieces c.end.new.sink c.end.new.counts part _
          (none-before rest end (omega (arith, found.0.high)) found.0.before)
          (parts-found rest _ end found.0.high found.1 later)
          (λ before read stands.
          let more = stands-more g.P.Pieces c.lines.self c.add.new.self c.lines.pieces c.add.new.pieces before read part stands added.marker (added.read read stands.has) in (
            writes-same g.A.Automaton c.add.new.self.setting self.setting (line_rules c.add.new.self) (line_rules self) (g.P.Pieces.rule c.add.new.pieces) (g.P.Pieces.rule c.args.pieces.now) same_setting same_rules same_rule
                g.W.Sink c.lines.sink c.end.new.sink c.lines.counts c.end.new.counts before (ended_line (read ++ part)) (ended.writes before (read ++ part) more),
            stands-same g.P.Pieces c.add.new.self.setting self.setting c.end.new.self c.end.new.pieces before (read ++ part) same_setting (ended.stands before (read ++ part) more),
          ));
    }

pub lines-smaller : goal.lines-smaller
lines-smaller g c =
    let rest = c.lines.rest.now in
    let end = c.in-Some.end in
    omega (arith, ap length (take_rest rest (end + 1)), length-drop (end + 1) rest, c.in-Some.ensures.0.high)

pub returns-in_err-add-clause-stops : goal.returns-in_err-add-clause-stops
returns-in_err-add-clause-stops g c =
    let self = c.args.self.now in
    on_err c.from_residual.result _ (taken-stops g.W.Sink g.P.Pieces (AreSearchedFor g.A.Automaton self.setting.automaton) self.setting.words (line_rules self) self.setting.most (g.P.Pieces.rule c.args.pieces.now)
    self c.lines.self c.args.pieces.now c.lines.pieces c.args.sink.now c.lines.sink c.args.counts.now c.lines.counts c.args.bytes.now c.lines.rest.now c.lines.invariant.taken)

pub returns-in_err-add-clause-tells : goal.returns-in_err-add-clause-tells
returns-in_err-add-clause-tells g c =
    let told = err_from_is_err_and c.from_residual.result c.from_residual.ensures.1 in
    rw (told.1, told.2) (record { write_failed = c.lines.invariant.failures; took_nothing = c.lines.invariant.empty_writes; only = tt })

pub returns-in_err-end-clause-stops : goal.returns-in_err-end-clause-stops
returns-in_err-end-clause-stops g c =
    let inv = c.lines.invariant in
    let self = c.args.self.now in
    let rest = c.lines.rest.now in
    let end = c.in-Some.end in
    let found = c.in-Some.ensures in
    let part = take end rest in
    let added = c.in_ok-add.ensures in
    on_err c.from_residual-in_err-end.result _ (taken-breaks g.W.Sink g.P.Pieces (AreSearchedFor g.A.Automaton self.setting.automaton) self.setting.words (line_rules self) self.setting.most (g.P.Pieces.rule c.args.pieces.now)
    self c.lines.self c.args.pieces.now c.lines.pieces c.args.sink.now c.lines.sink c.args.counts.now c.lines.counts c.args.bytes.now rest inv.taken
    c.end.new.sink c.end.new.counts part (drop (end + 1) rest)
    (none-before rest end (omega (arith, found.0.high)) found.0.before)
    (parts-found rest (drop (end + 1) rest) end found.0.high found.1 refl)
    (λ b r st.
    let more = stands-more g.P.Pieces c.lines.self c.add.new.self c.lines.pieces c.add.new.pieces b r part st added.marker (added.read r st.has) in
    stops-same g.A.Automaton c.add.new.self.setting self.setting (line_rules c.add.new.self) (line_rules self) (g.P.Pieces.rule c.add.new.pieces) (g.P.Pieces.rule c.args.pieces.now)
    (added.setting ∙ inv.setting) (ap marker_rules added.marker ∙ inv.rules) (added.rule ∙ inv.rule)
    g.W.Sink c.lines.sink c.end.new.sink c.lines.counts c.end.new.counts b (ended_line (r ++ part)) (c.in_err-end.ensures.stops b (r ++ part) more)))

pub returns-in_err-end-clause-tells : goal.returns-in_err-end-clause-tells
returns-in_err-end-clause-tells g c =
    let inv = c.lines.invariant in
    let told = err_from_is_err_and c.from_residual-in_err-end.result c.from_residual-in_err-end.ensures.1 in
    rw (told.1, told.2) (tells-same g.W.Sink (line_rules c.add.new.self) (line_rules c.args.self.now) c.args.sink.now c.lines.sink c.end.new.sink _ (ap marker_rules c.in_ok-add.ensures.marker ∙ inv.rules) inv.failures inv.empty_writes c.in_err-end.ensures.tells)

pub returns-clause-writes : goal.returns-clause-writes
returns-clause-writes g c =
    let inv = c.lines.invariant in
    let self = c.args.self.now in
    let rest = c.lines.rest.now in
    let added = c.in_ok-add-2.ensures in
    taken-all g.W.Sink g.P.Pieces (AreSearchedFor g.A.Automaton self.setting.automaton) self.setting.words (line_rules self) self.setting.most (g.P.Pieces.rule c.args.pieces.now)
    self c.lines.self c.args.pieces.now c.lines.pieces c.args.sink.now c.lines.sink c.args.counts.now c.lines.counts c.args.bytes.now rest inv.taken
    c.add-2.new.self c.add-2.new.pieces c.in_default.ensures
    (λ b r st. stands-more g.P.Pieces c.lines.self c.add-2.new.self c.lines.pieces c.add-2.new.pieces b r rest st added.marker (added.read r st.has))

pub returns-clause-tells : goal.returns-clause-tells
returns-clause-tells g c = record { write_failed = c.lines.invariant.failures; took_nothing = c.lines.invariant.empty_writes; only = tt }

pub returns-in_err-add-2-clause-stops : goal.returns-in_err-add-2-clause-stops
returns-in_err-add-2-clause-stops g c =
    let self = c.args.self.now in
    on_err c.from_residual-in_err-add-2.result _ (taken-stops g.W.Sink g.P.Pieces (AreSearchedFor g.A.Automaton self.setting.automaton) self.setting.words (line_rules self) self.setting.most (g.P.Pieces.rule c.args.pieces.now)
    self c.lines.self c.args.pieces.now c.lines.pieces c.args.sink.now c.lines.sink c.args.counts.now c.lines.counts c.args.bytes.now c.lines.rest.now c.lines.invariant.taken)
