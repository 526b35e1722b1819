use Rattle.std.proofs.Common.{◌≡◌, ℕ, Global, ◌∙◌, ap, arith, length}
use Rattle.std.specs.Prelude.{Vec}
use Rattle.std.proofs.lemmas.Result.{err_from_is_err_and}
use Rattle.aho_core.specs.Patterns.{Patterns}
use Rattle.aho_cover.proofs.Written.{on_err}
use Rattle.secret_rules.specs.LineCovers.{AreSearchedFor}
use Rattle.secret_rules.specs.Lines.{line_with}
use Rattle.secret_rules.specs.OpenLines.{line_rules}
use Rattle.secret_rules.proofs.Ending.{lies-told, line-stopped, line-written, marked-short, runs-told, stands-next, stops-none, tells-mark, tells-ok, tells-stream}
use Rattle.secret_rules.proofs.open_line.OpenLine.end_short.Goals as goal

pub find_runs-requires-clause-marked : goal.find_runs-requires-clause-marked
find_runs-requires-clause-marked g c = let (before, read, stands) = c.requires.stands in (before, stands.marked)

pub find_runs-requires-clause-short : goal.find_runs-requires-clause-short
find_runs-requires-clause-short g c =
    let (before, read, stands) = c.requires.stands in
    let kept = stands.has.kept c.requires.long in
    omega (arith, kept.1, ap length kept.0)

pub write_line-requires : goal.write_line-requires
write_line-requires g c = record {
  lie = lies-told c.args.self.now.line.items c.as_slice.result.now c.find_runs.new.self.runs.items c.as_slice-runs.result.now
      (c.as_slice.ensures.value ∙ ap (λ (v : Vec ℕ Global). v.items) c.in_ok-find_runs.ensures.line) c.as_slice-runs.ensures.value c.in_ok-find_runs.ensures.lie;
}

pub returns-in_err-find_runs-clause-stops : goal.returns-in_err-find_runs-clause-stops
returns-in_err-find_runs-clause-stops g c =
    let self = c.args.self.now in
    on_err c.from_residual.result _ (λ before read stands. stops-none g.W.Sink (AreSearchedFor g.A.Automaton self.setting.automaton) self.setting.words (line_rules self) self.setting.most (g.P.Pieces.rule c.args.pieces.now)
    c.args.sink.now c.args.counts.now before (line_with read c.args.end.now))

pub returns-in_err-find_runs-clause-tells : goal.returns-in_err-find_runs-clause-tells
returns-in_err-find_runs-clause-tells g c =
    let told = err_from_is_err_and c.from_residual.result c.from_residual.ensures.1 in
    rw (told.1, told.2) (tells-mark g.W.Sink (line_rules c.args.self.now) c.args.sink.now c.in_err-find_runs.field-0.0 c.in_err-find_runs.ensures.refused)

pub returns-in_err-write_line-clause-stops : goal.returns-in_err-write_line-clause-stops
returns-in_err-write_line-clause-stops g c =
    let self = c.args.self.now in
    let setting = self.setting in
    let items = c.as_slice.result.now in
    let own = c.as_slice-runs.result.now in
    let Searched : Patterns → Type 0 = AreSearchedFor g.A.Automaton setting.automaton in
    let same : items ≡ self.line.items = c.as_slice.ensures.value ∙ ap (λ (v : Vec ℕ Global). v.items) c.in_ok-find_runs.ensures.line in
    on_err c.from_residual-in_err-write_line.result _ (λ before read stands. line-stopped g.W.Sink Searched setting.words (line_rules self) setting.most (g.P.Pieces.rule c.args.pieces.now) c.args.sink.now c.write_line.new.sink c.args.counts.now
    before items read c.args.end.now own (same ∙ (stands.has.kept c.requires.long).0)
    (runs-told Searched setting.words (line_rules self) setting.most before self.line.items items c.find_runs.new.self.runs.items own same c.as_slice-runs.ensures.value (c.in_ok-find_runs.ensures.runs before stands.marked))
    c.in_err-write_line.ensures.beginning)

pub returns-in_err-write_line-clause-tells : goal.returns-in_err-write_line-clause-tells
returns-in_err-write_line-clause-tells g c =
    let told = err_from_is_err_and c.from_residual-in_err-write_line.result c.from_residual-in_err-write_line.ensures.1 in
    rw (told.1, told.2) (tells-stream g.W.Sink (line_rules c.args.self.now) c.args.sink.now c.write_line.new.sink c.in_err-write_line.field-0.0 c.in_err-write_line.ensures.tells)

pub returns-clause-writes : goal.returns-clause-writes
returns-clause-writes g c = λ before read stands.
    let self = c.args.self.now in
    let setting = self.setting in
    let items = c.as_slice.result.now in
    let own = c.as_slice-runs.result.now in
    let Searched : Patterns → Type 0 = AreSearchedFor g.A.Automaton setting.automaton in
    let same : items ≡ self.line.items = c.as_slice.ensures.value ∙ ap (λ (v : Vec ℕ Global). v.items) c.in_ok-find_runs.ensures.line in
    line-written g.W.Sink Searched setting.words (line_rules self) setting.most (g.P.Pieces.rule c.args.pieces.now) c.args.sink.now c.write_line.new.sink c.args.counts.now c.count_runs.new.counts
    before items read c.args.end.now own (same ∙ (stands.has.kept c.requires.long).0)
    (runs-told Searched setting.words (line_rules self) setting.most before self.line.items items c.find_runs.new.self.runs.items own same c.as_slice-runs.ensures.value (c.in_ok-find_runs.ensures.runs before stands.marked))
    c.in_ok-write_line.ensures.whole c.count_runs.ensures.counted

pub returns-clause-stands : goal.returns-clause-stands
returns-clause-stands g c = λ before read stands.
    let self = c.args.self.now in
    let kept = stands.has.kept c.requires.long in
    stands-next g.P.Pieces _ c.write_line.new.pieces _
    (marked-short c.find_runs.new.self.marker before self.setting.most self.line.items read kept.0 kept.1 (c.in_ok-find_runs.ensures.marked before stands.marked)) c.clear.ensures.items (c.in_ok-find_runs.ensures.long ∙ c.requires.long)

pub returns-clause-tells : goal.returns-clause-tells
returns-clause-tells g c = tells-ok g.W.Sink (line_rules c.args.self.now) c.args.sink.now c.write_line.new.sink _ c.in_ok-write_line.ensures.tells
