use Rattle.std.proofs.Common.{refl}
use Rattle.std.proofs.lemmas.Result.{err_from_is_err_and}
use Rattle.aho_cover.proofs.Written.{on_err}
use Rattle.secret_rules.specs.LineCovers.{AreSearchedFor}
use Rattle.secret_rules.specs.Lines.{line_with}
use Rattle.secret_rules.specs.OpenLines.{line_rules}
use Rattle.secret_rules.proofs.Ending.{long-stopped, long-written, marked-long, stands-next, stops-none, tells-mark, tells-ok, tells-stream, whole-numbered}
use Rattle.secret_rules.proofs.open_line.OpenLine.end_long.Goals as goal

pub returns-in_err-mark-clause-stops : goal.returns-in_err-mark-clause-stops
returns-in_err-mark-clause-stops g c =
    let self = c.args.self.now in
    on_err c.from_residual.result _ (λ before read stands. stops-none g.W.Sink (AreSearchedFor g.A.Automaton self.setting.automaton) self.setting.words (line_rules self) self.setting.most (g.P.Pieces.rule c.args.pieces.now)
    c.args.sink.now c.args.counts.now before (line_with read c.args.end.now))

pub returns-in_err-mark-clause-tells : goal.returns-in_err-mark-clause-tells
returns-in_err-mark-clause-tells g c =
    let told = err_from_is_err_and c.from_residual.result c.from_residual.ensures.1 in
    rw (told.1, told.2) (tells-mark g.W.Sink (line_rules c.args.self.now) c.args.sink.now c.in_err-mark.field-0.0 c.in_err-mark.ensures.refused)

pub returns-in_err-write_piece-clause-stops : goal.returns-in_err-write_piece-clause-stops
returns-in_err-write_piece-clause-stops g c =
    let self = c.args.self.now in
    on_err c.from_residual-in_err-write_piece.result _ (λ before read stands. long-stopped g.W.Sink (AreSearchedFor g.A.Automaton self.setting.automaton) self.setting.words (line_rules self) self.setting.most (g.P.Pieces.rule c.args.pieces.now)
    c.args.sink.now c.write_piece.new.sink c.args.counts.now before read c.args.end.now self.setting.whole (stands.has.fed c.requires.long).1
    (whole-numbered g.A.Automaton self.setting (line_rules self) c.requires.setting) (c.in_err-write_piece.ensures.beginning read (stands.has.fed c.requires.long).0))

pub returns-in_err-write_piece-clause-tells : goal.returns-in_err-write_piece-clause-tells
returns-in_err-write_piece-clause-tells g c =
    let told = err_from_is_err_and c.from_residual-in_err-write_piece.result c.from_residual-in_err-write_piece.ensures.1 in
    rw (told.1, told.2) (tells-stream g.W.Sink (line_rules c.args.self.now) c.args.sink.now c.write_piece.new.sink c.in_err-write_piece.field-0.0 c.in_err-write_piece.ensures.tells)

pub returns-clause-writes : goal.returns-clause-writes
returns-clause-writes g c = λ before read stands.
    let self = c.args.self.now in
    let fed = stands.has.fed c.requires.long in
    long-written g.W.Sink (AreSearchedFor g.A.Automaton self.setting.automaton) self.setting.words (line_rules self) self.setting.most (g.P.Pieces.rule c.args.pieces.now)
    c.args.sink.now c.write_piece.new.sink c.args.counts.now c.count_number.new.counts before read c.args.end.now self.setting.whole fed.1
    (whole-numbered g.A.Automaton self.setting (line_rules self) c.requires.setting) (c.in_ok-write_piece.ensures.whole read fed.0) c.count_number.ensures.counted

pub returns-clause-stands : goal.returns-clause-stands
returns-clause-stands g c = λ before read stands.
    let fed = stands.has.fed c.requires.long in
    stands-next g.P.Pieces _ c.write_piece.new.pieces _
    (marked-long c.mark.new.self before c.args.self.now.setting.most read fed.1 (c.in_ok-mark.ensures.marked before stands.marked)) c.clear.ensures.items refl

pub returns-clause-tells : goal.returns-clause-tells
returns-clause-tells g c = tells-ok g.W.Sink (line_rules c.args.self.now) c.args.sink.now c.write_piece.new.sink _ c.in_ok-write_piece.ensures.tells
