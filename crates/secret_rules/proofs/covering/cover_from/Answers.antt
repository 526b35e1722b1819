use Rattle.std.proofs.Common.{◌≡◌, ◌==◌, ◌∙◌, ℕ, Bool, true, false, refl, sym, subst, arith, ne_eqb}
use Rattle.std.proofs.lemmas.Result.{err_from_is_err_and}
use Rattle.std.specs.Io.KnownBytes.{Consumes}
use Rattle.aho_devices.specs.Counts.{counted}
use Rattle.aho_cover.proofs.Written.{if_err, if_ok}
use Rattle.secret_rules.specs.Lines.{last_line}
use Rattle.secret_rules.specs.OpenLines.{line_rules}
use Rattle.secret_rules.specs.LineCovers.{AreSearchedFor}
use Rattle.secret_rules.specs.declared.error.LineError.TheVariants.{Stream}
use Rattle.secret_rules.proofs.Same.{all-stop-same, goes-same, setting-same, stops-same, tells-same, writes-same}
use Rattle.secret_rules.proofs.Streaming.{errors-line, errors-read, going-begins, going-covers, going-ends, going-first, going-kept, going-more, going-read, going-stops, going-whole, leaves-ended, leaves-read, leaves-written, line-fails, line-unread, lines-fail, lines-unread, no-bytes, read-fails, tells-flush}
use Rattle.secret_rules.proofs.covering.cover_from.Goals as goal

pub reads-init : goal.reads-init
reads-init g c = record {
  setting = refl;
  rules = refl;
  rule = refl;
  read_failures = refl;
  failures = refl;
  empty_writes = refl;
  within = omega arith;
  going = going-first g.R.Source g.W.Sink g.P.Pieces (AreSearchedFor g.A.Automaton c.args.line.now.setting.automaton) c.args.line.now.setting.words (line_rules c.args.line.now) c.args.line.now.setting.most (g.P.Pieces.rule c.args.pieces.now)
      c.args.source.now c.args.sink.now c.args.counts.now c.args.line.now c.args.pieces.now c.requires.unbegun;
}

-- the sink did not flush
pub returns-in_err-flush-clause-leaves : goal.returns-in_err-flush-clause-leaves
returns-in_err-flush-clause-leaves g c =
    let told = err_from_is_err_and c.from_residual.result c.from_residual.ensures.1 in
    let going = going-kept _ _ _ _ _ _ _ _ _ _ _ _ _ _ _ c.flush.new.self _ c.reads.invariant.going c.in_err-flush.ensures.kept in
    rw (told.1, told.2) (leaves-written _ _ _ _ _ _ _ _ _ _ _ _ _ _ (going-begins _ _ _ _ _ _ _ _ _ _ _ _ _ _ _ _ going) (line-unread (line_rules c.args.line.now) (Stream c.in_err-flush.field-0.0) c.in_err-flush.ensures.only))

pub returns-in_err-flush-clause-errors : goal.returns-in_err-flush-clause-errors
returns-in_err-flush-clause-errors g c =
    let inv = c.reads.invariant in
    let flushed = c.in_err-flush.ensures in
    let told = err_from_is_err_and c.from_residual.result c.from_residual.ensures.1 in
    rw (told.1, told.2) (errors-line g.R.Source g.W.Sink (line_rules c.args.line.now) c.args.source.now c.reads.source c.args.sink.now c.reads.sink inv.read_failures inv.failures inv.empty_writes c.flush.new.self _
    (tells-flush g.W.Sink (line_rules c.args.line.now) c.reads.sink c.flush.new.self _ flushed.failures flushed.empty_writes flushed.only))

pub returns-in_err-flush-clause-only : goal.returns-in_err-flush-clause-only
returns-in_err-flush-clause-only g c =
    let told = err_from_is_err_and c.from_residual.result c.from_residual.ensures.1 in
    rw (told.1, told.2) (line-fails (line_rules c.args.line.now) (Stream c.in_err-flush.field-0.0) c.in_err-flush.ensures.only)

-- no read was made, or it failed
pub returns-in_err-more-clause-leaves : goal.returns-in_err-more-clause-leaves
returns-in_err-more-clause-leaves g c =
    let refilled = c.in_err-more.ensures in
    let told = err_from_is_err_and c.from_residual-in_err-more.result c.from_residual-in_err-more.ensures.1 in
    let flushed = going-kept _ _ _ _ _ _ _ _ _ _ _ _ _ _ _ c.flush.new.self _ c.reads.invariant.going c.in_ok-flush.ensures.kept in
    let read = subst (Consumes (g.R.Source.remaining c.reads.source) (g.R.Source.remaining c.refill.new.source)) refilled.nothing refilled.given in
    let going = going-read _ _ _ _ _ _ _ _ _ _ _ _ _ _ c.refill.new.source _ _ flushed read refilled.ended in
    rw (told.1, told.2) (leaves-read _ _ _ _ _ _ _ _ _ _ _ _ _ _ (going-begins _ _ _ _ _ _ _ _ _ _ _ _ _ _ _ _ going) (going-whole _ _ _ _ _ _ _ _ _ _ _ _ _ _ _ _ going))

pub returns-in_err-more-clause-errors : goal.returns-in_err-more-clause-errors
returns-in_err-more-clause-errors g c =
    let inv = c.reads.invariant in
    let flushed = c.in_ok-flush.ensures in
    let told = err_from_is_err_and c.from_residual-in_err-more.result c.from_residual-in_err-more.ensures.1 in
    rw (told.1, told.2) (errors-read g.R.Source g.W.Sink (line_rules c.args.line.now) c.args.source.now c.reads.source c.args.sink.now c.flush.new.self inv.read_failures (flushed.failures ∙ inv.failures) (flushed.empty_writes ∙ inv.empty_writes)
    c.refill.new.source _ c.in_err-more.ensures.read_failed c.in_err-more.ensures.only)

pub returns-in_err-more-clause-only : goal.returns-in_err-more-clause-only
returns-in_err-more-clause-only g c =
    let told = err_from_is_err_and c.from_residual-in_err-more.result c.from_residual-in_err-more.ensures.1 in
    rw (told.1, told.2) (read-fails (line_rules c.args.line.now) _ c.in_err-more.ensures.only)

-- the source has ended
pub end-requires-clause-setting : goal.end-requires-clause-setting
end-requires-clause-setting g c =
    let inv = c.reads.invariant in
    setting-same g.A.Automaton _ _ _ _ (sym inv.setting) (sym inv.rules) c.requires.setting

pub end-requires-clause-stands : goal.end-requires-clause-stands
end-requires-clause-stands g c = let going = c.reads.invariant.going in (going.before, going.read, going.stands)

pub returns-then-more-eq0-clause-leaves : goal.returns-then-more-eq0-clause-leaves
returns-then-more-eq0-clause-leaves g c =
    let inv = c.reads.invariant in
    let line = c.args.line.now in
    let now = c.reads.line in
    let G = g.A.Automaton in
    let refilled = c.in_ok-more.ensures in
    let flushed = going-kept _ _ _ _ _ _ _ _ _ _ _ _ _ _ _ c.flush.new.self _ inv.going c.in_ok-flush.ensures.kept in
    let none = no-bytes c.refill.new.buffer.bytes (refilled.told ∙ c.if-more-eq0.true) in
    let read = subst (Consumes (g.R.Source.remaining c.reads.source) (g.R.Source.remaining c.refill.new.source)) none refilled.given in
    let ended = subst (λ (n : ℕ). g.R.Source.empty_reads c.refill.new.source ≡ counted (n == 0) (g.R.Source.empty_reads c.reads.source)) c.if-more-eq0.true refilled.ended in
    let tells = tells-same g.W.Sink (line_rules now) (line_rules line) c.flush.new.self c.flush.new.self c.end.new.sink c.end.result inv.rules refl refl c.end.ensures.tells in
    leaves-ended _ _ _ _ _ _ _ _ _ _ c.refill.new.source c.end.new.sink c.end.new.counts c.end.result
    (if_ok c.end.result _ _ (λ writes. going-covers _ _ _ _ _ _ _ _ _ _ _ _ _ _ _ _ _ _ _ flushed read ended
    (writes-same G now.setting line.setting (line_rules now) (line_rules line) _ _ inv.setting inv.rules inv.rule g.W.Sink c.flush.new.self c.end.new.sink c.reads.counts c.end.new.counts flushed.before (last_line flushed.read) (writes flushed.before flushed.read flushed.stands)))
    c.end.ensures.writes)
    (if_err c.end.result _ _ (λ stops. going-ends _ _ _ _ _ _ _ _ _ _ _ _ _ _ _ _ _ _ _ flushed read ended
    (stops-same G now.setting line.setting (line_rules now) (line_rules line) _ _ inv.setting inv.rules inv.rule g.W.Sink c.flush.new.self c.end.new.sink c.reads.counts c.end.new.counts flushed.before (last_line flushed.read) (stops flushed.before flushed.read flushed.stands)))
    c.end.ensures.stops)
    (lines-unread (line_rules line) c.end.result tells.only)

pub returns-then-more-eq0-clause-errors : goal.returns-then-more-eq0-clause-errors
returns-then-more-eq0-clause-errors g c =
    let inv = c.reads.invariant in
    let flushed = c.in_ok-flush.ensures in
    let tells = tells-same g.W.Sink (line_rules c.reads.line) (line_rules c.args.line.now) c.flush.new.self c.flush.new.self c.end.new.sink c.end.result inv.rules refl refl c.end.ensures.tells in
    errors-line g.R.Source g.W.Sink (line_rules c.args.line.now) c.args.source.now c.refill.new.source c.args.sink.now c.flush.new.self (c.in_ok-more.ensures.read_failed ∙ inv.read_failures) (flushed.failures ∙ inv.failures)
    (flushed.empty_writes ∙ inv.empty_writes) c.end.new.sink c.end.result tells

pub returns-then-more-eq0-clause-only : goal.returns-then-more-eq0-clause-only
returns-then-more-eq0-clause-only g c =
    let inv = c.reads.invariant in
    let tells = tells-same g.W.Sink (line_rules c.reads.line) (line_rules c.args.line.now) c.flush.new.self c.flush.new.self c.end.new.sink c.end.result inv.rules refl refl c.end.ensures.tells in
    lines-fail (line_rules c.args.line.now) c.end.result tells.only

-- more was read
pub take_in-requires-clause-setting : goal.take_in-requires-clause-setting
take_in-requires-clause-setting g c =
    let inv = c.reads.invariant in
    setting-same g.A.Automaton _ _ _ _ (sym inv.setting) (sym inv.rules) c.requires.setting

pub take_in-requires-clause-stands : goal.take_in-requires-clause-stands
take_in-requires-clause-stands g c = let going = c.reads.invariant.going in (going.before, going.read, going.stands)

pub returns-in_err-take_in-clause-leaves : goal.returns-in_err-take_in-clause-leaves
returns-in_err-take_in-clause-leaves g c =
    let inv = c.reads.invariant in
    let line = c.args.line.now in
    let now = c.reads.line in
    let refilled = c.in_ok-more.ensures in
    let told = err_from_is_err_and c.from_residual-in_err-take_in.result c.from_residual-in_err-take_in.ensures.1 in
    let flushed = going-kept _ _ _ _ _ _ _ _ _ _ _ _ _ _ _ c.flush.new.self _ inv.going c.in_ok-flush.ensures.kept in
    let bytes = c.buffer.result.now in
    let read = subst (Consumes (g.R.Source.remaining c.reads.source) (g.R.Source.remaining c.refill.new.source)) (sym c.buffer.ensures.bytes) refilled.given in
    let ended = subst (λ (b : Bool). g.R.Source.empty_reads c.refill.new.source ≡ counted b (g.R.Source.empty_reads c.reads.source)) (ne_eqb c.in_ok-more.more 0 c.if-more-eq0.false) refilled.ended in
    let tells = tells-same g.W.Sink (line_rules now) (line_rules line) c.flush.new.self c.flush.new.self c.take_in.new.sink _ inv.rules refl refl c.in_err-take_in.ensures.tells in
    rw (told.1, told.2) (leaves-written _ _ _ _ _ _ _ _ _ _ _ _ _ _
    (going-stops _ _ _ _ _ _ _ _ _ _ _ _ _ _ _ _ _ _ _ bytes flushed read ended
    (all-stop-same g.A.Automaton now.setting line.setting (line_rules now) (line_rules line) _ _ inv.setting inv.rules inv.rule g.W.Sink c.flush.new.self c.take_in.new.sink c.reads.counts c.take_in.new.counts flushed.before flushed.read bytes
    (c.in_err-take_in.ensures.stops flushed.before flushed.read flushed.stands)))
    (line-unread (line_rules line) _ tells.only))

pub returns-in_err-take_in-clause-errors : goal.returns-in_err-take_in-clause-errors
returns-in_err-take_in-clause-errors g c =
    let inv = c.reads.invariant in
    let flushed = c.in_ok-flush.ensures in
    let told = err_from_is_err_and c.from_residual-in_err-take_in.result c.from_residual-in_err-take_in.ensures.1 in
    let tells = tells-same g.W.Sink (line_rules c.reads.line) (line_rules c.args.line.now) c.flush.new.self c.flush.new.self c.take_in.new.sink _ inv.rules refl refl c.in_err-take_in.ensures.tells in
    rw (told.1, told.2) (errors-line g.R.Source g.W.Sink (line_rules c.args.line.now) c.args.source.now c.refill.new.source c.args.sink.now c.flush.new.self (c.in_ok-more.ensures.read_failed ∙ inv.read_failures) (flushed.failures ∙ inv.failures)
    (flushed.empty_writes ∙ inv.empty_writes) c.take_in.new.sink _ tells)

pub returns-in_err-take_in-clause-only : goal.returns-in_err-take_in-clause-only
returns-in_err-take_in-clause-only g c =
    let inv = c.reads.invariant in
    let told = err_from_is_err_and c.from_residual-in_err-take_in.result c.from_residual-in_err-take_in.ensures.1 in
    let tells = tells-same g.W.Sink (line_rules c.reads.line) (line_rules c.args.line.now) c.flush.new.self c.flush.new.self c.take_in.new.sink _ inv.rules refl refl c.in_err-take_in.ensures.tells in
    rw (told.1, told.2) (line-fails (line_rules c.args.line.now) _ tells.only)

pub reads-preserved : goal.reads-preserved
reads-preserved g c =
    let inv = c.reads.invariant in
    let line = c.args.line.now in
    let now = c.reads.line in
    let refilled = c.in_ok-more.ensures in
    let flush = c.in_ok-flush.ensures in
    let took = c.in_ok-take_in.ensures in
    let flushed = going-kept _ _ _ _ _ _ _ _ _ _ _ _ _ _ _ c.flush.new.self _ inv.going flush.kept in
    let bytes = c.buffer.result.now in
    let read = subst (Consumes (g.R.Source.remaining c.reads.source) (g.R.Source.remaining c.refill.new.source)) (sym c.buffer.ensures.bytes) refilled.given in
    let ended = subst (λ (b : Bool). g.R.Source.empty_reads c.refill.new.source ≡ counted b (g.R.Source.empty_reads c.reads.source)) (ne_eqb c.in_ok-more.more 0 c.if-more-eq0.false) refilled.ended in
    record {
      setting = took.setting ∙ inv.setting;
      rules = took.rules ∙ inv.rules;
      rule = took.rule ∙ inv.rule;
      read_failures = refilled.read_failed ∙ inv.read_failures;
      failures = took.tells.write_failed ∙ flush.failures ∙ inv.failures;
      empty_writes = took.tells.took_nothing ∙ flush.empty_writes ∙ inv.empty_writes;
      within = refilled.limited;
      going = going-more _ _ _ _ _ _ _ _ _ _ _ _ _ _ _ _ _ _ _ _ _ bytes flushed read ended
          (goes-same g.A.Automaton now.setting line.setting (line_rules now) (line_rules line) _ _ inv.setting inv.rules inv.rule g.W.Sink c.flush.new.self c.take_in.new.sink c.reads.counts c.take_in.new.counts flushed.before
          g.P.Pieces c.take_in.new.self c.take_in.new.pieces flushed.read bytes (took.writes flushed.before flushed.read flushed.stands));
    }

pub reads-smaller : goal.reads-smaller
reads-smaller g c = omega (arith, c.if-more-eq0.false, c.in_ok-more.ensures.limited)
