-- Some bytes, and a beginning of the piece behind them.
use Rattle.aho_cover.proofs.Written.{appends_then, if_err}
use Rattle.secret_rules.proofs.writing.write_both.Goals as goal

pub returns-clause-beginning : goal.returns-clause-beginning
returns-clause-beginning g c = if_err c.write_whole-2.result _ _ (appends_then _ _ _ c.args.bytes.now c.args.more.now c.in_ok-write_whole.ensures.whole) c.write_whole-2.ensures.beginning
