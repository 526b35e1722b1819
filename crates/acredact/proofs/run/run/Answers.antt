-- What the status says.
use Rattle.acredact.proofs.Common.{CheckLines, CheckTexts, RedactLines, RedactTexts, call_of}
use Rattle.acredact.proofs.Given.{forms_fit}
use Rattle.acredact.proofs.Hiding.{call_hides}
use Rattle.acredact.proofs.RuledCalls.{counts_by_rules}
use Rattle.acredact.proofs.run.run.Goals as goal

pub returns : goal.returns
returns g c =
    let call = c.answer_to.ensures in
    record {
      wrong = call.wrong;
      unread = λ wrong. (call.idle wrong).unread;
      unwritten = λ wrong. (call.idle wrong).unwritten;
      tells_wrong = call.tells_wrong;
      patternless = λ given right asks. (call.says given right RedactTexts asks).patternless;
      idle = λ given right asks. (call.says given right RedactTexts asks).idle;
      check_patternless = λ given right asks. (call.says given right CheckTexts asks).patternless;
      check_idle = λ given right asks none. record { unread = (call.says given right CheckTexts asks).unread none; unwritten = (call.says given right CheckTexts asks).unwritten };
      redacts = λ given right asks zero. ((call.says given right RedactTexts asks).says.done zero).all;
      hides = λ given right asks forms zero.
          call_hides g.W.Write (call_of g.F.Folder c.args.folder.now given) _ _ _ _ (forms_fit _ given right forms) ((call.says given right RedactTexts asks).says.done zero).all;
      begins = λ given right asks. (call.says given right RedactTexts asks).says.begun;
      strict = λ given right asks refuses zero. ((call.says given right RedactTexts asks).says.done zero).strict refuses;
      quiet = λ given right asks none zero. ((call.says given right RedactTexts asks).says.done zero).quiet none;
      counts = λ given right asks some zero. ((call.says given right RedactTexts asks).says.done zero).counts some;
      tells = λ given right asks. (call.says given right RedactTexts asks).says.tells;
      numbers = λ given right asks. (call.says given right RedactTexts asks).numbers;
      unmatched = λ given right asks. (call.says given right CheckTexts asks).says.unmatched;
      matched = λ given right asks. (call.says given right CheckTexts asks).says.matched;
      unchecked = λ given right asks. (call.says given right CheckTexts asks).says.tells;
      check_quiet = λ given right asks. (call.says given right CheckTexts asks).says.quiet;
      check_unwritten = λ given right asks. (call.says given right CheckTexts asks).unwritten;
      ruled = λ given right asks zero. ((call.says given right RedactLines asks).done zero).0;
      ruled_begins = λ given right asks. (call.says given right RedactLines asks).begun;
      ruled_tells = λ given right asks. (call.says given right RedactLines asks).tells;
      ruled_quiet = λ given right asks zero. ((call.says given right RedactLines asks).done zero).1;
      ruled_counts = λ given right asks zero counted. counts_by_rules g.E.Sink (call_of g.F.Folder c.args.folder.now given) _ _ _ _ counted ((call.says given right RedactLines asks).done zero).1;
      rules_unmatched = λ given right asks. (call.says given right CheckLines asks).says.unmatched;
      rules_matched = λ given right asks. (call.says given right CheckLines asks).says.matched;
      rules_findings = λ given right asks. (call.says given right CheckLines asks).begins;
      rules_unwritten = λ given right asks. (call.says given right CheckLines asks).unwritten;
      rules_unchecked = λ given right asks. (call.says given right CheckLines asks).says.tells;
      rules_check_quiet = λ given right asks. (call.says given right CheckLines asks).says.quiet;
      rules_flushed = λ given right asks. (call.says given right CheckLines asks).flushed;
      flushed = call.flushed;
      bound = call.bound;
      one = call.one;
    }
