-- What is found tells which pattern is the whole line, and the searcher's match kind is that of its patterns.
use Rattle.acgrep.proofs.Common.{IsAnswer, plain_search}
use Rattle.std.proofs.Common.{◌∙◌, None, Some, subst, sym}
use Rattle.acgrep.specs.Alone.{IsWholeOrNone}
use Rattle.acgrep.proofs.WholeLines.{best_whole}
use Rattle.acgrep.proofs.whole.find_whole.Goals as goal

pub returns-in-Some : goal.returns-in-Some
returns-in-Some c = record {
  whole = λ p is.
      let line = c.args.line.now in
      let best : IsAnswer p (plain_search line) (Some c.in-Some.found) = subst (IsAnswer p (plain_search line)) c.in-Some.is (c.in_ok-found-in-LeftmostLongest.ensures.found p is) in
      subst (IsWholeOrNone p line) (sym c.whole_match.ensures.whole) (best_whole p line c.in-Some.found (sym (c.match_kind.ensures.patterns p is) ∙ c.in-LeftmostLongest.is) best);
}

pub returns-in-None : goal.returns-in-None
returns-in-None c = record {
  whole = λ p is other whole.
      let none : IsAnswer p (plain_search c.args.line.now) None = subst (IsAnswer p (plain_search c.args.line.now)) c.in-None.is (c.in_ok-found-in-LeftmostLongest.ensures.found p is) in
      none other whole.occurs;
}
