use Rattle.std.proofs.Common.{◌≡◌, ◌∙◌, ◌++◌, ◌+◌, ◌∷◌, List, ℕ, map, false, refl, sym, ap, IsTrue}
use Rattle.std.proofs.lemmas.List.{append-nil}
use Rattle.regex.specs.Patterns.{Match, span}
use Rattle.regex.specs.Search.{matches_after}
use Rattle.regex.proofs.SearchLemmas.{matches_after_none}
use Rattle.secret_rules.specs.Expressions.{expression_of}
use Rattle.secret_rules.specs.MarkLists.{mark_at, marks_at, onward}
use Rattle.secret_rules.specs.declared.marks.Mark.{Mark}
use Rattle.secret_rules.proofs.Matching.{added-first, added-next, matches_after-next, open-next, open-first, open-last}
use Rattle.secret_rules.proofs.marks.push_onward.Goals as goal

-- the marks that are made of some matches
made : ℕ → List ℕ → List Match → List Mark
made rule line ms = marks_at rule (map (onward line) (map span ms))

pub matches-init : goal.matches-init
unfolding made
matches-init c = record {
  same = refl;
  added = added-first (made c.args.rule c.args.line.now) (expression_of c.args.reader.now) c.args.line.now c.args.marks.now.items;
  opened = open-first c.args.text.now c.args.line.now (expression_of c.args.reader.now);
}

pub matches-preserved : goal.matches-preserved
unfolding made
matches-preserved c =
    let source = c.args.reader.now in
    let line = c.args.line.now in
    let found = rw c.matches.invariant.same at c.in-Some.ensures.found in
    let m = found.0 in
    let rest = matches_after false (expression_of source) line (c.in-Some.found.whole.1 + 1) in
    let list = matches_after-next (expression_of source) line c.matches.after m c.in-Some.found.whole found.1 found.2.0 in
    let one : made c.args.rule line (m ∷ rest) ≡ mark_at c.args.rule (onward line c.in-Some.found.whole) ++ made c.args.rule line rest =
    ap (λ (s : ℕ × ℕ). mark_at c.args.rule (onward line s) ++ made c.args.rule line rest) (sym found.2.0) in
    record {
      same = c.in-Some.ensures.same ∙ c.matches.invariant.same;
      added = added-next (made c.args.rule line) (mark_at c.args.rule (onward line c.in-Some.found.whole)) _ rest m c.matches.marks.items _ _
          list one c.matches.invariant.added c.in_ok-push_mark.ensures;
      opened = open-next c.args.text.now line (IsTrue c.matches.goes_on) (IsTrue c.opens-goes_on.result) m _ rest _ list c.matches.invariant.opened
          (rw found.2.0 at c.opens-goes_on.ensures);
    }

pub returns-clause-marks : goal.returns-clause-marks
returns-clause-marks c =
    let none = rw c.matches.invariant.same at c.in_default.ensures.found in
    let left = matches_after_none (expression_of c.args.reader.now) c.args.line.now false c.matches.after none in
    sym (append-nil c.matches.marks.items)
    ∙ sym (ap (λ (ms : List Match). c.matches.marks.items ++ marks_at c.args.rule (map (onward c.args.line.now) (map span ms))) left)
    ∙ c.matches.invariant.added

pub returns-clause-goes_on : goal.returns-clause-goes_on
returns-clause-goes_on c =
    let none = rw c.matches.invariant.same at c.in_default.ensures.found in
    let left = matches_after_none (expression_of c.args.reader.now) c.args.line.now false c.matches.after none in
    open-last c.args.text.now c.args.line.now (IsTrue c.matches.goes_on) _ _ left c.matches.invariant.opened
