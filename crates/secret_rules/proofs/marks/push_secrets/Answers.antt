use Rattle.std.proofs.Common.{◌≡◌, ◌∙◌, ◌++◌, ◌+◌, ◌∷◌, List, ℕ, map, false, refl, sym, ap}
use Rattle.std.proofs.lemmas.List.{append-nil}
use Rattle.regex.specs.Patterns.{Match}
use Rattle.regex.specs.Search.{matches_after}
use Rattle.regex.proofs.SearchLemmas.{matches_after_none}
use Rattle.secret_rules.specs.Expressions.{expression_of, group_total}
use Rattle.secret_rules.specs.MarkLists.{mark_at, marks_at}
use Rattle.secret_rules.specs.Secrets.{secret_in}
use Rattle.secret_rules.specs.declared.marks.Mark.{Mark}
use Rattle.secret_rules.proofs.Matching.{added-first, added-next, matches_after-next}
use Rattle.secret_rules.proofs.marks.push_secrets.Goals as goal

-- the marks that are made of some matches
made : ℕ → ℕ → List ℕ → List Match → List Mark
made rule named source ms = marks_at rule (map (secret_in named (group_total source)) ms)

pub matches-init : goal.matches-init
unfolding made
matches-init c = record {
  same = refl;
  added = added-first (made c.args.rule c.args.named c.args.reader.now) (expression_of c.args.reader.now) c.args.line.now c.args.marks.now.items;
}

pub matches-preserved : goal.matches-preserved
unfolding made
matches-preserved c =
    let source = c.args.reader.now in
    let found = rw c.matches.invariant.same at c.in-Some.ensures.found in
    let m = found.0 in
    let rest = matches_after false (expression_of source) c.args.line.now (c.in-Some.found.whole.1 + 1) in
    let one : made c.args.rule c.args.named source (m ∷ rest) ≡ mark_at c.args.rule c.in-Some.found.secret ++ made c.args.rule c.args.named source rest =
    ap (λ (s : ℕ × ℕ). mark_at c.args.rule s ++ made c.args.rule c.args.named source rest) (sym found.2.1) in
    record {
      same = c.in-Some.ensures.same ∙ c.matches.invariant.same;
      added = added-next (made c.args.rule c.args.named source) (mark_at c.args.rule c.in-Some.found.secret) _ rest m c.matches.marks.items _ _
          (matches_after-next (expression_of source) c.args.line.now c.matches.after m c.in-Some.found.whole found.1 found.2.0)
          one c.matches.invariant.added c.in_ok-push_mark.ensures;
    }

pub returns-clause-marks : goal.returns-clause-marks
returns-clause-marks c =
    let source = c.args.reader.now in
    let none = rw c.matches.invariant.same at c.in_default.ensures.found in
    let left = matches_after_none (expression_of source) c.args.line.now false c.matches.after none in
    sym (append-nil c.matches.marks.items)
    ∙ sym (ap (λ (ms : List Match). c.matches.marks.items ++ marks_at c.args.rule (map (secret_in c.args.named (group_total source)) ms)) left)
    ∙ c.matches.invariant.added
