-- What is told of a line is put together, and the walk is behind it.
use Rattle.acgrep.proofs.Common.{lt-ltb}
use Rattle.std.proofs.Common.{◌++◌, ◌∙◌, ◌≡◌, List, ap, append_assoc, arith, inl, inr, refl, ℕ}
use Rattle.std.specs.Prelude.{nat_lt}
use Rattle.acgrep.specs.Contexts.{Holding}
use Rattle.acgrep.specs.Searched.{between_by}
use Rattle.acgrep.proofs.Grouped.{walk_same}
use Rattle.acgrep.proofs.context.take_line.Goals as goal

pub returns-then-branch : goal.returns-then-branch
returns-then-branch c = record {
  steps = λ p is.
      let parted = between_by c.args.query.now.job c.args.context.now c.args.state.now.trail in
      let (more, selected) = rw c.if-branch.true at c.in_ok-is_chosen.ensures.chosen p is in
      let (before, each, held) = rw c.beside.ensures.beside at c.in_ok-put_each_line.ensures.shown p is in
      let (shown, shows, put) = c.in_ok-put_shown.ensures.shown p is in
      inl (record {
        more = more;
        selected = selected;
        shows = (before, shown, each, shows, put ∙ ap (λ (l : List ℕ). l ++ shown) (held ∙ ap (λ (l : List ℕ). l ++ before) (c.in_ok-put_between.ensures.written ∙ ap (λ (l : List ℕ). l ++ parted) c.clear.ensures.items)) ∙ append_assoc parted before shown);
        behind = walk_same _ _ c.behind_line-state.ensures.place c.saturating_add-state.ensures c.restart.ensures.due c.restart.ensures.some c.restart.ensures.apart c.restart.ensures.first c.restart.ensures.held;
      });
}

pub returns-then-state-gt0 : goal.returns-then-state-gt0
returns-then-state-gt0 c = record {
  steps = λ p is.
      let (bytes, shows, put) = rw c.beside-then-state-gt0.ensures.beside at c.in_ok-put_shown-2.ensures.shown p is in
      inr (record {
        passed = rw c.if-branch.false at c.in_ok-is_chosen.ensures.chosen p is;
        passes = rw (lt-ltb 0 _ c.if-state-gt0.true) (rw (put, c.clear.ensures.items) shows, walk_same _ _ c.behind_line-state.ensures.place refl refl refl refl refl refl);
      });
}

pub returns : goal.returns
returns c = record {
  steps = λ p is.
      let past : c.args.state.now.trail.due ≡ 0 = omega (arith, c.if-state-gt0.false) in
      let held = c.in_ok-hold.ensures.held in
      inr (record {
        passed = rw c.if-branch.false at c.in_ok-is_chosen.ensures.chosen p is;
        passes = rw (ap (nat_lt 0) past) (
          c.clear.ensures.items,
          walk_same _ _ c.behind_line-state.ensures.place refl c.in_ok-hold.ensures.due c.in_ok-hold.ensures.some
              (ap (λ (h : Holding). h.apart) held) (ap (λ (h : Holding). h.first) held) (ap (λ (h : Holding). h.held) held),
        );
      });
}
