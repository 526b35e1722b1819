-- One line more is put together.
use Rattle.acgrep.proofs.Common.{Appends-nil, Appends-trans}
use Rattle.std.proofs.Common.{◌++◌, ◌<◌, ◌≡◌, List, [], ap, arith, drop, length, refl, sym, ℕ}
use Rattle.std.proofs.lemmas.List.{drop_all}
use Rattle.acgrep.specs.Filled.{cut_by}
use Rattle.acgrep.proofs.HeldLines.{cut_left, sum_left}
use Rattle.acgrep.proofs.context.put_each_line.Goals as goal

pub loop-index-preserved : goal.loop-index-preserved
loop-index-preserved g c =
    let sizes = c.args.held.now.sizes.items in
    let index = c.loop-index.index in
    let some : index < length sizes = omega (arith, c.loop-index-test.true, c.len-index-end.ensures) in
    let cut = cut_left sizes index _ _ _ _ some c.index.ensures c.split_at.ensures.front c.split_at.ensures.back in
    record {
      sized = sum_left sizes index _ _ _ some c.index.ensures c.loop-index.invariant.sized c.split_at.ensures.back;
      shown = λ p is bytes end each others.
          let (shown, shows, written) = c.in_ok-put_shown.ensures.shown p is in
          c.loop-index.invariant.shown p is (shown ++ bytes) end (rw cut (shown, bytes, shows, rw (sym c.behind_line-place.ensures.place) each, refl)) (Appends-trans _ _ end shown bytes written others);
    }

pub returns : goal.returns
returns g c =
    let none : drop c.loop-index.index c.args.held.now.sizes.items ≡ [] = drop_all c.loop-index.index c.args.held.now.sizes.items (omega (arith, c.loop-index-test.false, c.len-index-end.ensures)) in
    record { shown = λ p is. c.loop-index.invariant.shown p is [] _ (rw (ap (λ (l : List ℕ). cut_by l c.loop-index.rest.now) none) refl) (Appends-nil _) }
