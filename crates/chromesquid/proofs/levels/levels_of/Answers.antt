-- It is of the patterns, of which the limits refuse nothing.
use Rattle.std.proofs.Common.{refl, sym, subst, inl, inr, length, ℕ}
use Rattle.std.proofs.lemmas.List.{length-map}
use Rattle.std.specs.Prelude.{◌≤◌, sum_by}
use Rattle.std.specs.List.{All}
use Rattle.aho_core.specs.Replacement.{pieces_of}
use Rattle.aho_build.specs.Items.{patterns_of}
use Rattle.aho_levels.proofs.Reached.{node-folded}
use Rattle.chromesquid.specs.Fitting.{FitCounts}
use Rattle.chromesquid.proofs.Fitting.{fit_accepted}
use Rattle.chromesquid.proofs.levels.levels_of.Goals as goal

pub finds_all_backward-requires : goal.finds_all_backward-requires
finds_all_backward-requires c = record { of = (patterns_of c.args.settings.now c.args.patterns.now, c.in-Ok-new.ensures.of c.in-Ok.ensures.of) }

pub returns-clause-of : goal.returns-clause-of
returns-clause-of c = c.in-Ok-new.ensures.of c.in-Ok.ensures.of

pub returns-clause-backward : goal.returns-clause-backward
returns-clause-backward c = λ asked.
    inr (inl (c.finds_all_backward.ensures.not asked c.if-finds_all_backward.false (patterns_of c.args.settings.now c.args.patterns.now) (c.in-Ok-new.ensures.of c.in-Ok.ensures.of) refl))

pub returns-clause-accepted : goal.returns-clause-accepted
returns-clause-accepted c =
    fit_accepted c.args.settings.now (patterns_of c.args.settings.now c.args.patterns.now) c.most_listed.result (
    record {
      counts = subst (λ (n : ℕ). FitCounts c.args.settings.now n (sum_by length (pieces_of c.args.patterns.now)) c.most_listed.result) (sym (length-map c.args.patterns.now (λ item. item.now)))
          (subst (λ (n : ℕ). FitCounts c.args.settings.now (length c.args.patterns.now) n c.most_listed.result) c.in_ok-total.ensures.total (c.fit.ensures.fit c.if-not-fit.false));
      lengths = subst (λ (n : ℕ). All (λ word. length word ≤ n) (pieces_of c.args.patterns.now)) (rw (← c.as_usize.ensures.value) c.min-longest.ensures) c.in_ok-total.ensures.each;
      lists = λ word node. c.most_listed.ensures.most (patterns_of c.args.settings.now c.args.patterns.now) (c.in-Ok-new.ensures.of c.in-Ok.ensures.of) word node (node-folded (patterns_of c.args.settings.now c.args.patterns.now) word c.in-Ok-new.ensures.bytes node);
    }
    )
