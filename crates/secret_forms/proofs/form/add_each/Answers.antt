-- At the end those of all are there.
use Rattle.std.proofs.Common.{◌≡◌, ◌∙◌, ℕ, List, ap, sym, arith, take}
use Rattle.std.proofs.lemmas.List.{take_all}
use Rattle.std.proofs.lemmas.List.Folds.{flat_map-map}
use Rattle.std.specs.Prelude.{flat_map, Vec}
use Rattle.secret_forms.specs.Forms.{form_patterns}
use Rattle.secret_forms.specs.Patterns.{added_all, pattern_bytes}
use Rattle.secret_forms.proofs.form.add_each.Goals as goal

-- the loop's row, of all
row : {Z : Type 0} (by : List ℕ → List (List ℕ)) (start now : List (List ℕ)) (vs seen : List (Vec ℕ Z)) → seen ≡ vs
    → now ≡ added_all start (flat_map (λ one. by one.items) seen) → now ≡ added_all start (flat_map by (pattern_bytes vs))
row {Z} by start now vs seen all was =
    was ∙ ap (λ (l : List (Vec ℕ Z)). added_all start (flat_map (λ one. by one.items) l)) all
    ∙ ap (added_all start) (sym (flat_map-map by (λ (one : Vec ℕ Z). one.items) vs))

pub returns : goal.returns
returns c = record {
  all = row (λ one. form_patterns one c.args.outer) (pattern_bytes c.args.patterns.now.items) _ c.args.inner.now (take c.loop-pattern.pattern-index c.args.inner.now)
      (take_all c.loop-pattern.pattern-index c.args.inner.now (omega (arith, c.loop-pattern-test.false))) c.loop-pattern.invariant;
}
