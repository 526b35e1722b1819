-- One value more, until all are there.
use Rattle.std.proofs.Common.{◌≡◌, ℕ, ap, ◌∙◌, arith, map}
use Rattle.std.specs.List.{range_with_len}
use Rattle.secret_forms.specs.Base64.{with_behind, values_behind, rest_of}
use Rattle.secret_forms.specs.Patterns.{added_all, pattern_bytes}
use Rattle.secret_forms.proofs.Members.{added_all_more}
use Rattle.secret_forms.proofs.base64_form.add_all_behind.Goals as goal

pub loop-bits-preserved : goal.loop-bits-preserved
loop-bits-preserved c =
    added_all_more (with_behind c.args.engine.now c.args.secret.now c.args.shift) _ c.loop-bits.bits _ _ c.loop-bits.invariant c.in_ok-add_behind.ensures.behind

pub returns : goal.returns
returns c =
    let row = λ (n : ℕ). added_all (pattern_bytes c.args.patterns.now.items) (map (with_behind c.args.engine.now c.args.secret.now c.args.shift) (range_with_len 0 n)) in
    let ended : c.loop-bits.bits ≡ values_behind (rest_of c.args.shift c.args.secret.now) =
    omega (arith, c.loop-bits.auto.bits-end, c.loop-bits-test.false) ∙ c.values_behind-bits-end.ensures ∙ ap values_behind c.rest_of.ensures in
    record { all = c.loop-bits.invariant ∙ ap row ended }
