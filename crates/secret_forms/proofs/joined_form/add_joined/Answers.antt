-- At the end those of all encoders are there.
use Rattle.std.proofs.Common.{◌∙◌, List, ap, arith}
use Rattle.std.proofs.lemmas.List.{take_all}
use Rattle.secret_forms.specs.Joined.{joined_words, joinings}
use Rattle.secret_forms.specs.Patterns.{added_all, pattern_bytes}
use Rattle.secret_forms.specs.declared.joined_form.Joining.{Joining}
use Rattle.secret_forms.proofs.joined_form.add_joined.Goals as goal

pub returns : goal.returns
returns c =
    let row = λ (all : List Joining). added_all (pattern_bytes c.args.patterns.now.items) (joined_words all c.args.secret.now) in
    record { all = c.loop-joining.invariant ∙ ap row (take_all c.loop-joining.joining-index joinings (omega (arith, c.loop-joining-test.false))) }
