-- One after another.
use Rattle.std.proofs.Common.{◌∷◌, [], List, ℕ}
use Rattle.secret_forms.specs.Base64.{shift_patterns, core_of, all_ahead, all_behind}
use Rattle.secret_forms.specs.Patterns.{pattern_bytes}
use Rattle.secret_forms.proofs.Members.{OnOk-then, added_all_both}
use Rattle.secret_forms.proofs.base64_form.add_shift.Goals as goal

pub returns : goal.returns
unfolding shift_patterns
returns c =
    let e = c.args.engine.now in
    let s = c.args.secret.now in
    let k = c.args.shift in
    let start = pattern_bytes c.args.patterns.now.items in
    let core : List (List ℕ) = core_of e s k ∷ [] in
    let first = added_all_both start _ _ core (all_ahead e s k) c.in_ok-add_core.ensures.core c.in_ok-add_all_ahead.ensures.all in
    record { all = OnOk-then c.add_all_behind.result _ _ (added_all_both start _ _ (core_of e s k ∷ all_ahead e s k) (all_behind e s k) first) c.add_all_behind.ensures.all }
