-- One alphabet after the other.
use Rattle.std.proofs.Common.{◌≡◌, ◌∙◌, ap, List, ℕ}
use Rattle.base64.specs.declared.engine.general_purpose.GeneralPurpose.{GeneralPurpose}
use Rattle.base64.specs.Engines.{standard_no_pad, url_safe_no_pad}
use Rattle.secret_forms.specs.Base64.{alphabet_patterns}
use Rattle.secret_forms.specs.Patterns.{added_all, pattern_bytes}
use Rattle.secret_forms.proofs.Members.{OnOk-then, added_all_both}
use Rattle.secret_forms.proofs.base64_form.add_base64.Goals as goal

pub returns : goal.returns
returns c =
    let s = c.args.secret.now in
    let start = pattern_bytes c.args.patterns.now.items in
    let one = pattern_bytes c.add_alphabet.new.patterns.items in
    let by = λ (ps : List (List ℕ)) (e : GeneralPurpose). added_all ps (alphabet_patterns e s) in
    let first : one ≡ by start standard_no_pad = c.in_ok-add_alphabet.ensures.all ∙ ap (by start) c.standard_alphabet.ensures in
    record {
      all = OnOk-then c.add_alphabet-2.result _ _
          (λ second. added_all_both start one _ (alphabet_patterns standard_no_pad s) (alphabet_patterns url_safe_no_pad s) first (second ∙ ap (by one) c.url_alphabet.ensures))
          c.add_alphabet-2.ensures.all;
    }
