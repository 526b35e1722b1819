-- What is hidden in a text stays hidden where the text stands in another.
use Rattle.std.proofs.Common.{ℕ, ◌+◌, List, ◌++◌, length, refl, ap, ◌∙◌, arith}
use Rattle.std.proofs.lemmas.List.{append_assoc, length-append}
use Rattle.secret_forms.specs.Law.{IsHidden}

pub IsHidden-within : (patterns : List (List ℕ)) (text before after : List ℕ) (place : ℕ)
    → IsHidden patterns text place → IsHidden patterns (before ++ (text ++ after)) (length before + place)
IsHidden-within patterns text before after place h =
    let here = length-append before h.ahead in
    record {
      pattern = h.pattern;
      ahead = before ++ h.ahead;
      behind = h.behind ++ after;
      listed = h.listed;
      occurs = ap (λ (t : List ℕ). before ++ (t ++ after)) h.occurs ∙ simp append_assoc refl;
      after_start = rw here (omega (arith, h.after_start));
      before_end = rw here (omega (arith, h.before_end));
    }
