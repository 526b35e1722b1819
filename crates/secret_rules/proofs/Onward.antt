-- Matches that go on from line to line.
use Rattle.std.proofs.Common.{◌≡◌, ◌∙◌, ℕ, ◌+◌, ◌<◌, List, [], ◌∷◌, ◌++◌, length, length-append, get_or, ap, sym, refl, subst, arith, inl, inr}
use Rattle.std.proofs.lemmas.Bool.{cases_lt}
use Rattle.std.proofs.lemmas.List.{get_or_append_left, get_or-append-add}
use Rattle.aho_core.specs.Listing.{IsMember}
use Rattle.secret_rules.specs.MarkLists.{HasOneOpen}
use Rattle.secret_rules.specs.Marks.{GoesOnAfter, StaysOpen, line_numbered}
use Rattle.secret_rules.specs.Rules.{AppliesTo, regex_of, until_of}
use Rattle.secret_rules.specs.Secrets.{match_ranges}
use Rattle.secret_rules.specs.Standing.{StandsFrom, StandsInLine}
use Rattle.secret_rules.specs.declared.rule.Rule.{Rule}

-- one of some ranges is open where one has the text nowhere behind it
pub one-open : (text line : List ℕ) (ranges : List (ℕ × ℕ)) → HasOneOpen text line ranges
    → (found : ℕ × ℕ) × IsMember ranges found × ¬ (StandsFrom text line found.1)
one-open text line [] h = absurd h
one-open text line (range ∷ ranges) (inl here) = (range, inl refl, here)
one-open text line (range ∷ ranges) (inr later) = let rest = one-open text line ranges later in (rest.0, inr rest.1, rest.2)

pub open-one : (text line : List ℕ) (ranges : List (ℕ × ℕ)) (found : ℕ × ℕ) → IsMember ranges found → ¬ (StandsFrom text line found.1)
    → HasOneOpen text line ranges
open-one text line [] found is none = absurd is
open-one text line (range ∷ ranges) found (inl here) none = inl (λ stands. none (subst (λ (r : ℕ × ℕ). StandsFrom text line r.1) (sym here) stands))
open-one text line (range ∷ ranges) found (inr later) none = inr (open-one text line ranges found later none)

line-kept : (lines : List (List ℕ)) (line : List ℕ) (k : ℕ) → k < length lines → line_numbered (lines ++ line ∷ []) k ≡ line_numbered lines k
line-kept lines line k h = get_or_append_left lines (line ∷ []) [] k h

line-last : (lines : List (List ℕ)) (line : List ℕ) (k : ℕ) → k ≡ length lines → line_numbered (lines ++ line ∷ []) k ≡ line
line-last lines line k e = ap (λ n. get_or (lines ++ line ∷ []) n []) (e ∙ omega arith) ∙ get_or-append-add lines (line ∷ []) 0 []

module _ (rule : Rule) (lines : List (List ℕ)) (line : List ℕ) where
  pub GoesOnAfter-next : StaysOpen rule (GoesOnAfter rule lines) line → GoesOnAfter rule (lines ++ line ∷ [])
  GoesOnAfter-next (inl on) =
      let g = on.0 in
      let kept = line-kept lines line g.number g.within in
      record {
        number = g.number;
        within = omega (arith, g.within, length-append lines (line ∷ []));
        applies = subst (AppliesTo rule) (sym kept) g.applies;
        found = g.found;
        begins = subst (λ (l : List ℕ). IsMember (match_ranges (regex_of rule) l) g.found) (sym kept) g.begins;
        behind = λ stands. g.behind (subst (λ (l : List ℕ). StandsFrom (until_of rule) l g.found.1) kept stands);
        later = λ k low high stands. elim (cases_lt k (length lines)) [
          | inl early ↦ g.later k low early (subst (StandsInLine (until_of rule)) (line-kept lines line k early) stands)
          | inr last ↦ on.1 (subst (StandsInLine (until_of rule)) (line-last lines line k (omega (arith, high, length-append lines (line ∷ [])))) stands)
        ];
      }
  GoesOnAfter-next (inr begun) =
      let some = one-open (until_of rule) line (match_ranges (regex_of rule) line) begun.1 in
      let last = line-last lines line (length lines) refl in
      record {
        number = length lines;
        within = omega (arith, length-append lines (line ∷ []));
        applies = subst (AppliesTo rule) (sym last) begun.0;
        found = some.0;
        begins = subst (λ (l : List ℕ). IsMember (match_ranges (regex_of rule) l) some.0) (sym last) some.1;
        behind = λ stands. some.2 (subst (λ (l : List ℕ). StandsFrom (until_of rule) l some.0.1) last stands);
        later = λ k low high stands. absurd (omega (arith, low, high, length-append lines (line ∷ [])));
      }

  pub StaysOpen-of_next : GoesOnAfter rule (lines ++ line ∷ []) → StaysOpen rule (GoesOnAfter rule lines) line
  StaysOpen-of_next g = elim (cases_lt g.number (length lines)) [
    | inl early ↦
        let kept = line-kept lines line g.number early in
        inl (
          record {
            number = g.number;
            within = early;
            applies = subst (AppliesTo rule) kept g.applies;
            found = g.found;
            begins = subst (λ (l : List ℕ). IsMember (match_ranges (regex_of rule) l) g.found) kept g.begins;
            behind = λ stands. g.behind (subst (λ (l : List ℕ). StandsFrom (until_of rule) l g.found.1) (sym kept) stands);
            later = λ k low high stands. g.later k low (omega (arith, high, length-append lines (line ∷ [])))
                (subst (StandsInLine (until_of rule)) (sym (line-kept lines line k high)) stands);
          },
          λ stands. g.later (length lines) early (omega (arith, length-append lines (line ∷ []))) (subst (StandsInLine (until_of rule)) (sym (line-last lines line (length lines) refl)) stands),
        )
    | inr last ↦
        let here = line-last lines line g.number (omega (arith, g.within, length-append lines (line ∷ []))) in
        inr (
          subst (AppliesTo rule) here g.applies,
          open-one (until_of rule) line (match_ranges (regex_of rule) line) g.found
              (subst (λ (l : List ℕ). IsMember (match_ranges (regex_of rule) l) g.found) here g.begins)
              (λ stands. g.behind (subst (λ (l : List ℕ). StandsFrom (until_of rule) l g.found.1) (sym here) stands)),
        )
  ]
