-- What rules mark of a line lies in it.
use Rattle.std.proofs.Common.{◌≡◌, ◌∙◌, ℕ, zero, suc, ◌+◌, ◌-◌, ◌≤◌, Bool, false, All, List, [], ◌∷◌, None, Option, Some, String, Global, length, refl, sym, ap, inl, inr, arith}
use Rattle.std.specs.Prelude.{◌==◌, IfSome, nat_lt, option_and_then, unwrap_or}
use Rattle.std.specs.List.{range_with_len}
use Rattle.std.specs.Option.{option_or}
use Rattle.std.proofs.lemmas.Bool.{cases_Bool, cond-true, cond-false, cond_both}
use Rattle.std.proofs.lemmas.List.Elements.{All-cons, All-weaker}
use Rattle.regex.specs.Patterns.{Match, Re, find, slot_of, span}
use Rattle.regex.specs.Writes.{both, group_of}
use Rattle.regex.proofs.SearchLemmas.{leftmost_attempt, leftmost_within}
use Rattle.regex.proofs.WritesLemmas.{last_write_has, writes_are_tidy}
use Rattle.regex_hir.specs.Find.{find_after, matches_from}
use Rattle.regex_hir.specs.Text.{is_some_and}
use Rattle.aho_core.specs.Listing.{IsMember}
use Rattle.aho_laws.proofs.Members.{member-of_map}
use Rattle.secret_rules.specs.Expressions.{expression_of, group_total}
use Rattle.secret_rules.specs.Marks.{AreAllMarks, MarksRange}
use Rattle.secret_rules.specs.Rules.{regex_of}
use Rattle.secret_rules.specs.Secrets.{filled_group, first_filled, if_filled, named_in, secret_in, secrets_in}
use Rattle.secret_rules.specs.declared.marks.Mark.{Mark}
use Rattle.secret_rules.specs.declared.rule.Rule.{Rule}

-- a search from some place finds the match
abbrev IsFound : (ℕ → Option Match) → Match → Type 0
IsFound search_from m = (start : ℕ) × (search_from start ≡ Some m)

-- so it is with each match after another
found-after : (search_from : ℕ → Option Match) (end : ℕ) (m : Match) → find_after search_from end ≡ Some m → IsFound search_from m
found-after search_from end m e =
    let again : Bool = is_some_and (search_from end) (λ x. x.trace.end == end) in
    elim (cases_Bool again) [
      | inl same ↦ (end + 1, sym (cond-true again (search_from (end + 1)) (search_from end) same) ∙ e)
      | inr other ↦ (end, sym (cond-false again (search_from (end + 1)) (search_from end) other) ∙ e)
    ]

found-member : (search_from : ℕ → Option Match) (n : ℕ) (o : Option Match) → ((m : Match) → o ≡ Some m → IsFound search_from m)
    → (m : Match) → IsMember (matches_from search_from n o) m → IsFound search_from m
unfolding matches_from
found-member search_from zero o first m there = absurd there
found-member search_from (suc n) None first m there = absurd there
found-member search_from (suc n) (Some x) first m there =
    elim there [
      | inl e ↦ first m (ap Some (sym e))
      | inr later ↦ found-member search_from n (find_after search_from x.trace.end) (λ y f. found-after search_from x.trace.end y f) m later
    ]

-- a range, if there is one, ends here or before
abbrev EndsBy : ℕ → Option (ℕ × ℕ) → Type 0
EndsBy most o = IfSome o (λ range. range.1 ≤ most)

both-ends : (first last : Option ℕ) (most : ℕ) → ((x : ℕ) → last ≡ Some x → x ≤ most) → EndsBy most (both first last)
both-ends None last most ends = tt
both-ends (Some first) None most ends = tt
both-ends (Some first) (Some last) most ends = ends last refl

filled-ends : (o : Option (ℕ × ℕ)) (most : ℕ) → EndsBy most o → EndsBy most (option_and_then if_filled o)
filled-ends None most ends = tt
filled-ends (Some range) most ends = cond_both (nat_lt range.0 range.1) (Some range) None (EndsBy most) (λ _. ends) (λ _. tt)

or-ends : (one other : Option (ℕ × ℕ)) (most : ℕ) → EndsBy most one → EndsBy most other → EndsBy most (option_or one other)
or-ends None other most first second = second
or-ends (Some range) other most first second = first

given-ends : (o : Option (ℕ × ℕ)) (range : ℕ × ℕ) (most : ℕ) → EndsBy most o → range.1 ≤ most → (unwrap_or o range).1 ≤ most
given-ends None range most ends own = own
given-ends (Some other) range most ends own = ends

-- a match and its groups lie in the line
module _ (re : Re) (line : List ℕ) (m : Match) (found : IsFound (find re line) m) where
  match-ends : m.trace.end ≤ length line
  match-ends = (leftmost_within re line false found.0 m found.1).2

  slot-ends : (slot x : ℕ) → slot_of m slot ≡ Some x → x ≤ m.trace.end
  unfolding slot_of
  slot-ends slot x e =
      let Ends : ℕ × ℕ → Type 0 = λ w. w.1 ≤ m.trace.end in
      let whole = leftmost_within re line false found.0 m found.1 in
      let tidy = writes_are_tidy line re m.start m.trace (leftmost_attempt re line false found.0 m found.1).2 in
      let written : All Ends m.trace.writes = All-weaker (λ (w : ℕ × ℕ). (m.start ≤ w.1) × (w.1 ≤ m.trace.end) × Unit {0}) Ends (λ w h. h.1) m.trace.writes tidy.placed in
      last_write_has (λ place. place ≤ m.trace.end) ((0, m.start) ∷ (1, m.trace.end) ∷ m.trace.writes) slot x
      (All-cons Ends (0, m.start) ((1, m.trace.end) ∷ m.trace.writes) whole.1 (All-cons Ends (1, m.trace.end) m.trace.writes (omega arith) written)) e

  group-ends : (number : ℕ) → EndsBy m.trace.end (group_of m number)
  group-ends number = both-ends _ _ m.trace.end (λ x e. slot-ends _ x e)

  filled_group-ends : (number : ℕ) → EndsBy m.trace.end (filled_group m number)
  filled_group-ends number = filled-ends (group_of m number) m.trace.end (group-ends number)

  first_filled-ends : (numbers : List ℕ) → EndsBy m.trace.end (first_filled m numbers)
  first_filled-ends [] = tt
  first_filled-ends (number ∷ numbers) = or-ends (filled_group m number) (first_filled m numbers) m.trace.end (filled_group-ends number) (first_filled-ends numbers)

  named-ends : (named : ℕ) → EndsBy m.trace.end (named_in named m)
  named-ends named = cond_both (named == 0) None (filled_group m named) (EndsBy m.trace.end) (λ _. tt) (λ _. filled_group-ends named)

  secret-ends : (named count : ℕ) → (secret_in named count m).1 ≤ m.trace.end
  secret-ends named count =
      let numbers = range_with_len 1 (count - 1) in
      given-ends (option_or (named_in named m) (first_filled m numbers)) (span m) m.trace.end
      (or-ends (named_in named m) (first_filled m numbers) m.trace.end (named-ends named) (first_filled-ends numbers)) (omega arith)

-- a secret lies in the line
secrets-within : (source line : List ℕ) (named : ℕ) (range : ℕ × ℕ) → IsMember (secrets_in source named line) range → range.1 ≤ length line
secrets-within source line named range there =
    let re = expression_of source in
    let made = member-of_map (secret_in named (group_total source)) (matches_from (find re line) (length line + 1) (find re line 0)) range there in
    let found = found-member (find re line) (length line + 1) (find re line 0) (λ m e. (0, e)) made.0 made.1 in
    omega (arith, ap (λ (r : ℕ × ℕ). r.1) made.2, secret-ends re line made.0 found named (group_total source), match-ends re line made.0 found)

-- and so does all that a rule marks
range-within : (rule : Rule) (GoesOn : Type 0) (line : List ℕ) (range : ℕ × ℕ) → MarksRange rule GoesOn line range → range.1 ≤ length line
range-within rule GoesOn line range marks = by rule.until refl
  where
    by : (o : Option (String Global)) → rule.until ≡ o → range.1 ≤ length line
    by None none = let secret = rw none at marks.1 in secrets-within (regex_of rule) line rule.secret_group range secret.1
    by (Some text) some = let onward = rw some at marks.1 in omega (arith, onward.0)

pub marks-within : (rules : List Rule) (before : List (List ℕ)) (line : List ℕ) (marks : List Mark) → AreAllMarks rules before line marks
    → (mark : Mark) → IsMember marks mark → mark.end ≤ length line
marks-within rules before line marks all mark there = (let is = (all mark).0 there in range-within is.rule _ line (mark.start, mark.end) is.marks)
