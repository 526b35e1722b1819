-- Marks as members of a list.
use Rattle.std.proofs.Common.{◌≡◌, ◌∙◌, ◌↔◌, ℕ, ◌<◌, ◌≤◌, Bool, true, false, List, [], ◌∷◌, ◌++◌, None, IsSome, IsTrue, ap, length, map, refl, subst, sym, inl, inr, arith}
use Rattle.std.proofs.lemmas.Bool.{cases_lt, false≢true, le-ltb, lt-ltb}
use Rattle.regex_hir.proofs.OptionLemmas.{value_of_IsSome}
use Rattle.aho_core.specs.Listing.{IsMember}
use Rattle.aho_laws.proofs.Listed.{member-left, member-of_append, member-right}
use Rattle.secret_rules.specs.MarkLists.{mark_at, marks_at, onward, secret_marks}
use Rattle.secret_rules.specs.Markers.{AddsMarks, applied_marks, whole_mark}
use Rattle.secret_rules.specs.Marks.{BeginsAt, MarksOnward, MarksRange}
use Rattle.secret_rules.specs.Rules.{AppliesTo, regex_of}
use Rattle.secret_rules.specs.Secrets.{match_ranges, secrets_in}
use Rattle.secret_rules.specs.declared.marks.Mark.{Mark}
use Rattle.secret_rules.specs.declared.rule.Rule.{Rule}

-- the mark is of the rule of this number, and of this range, which is not empty
pub record IsMarkAt (number : ℕ) (range : ℕ × ℕ) (mark : Mark) : Type 0 where
  pub rule : mark.rule ≡ number
  pub start : mark.start ≡ range.0
  pub end : mark.end ≡ range.1
  pub filled : range.0 < range.1

mark_at-full : (number : ℕ) (range : ℕ × ℕ) → range.0 < range.1
    → mark_at number range ≡ record { rule = number; start = range.0; end = range.1 } ∷ []
mark_at-full number range lt = rw (lt-ltb range.0 range.1 lt)

mark_at-none : (number : ℕ) (range : ℕ × ℕ) → range.1 ≤ range.0 → mark_at number range ≡ []
mark_at-none number range le = rw (le-ltb range.0 range.1 le)

pub IsMarkAt-of_member : (number : ℕ) (range : ℕ × ℕ) (mark : Mark) → IsMember (mark_at number range) mark → IsMarkAt number range mark
IsMarkAt-of_member number range mark is = elim (cases_lt range.0 range.1) [
  | inl lt ↦ elim (subst (λ (marks : List Mark). IsMember marks mark) (mark_at-full number range lt) is) [
    | inl same ↦ record { rule = ap (λ (m : Mark). m.rule) same; start = ap (λ (m : Mark). m.start) same; end = ap (λ (m : Mark). m.end) same; filled = lt }
    | inr never ↦ absurd never
  ]
  | inr le ↦ absurd (subst (λ (marks : List Mark). IsMember marks mark) (mark_at-none number range le) is)
]

mark-same : (number : ℕ) (range : ℕ × ℕ) (mark : Mark) → IsMarkAt number range mark → mark ≡ record { rule = number; start = range.0; end = range.1 }
mark-same number range mark is =
    ap (λ (n : ℕ). record { rule = n; start = mark.start; end = mark.end }) is.rule
    ∙ ap (λ (n : ℕ). record { rule = number; start = n; end = mark.end }) is.start
    ∙ ap (λ (n : ℕ). record { rule = number; start = range.0; end = n }) is.end

pub member-of_IsMarkAt : (number : ℕ) (range : ℕ × ℕ) (mark : Mark) → IsMarkAt number range mark → IsMember (mark_at number range) mark
member-of_IsMarkAt number range mark is =
    subst (λ (marks : List Mark). IsMember marks mark) (sym (mark_at-full number range is.filled)) (inl (mark-same number range mark is))

-- a mark of one of some ranges
pub range-of_mark : (number : ℕ) (ranges : List (ℕ × ℕ)) (mark : Mark) → IsMember (marks_at number ranges) mark
    → (range : ℕ × ℕ) × IsMember ranges range × IsMarkAt number range mark
range-of_mark number [] mark is = absurd is
range-of_mark number (range ∷ ranges) mark is = elim (member-of_append (mark_at number range) (marks_at number ranges) mark is) [
  | inl here ↦ (range, inl refl, IsMarkAt-of_member number range mark here)
  | inr later ↦ let rest = range-of_mark number ranges mark later in (rest.0, inr rest.1, rest.2)
]

pub mark-of_range : (number : ℕ) (ranges : List (ℕ × ℕ)) (range : ℕ × ℕ) (mark : Mark) → IsMember ranges range → IsMarkAt number range mark
    → IsMember (marks_at number ranges) mark
mark-of_range number [] range mark is at = absurd is
mark-of_range number (first ∷ ranges) range mark (inl here) at =
    member-left (mark_at number first) (marks_at number ranges) mark
    (member-of_IsMarkAt number first mark (subst (λ (r : ℕ × ℕ). IsMarkAt number r mark) here at))
mark-of_range number (first ∷ ranges) range mark (inr later) at =
    member-right (mark_at number first) (marks_at number ranges) mark (mark-of_range number ranges range mark later at)

-- a range from the start of one of some ranges on
start-of_onward : (line : List ℕ) (ranges : List (ℕ × ℕ)) (range : ℕ × ℕ) → IsMember (map (onward line) ranges) range
    → (range.1 ≡ length line) × ((end : ℕ) × IsMember ranges (range.0, end))
start-of_onward line [] range is = absurd is
start-of_onward line (first ∷ ranges) range (inl here) =
    (ap (λ (r : ℕ × ℕ). r.1) here, (first.1, inl (ap (λ (n : ℕ). (n, first.1)) (ap (λ (r : ℕ × ℕ). r.0) here))))
start-of_onward line (first ∷ ranges) range (inr later) = let rest = start-of_onward line ranges range later in (rest.0, (rest.1.0, inr rest.1.1))

onward-of_start : (line : List ℕ) (ranges : List (ℕ × ℕ)) (start end : ℕ) → IsMember ranges (start, end)
    → IsMember (map (onward line) ranges) (start, length line)
onward-of_start line [] start end is = absurd is
onward-of_start line (first ∷ ranges) start end (inl here) = inl (ap (λ (r : ℕ × ℕ). (r.0, length line)) here)
onward-of_start line (first ∷ ranges) start end (inr later) = inr (onward-of_start line ranges start end later)

module _ (number : ℕ) (rule : Rule) (line : List ℕ) where
  -- what a rule without `until` adds
  pub secrets-added : (GoesOn : Type 0) (applies : Bool) (old new : List Mark) → rule.until ≡ None → IsTrue applies → IsTrue applies ↔ AppliesTo rule line
      → new ≡ old ++ secret_marks number rule line → AddsMarks old new number (MarksRange rule GoesOn line)
  secrets-added GoesOn applies old new none does tells is = λ mark.
      let ranges = secrets_in (regex_of rule) rule.secret_group line in (
        (λ m. elim (member-of_append old (marks_at number ranges) mark (subst (λ (marks : List Mark). IsMember marks mark) is m)) [
          | inl early ↦ inl early
          | inr made ↦
              let found = range-of_mark number ranges mark made in
              let at = found.2 in
              let same : (mark.start, mark.end) ≡ found.0 = ap (λ (n : ℕ). (n, mark.end)) at.start ∙ ap (λ (n : ℕ). (found.0.0, n)) at.end in
              inr (at.rule, (omega (arith, at.start, at.end, at.filled), rw none (tells.0 does, subst (IsMember ranges) (sym same) found.1)))
        ]),
        (λ h. elim h [
          | inl early ↦ subst (λ (marks : List Mark). IsMember marks mark) (sym is) (member-left old (marks_at number ranges) mark early)
          | inr marked ↦
              let secret = rw none at marked.1.1 in
              subst (λ (marks : List Mark). IsMember marks mark) (sym is) (member-right old (marks_at number ranges) mark
              (mark-of_range number ranges (mark.start, mark.end) mark secret.1 (record { rule = marked.0; start = refl; end = refl; filled = marked.1.0 })))
        ]),
      )

  whole-of_member : (goes_on : Bool) (mark : Mark) → IsMember (whole_mark goes_on number line) mark → IsTrue goes_on × IsMarkAt number (0, length line) mark
  whole-of_member true mark is = (refl, IsMarkAt-of_member number (0, length line) mark is)
  whole-of_member false mark is = absurd is

  member-of_whole : (goes_on : Bool) (mark : Mark) → IsTrue goes_on → IsMarkAt number (0, length line) mark → IsMember (whole_mark goes_on number line) mark
  member-of_whole true mark does at = member-of_IsMarkAt number (0, length line) mark at
  member-of_whole false mark does at = absurd (false≢true does)

  -- a mark from a match on
  record IsOnward (mark : Mark) : Type 0 where
    of : mark.rule ≡ number
    end : mark.end ≡ length line
    filled : mark.start < mark.end
    begins : BeginsAt rule line mark.start

  onward-of_member : (applies : Bool) (mark : Mark) → IsMember (applied_marks applies number rule line) mark → IsTrue applies × IsOnward mark
  onward-of_member true mark is =
      let found = range-of_mark number (map (onward line) (match_ranges (regex_of rule) line)) mark is in
      let begun = start-of_onward line (match_ranges (regex_of rule) line) found.0 found.1 in
      let at = found.2 in (
        refl,
        record {
          of = at.rule;
          end = at.end ∙ begun.0;
          filled = omega (arith, at.start, at.end, at.filled);
          begins = subst (BeginsAt rule line) (sym at.start) begun.1;
        },
      )
  onward-of_member false mark is = absurd is

  member-of_onward : (applies : Bool) (mark : Mark) → IsTrue applies → IsOnward mark → IsMember (applied_marks applies number rule line) mark
  member-of_onward true mark does is =
      mark-of_range number (map (onward line) (match_ranges (regex_of rule) line)) (mark.start, length line) mark
      (onward-of_start line (match_ranges (regex_of rule) line) mark.start is.begins.0 is.begins.1)
      (record { rule = is.of; start = refl; end = is.end; filled = subst (λ (n : ℕ). mark.start < n) is.end is.filled })
  member-of_onward false mark does is = absurd (false≢true does)

  -- what a rule with `until` adds
  pub onwards-added : (goes_on applies : Bool) (old mid new : List Mark) → IsSome rule.until → IsTrue applies ↔ AppliesTo rule line
      → mid ≡ old ++ whole_mark goes_on number line → new ≡ mid ++ applied_marks applies number rule line
      → AddsMarks old new number (MarksRange rule (IsTrue goes_on) line)
  onwards-added goes_on applies old mid new some tells first second = λ mark.
      let Marked : Type 0 = (mark.rule ≡ number) × MarksRange rule (IsTrue goes_on) line (mark.start, mark.end) in
      let until = value_of_IsSome rule.until some in
      let whole = whole_mark goes_on number line in
      let applied = applied_marks applies number rule line in
      let marks : mark.rule ≡ number → mark.start < mark.end → MarksOnward rule (IsTrue goes_on) line (mark.start, mark.end) → Marked = λ of filled onward.
      (of, (filled, rw until.1 onward)) in (
        (λ m. elim (member-of_append mid applied mark (subst (λ (marks : List Mark). IsMember marks mark) second m)) [
          | inl early ↦ elim (member-of_append old whole mark (subst (λ (marks : List Mark). IsMember marks mark) first early)) [
            | inl before ↦ inl before
            | inr all ↦
                let is = whole-of_member goes_on mark all in
                inr (marks is.1.rule (omega (arith, is.1.start, is.1.end, is.1.filled)) (is.1.end, inl (is.1.start, is.0)))
          ]
          | inr later ↦
              let is = onward-of_member applies mark later in
              inr (marks is.1.of is.1.filled (is.1.end, inr (tells.0 is.0, is.1.begins)))
        ]),
        (λ h. subst (λ (marks : List Mark). IsMember marks mark) (sym second) (elim h [
          | inl early ↦ member-left mid applied mark (subst (λ (marks : List Mark). IsMember marks mark) (sym first) (member-left old whole mark early))
          | inr marked ↦
              let onward = rw until.1 at marked.1.1 in
              elim onward.1 [
                | inl all ↦
                    member-left mid applied mark (subst (λ (marks : List Mark). IsMember marks mark) (sym first)
                    (member-right old whole mark (member-of_whole goes_on mark all.1
                    (record { rule = marked.0; start = all.0; end = onward.0; filled = omega (arith, all.0, onward.0, marked.1.0) }))))
                | inr begun ↦
                    member-right mid applied mark (member-of_onward applies mark (tells.1 begun.0)
                    (record { of = marked.0; end = onward.0; filled = marked.1.0; begins = begun.1 }))
              ]
        ])),
      )
