-- The turns of rules at a line, one after another.
use Rattle.std.proofs.Common.{◌≡◌, ◌≢◌, ◌∙◌, ◌⊎◌, ◌↔◌, ℕ, zero, suc, ◌+◌, ◌<◌, ◌≤◌, Bool, false, true, List, [], ◌∷◌, ◌++◌, None, Option, Some, IfOk, IsSome, IsTrue, Result, Ok, Err, String, Global, get_or, length, refl, slice_set, subst, sym, inl, inr, arith}
use Rattle.std.proofs.lemmas.Bool.{cases_eq, false≢true}
use Rattle.std.proofs.lemmas.Option.{same_Some, slice_get-get_or, slice_get_within}
use Rattle.aho_core.specs.Listing.{IsMember}
use Rattle.secret_rules.specs.Markers.{AddsMarks, AreFlagsBehind, AreMarksWith, IsMarkWith, NoneApplies, NoneIsSet, flag_at}
use Rattle.secret_rules.specs.MarkLists.{HasOneOpen}
use Rattle.secret_rules.specs.Marks.{AreAllMarks, GoesOnAfter, IsRuleAt, MarksOnward, MarksRange, MarksSecret, StaysOpen}
use Rattle.secret_rules.specs.Rules.{AppliesTo, regex_of, until_of}
use Rattle.secret_rules.specs.Secrets.{match_ranges}
use Rattle.secret_rules.specs.Standing.{StandsInLine}
use Rattle.secret_rules.specs.declared.marks.Mark.{Mark}
use Rattle.secret_rules.specs.declared.rule.Rule.{Rule}
use Rattle.secret_rules.proofs.Onward.{GoesOnAfter-next, StaysOpen-of_next}

-- the flag that was read at a number
pub flag-read : (flags : List Bool) (number : ℕ) (flag : Bool) → number < length flags → flag ≡ get_or flags number flag → flag ≡ flag_at flags number
flag-read flags number flag within read =
    read ∙ same_Some _ _ (sym (slice_get-get_or flags number flag within) ∙ slice_get-get_or flags number false within)

-- the flag that was set at a number
pub flag-set : (flags : List Bool) (number : ℕ) (flag : Bool) → number < length flags → flag_at (slice_set flags number flag) number ≡ flag
flag-set [] number flag within = absurd (omega (arith, within))
flag-set (first ∷ flags) zero flag within = refl
flag-set (first ∷ flags) (suc number) flag within = flag-set flags number flag (omega (arith, within))

-- where one of two things is not so, neither is
pub neither-set : (one other told : Bool) → IsTrue told ↔ (IsTrue one ⊎ IsTrue other) → told ≡ false → (one ≡ false) × (other ≡ false)
neither-set false false told is not = (refl, refl)
neither-set false true told is not = absurd (false≢true (sym not ∙ is.1 (inr refl)))
neither-set true other told is not = absurd (false≢true (sym not ∙ is.1 (inl refl)))

-- one more flag that is not set
pub none-more : (flag : Bool) (flags : List Bool) → flag ≡ false → NoneIsSet flags → NoneIsSet (flag ∷ flags)
none-more flag flags is none zero = is
none-more flag flags is none (suc number) = none number

-- whether a match that begins goes on, where the rule applies
pub begun-told : {E : Type 0} (result : Result Bool E) (Applies Leaves : Type 0) → Applies → IfOk result (λ begun. IsTrue begun ↔ Leaves)
    → IfOk result (λ begun. IsTrue begun ↔ (Applies × Leaves))
begun-told (Ok begun) Applies Leaves applies told = (λ does. (applies, told.0 does), λ both. told.1 both.1)
begun-told (Err e) Applies Leaves applies told = tt

-- whether one goes on behind the line
pub behind-told : (rule : Rule) (line text : List ℕ) (goes_on applies still begun behind : Bool) → text ≡ until_of rule → IsTrue applies ↔ AppliesTo rule line
    → IsTrue still ↔ (IsTrue goes_on × ¬ (StandsInLine text line))
    → IsTrue begun ↔ (IsTrue applies × HasOneOpen text line (match_ranges (regex_of rule) line))
    → IsTrue behind ↔ (IsTrue still ⊎ IsTrue begun) → IsTrue behind ↔ StaysOpen rule (IsTrue goes_on) line
behind-told rule line text goes_on applies still begun behind of tells first second is =
    let Of : List ℕ → Type 0 = λ text. (IsTrue goes_on × ¬ (StandsInLine text line)) ⊎ (AppliesTo rule line × HasOneOpen text line (match_ranges (regex_of rule) line)) in (
      (λ does. subst Of of (elim (is.0 does) [ inl on ↦ inl (first.0 on) | inr new ↦ inr (tells.0 (second.0 new).0, (second.0 new).1) ])),
      (λ stays. is.1 (elim (subst Of (sym of) stays) [ inl on ↦ inl (first.1 on) | inr new ↦ inr (second.1 (tells.1 new.0, new.1)) ])),
    )

-- marks do not depend on how it is said whether a match goes on
MarksRange-same : (rule : Rule) (A B : Type 0) (line : List ℕ) (range : ℕ × ℕ) → (IsSome rule.until → A → B) → MarksRange rule A line range → MarksRange rule B line range
MarksRange-same rule A B line range same marks = by rule.until refl
  where
    by : (o : Option (String Global)) → rule.until ≡ o → MarksRange rule B line range
    by None none = (marks.0, rw none (rw none at marks.1))
    by (Some text) some =
        let onward = rw some at marks.1 in
        let kept : MarksOnward rule B line range = (
          onward.0,
          elim onward.1 [
            | inl all ↦ inl (all.0, same (rw some refl) all.1)
            | inr begun ↦ inr begun
          ],
        ) in
        (marks.0, rw some kept)

-- a rule that does not apply to the line, while no match of an earlier line goes on
module _ (rule : Rule) (line : List ℕ) (goes_on : Bool) (shut : goes_on ≡ false) (none : AppliesTo rule line → ⊥) where
  pub marks-nothing : (range : ℕ × ℕ) → MarksRange rule (IsTrue goes_on) line range → ⊥
  marks-nothing range marks = by rule.until refl
    where
      by : (o : Option (String Global)) → rule.until ≡ o → ⊥
      by None is = let secret : MarksSecret rule line range = rw is at marks.1 in none secret.0
      by (Some text) is =
          let onward : MarksOnward rule (IsTrue goes_on) line range = rw is at marks.1 in
          elim onward.1 [
            | inl all ↦ false≢true (sym shut ∙ all.1)
            | inr begun ↦ none begun.0
          ]

  pub stays-shut : IsTrue goes_on ↔ StaysOpen rule (IsTrue goes_on) line
  stays-shut = (
    (λ goes. absurd (false≢true (sym shut ∙ goes))),
    (λ stays. elim stays [
      | inl on ↦ on.0
      | inr begun ↦ absurd (none begun.0)
    ]),
  )

-- the rules below a number have had their turn at a line
pub record AreTurnsDone (rules : List Rule) (line : List ℕ) (old new : List Bool) (number : ℕ) (marks : List Mark) : Type 0 where
  pub done : (k : ℕ) (rule : Rule) → k < number → IsRuleAt rules k rule → IsSome rule.until → IsTrue (flag_at new k) ↔ StaysOpen rule (IsTrue (flag_at old k)) line
  pub left : (k : ℕ) → number ≤ k → flag_at new k ≡ flag_at old k
  pub marked : (mark : Mark) → IsMember marks mark ↔ ((mark.rule < number) × IsMarkWith rules old line mark)

module _ (rules : List Rule) (line : List ℕ) (old : List Bool) where
  pub turns-next : (new new' : List Bool) (number : ℕ) (marks marks' : List Mark) (rule : Rule) → IsRuleAt rules number rule → AreTurnsDone rules line old new number marks
      → AddsMarks marks marks' number (MarksRange rule (IsTrue (flag_at new number)) line)
      → (IsSome rule.until → IsTrue (flag_at new' number) ↔ StaysOpen rule (IsTrue (flag_at new number)) line)
      → ((k : ℕ) → k ≢ number → flag_at new' k ≡ flag_at new k) → AreTurnsDone rules line old new' (number + 1) marks'
  turns-next new new' number marks marks' rule at so_far adds goes others =
      let here : flag_at new number ≡ flag_at old number = so_far.left number (omega arith) in
      record {
        done = λ k other low at' some. elim (cases_eq k number) [
          | inl same ↦
              let is : rule ≡ other = same_Some _ _ (sym at ∙ subst (λ (n : ℕ). IsRuleAt rules n other) same at') in
              subst (λ (n : ℕ). IsTrue (flag_at new' n) ↔ StaysOpen other (IsTrue (flag_at old n)) line) (sym same)
              (subst (λ (r : Rule). IsTrue (flag_at new' number) ↔ StaysOpen r (IsTrue (flag_at old number)) line) is
              (subst (λ (b : Bool). IsTrue (flag_at new' number) ↔ StaysOpen rule (IsTrue b) line) here
              (goes (subst (λ (r : Rule). IsSome r.until) (sym is) some))))
          | inr differs ↦
              subst (λ (b : Bool). IsTrue b ↔ StaysOpen other (IsTrue (flag_at old k)) line) (sym (others k differs))
              (so_far.done k other (omega (arith, low, differs)) at' some)
        ];
        left = λ k low. others k (λ same. absurd (omega (arith, low, same))) ∙ so_far.left k (omega (arith, low));
        marked = λ mark. (
          (λ is. elim ((adds mark).0 is) [
            | inl early ↦ let before = (so_far.marked mark).0 early in (omega (arith, before.0), before.1)
            | inr made ↦ (
              omega (arith, made.0),
              record {
                rule = rule;
                numbered = subst (λ (n : ℕ). IsRuleAt rules n rule) (sym made.0) at;
                marks = subst (λ (n : ℕ). MarksRange rule (IsTrue (flag_at old n)) line (mark.start, mark.end)) (sym made.0)
                    (subst (λ (b : Bool). MarksRange rule (IsTrue b) line (mark.start, mark.end)) here made.1);
              },
            )
          ]),
          (λ h. (adds mark).1 (elim (cases_eq mark.rule number) [
            | inl same ↦
                let is : h.1.rule ≡ rule = same_Some _ _ (sym (subst (λ (n : ℕ). IsRuleAt rules n h.1.rule) same h.1.numbered) ∙ at) in
                let marks' : MarksRange rule (IsTrue (flag_at old mark.rule)) line (mark.start, mark.end) =
                subst (λ (r : Rule). MarksRange r (IsTrue (flag_at old mark.rule)) line (mark.start, mark.end)) is h.1.marks in
                inr (
                  same,
                  subst (λ (b : Bool). MarksRange rule (IsTrue b) line (mark.start, mark.end)) (sym here)
                      (subst (λ (n : ℕ). MarksRange rule (IsTrue (flag_at old n)) line (mark.start, mark.end)) same marks'),
                )
            | inr differs ↦ inl ((so_far.marked mark).1 (omega (arith, h.0, differs), h.1))
          ])),
        );
      }

  numbered-within : (number : ℕ) (rule : Rule) → IsRuleAt rules number rule → number < length rules
  numbered-within number rule at = slice_get_within rules number rule at

  pub turns-marked : (new : List Bool) (number : ℕ) (marks : List Mark) → length rules ≤ number → AreTurnsDone rules line old new number marks
      → AreMarksWith rules old line marks
  turns-marked new number marks all turns = λ mark. (
    (λ is. ((turns.marked mark).0 is).1),
    (λ h. (turns.marked mark).1 (omega (arith, all, numbered-within mark.rule h.rule h.numbered), h)),
  )

  pub turns-behind : (new : List Bool) (number : ℕ) (marks : List Mark) → length rules ≤ number → AreTurnsDone rules line old new number marks
      → AreFlagsBehind rules old new line
  turns-behind new number marks all turns = λ k rule at some. turns.done k rule (omega (arith, all, numbered-within k rule at)) at some

  -- at a line to which no rule applies, while no match of an earlier line goes on
  module _ (shut : NoneIsSet old) (none : NoneApplies rules line) where
    pub none-marked : AreMarksWith rules old line []
    none-marked = λ mark. (
      (λ is. absurd is),
      (λ h. absurd (marks-nothing h.rule line (flag_at old mark.rule) (shut mark.rule) (none mark.rule h.rule h.numbered) (mark.start, mark.end) h.marks)),
    )

    pub none-behind : AreFlagsBehind rules old old line
    none-behind = λ number rule at some. stays-shut rule line (flag_at old number) (shut number) (none number rule at)

  -- with flags that are right behind some lines
  module _ (lines : List (List ℕ)) (right : (number : ℕ) (rule : Rule) → IsRuleAt rules number rule → IsSome rule.until → IsTrue (flag_at old number) ↔ GoesOnAfter rule lines) where
    pub all-marks : (marks : List Mark) → AreMarksWith rules old line marks → AreAllMarks rules lines line marks
    all-marks marks are = λ mark. (
      (λ is.
          let with' = (are mark).0 is in
          record {
            rule = with'.rule;
            numbered = with'.numbered;
            marks = MarksRange-same with'.rule (IsTrue (flag_at old mark.rule)) (GoesOnAfter with'.rule lines) line (mark.start, mark.end)
                (λ some. (right mark.rule with'.rule with'.numbered some).0) with'.marks;
          }),
      (λ of. (are mark).1 (record {
        rule = of.rule;
        numbered = of.numbered;
        marks = MarksRange-same of.rule (GoesOnAfter of.rule lines) (IsTrue (flag_at old mark.rule)) line (mark.start, mark.end)
            (λ some. (right mark.rule of.rule of.numbered some).1) of.marks;
      })),
    )

    pub right-behind : (new : List Bool) → AreFlagsBehind rules old new line → (number : ℕ) (rule : Rule) → IsRuleAt rules number rule → IsSome rule.until
        → IsTrue (flag_at new number) ↔ GoesOnAfter rule (lines ++ line ∷ [])
    right-behind new behind number rule at some =
        let flags = behind number rule at some in
        let was = right number rule at some in (
          (λ does. GoesOnAfter-next rule lines line (elim (flags.0 does) [ inl on ↦ inl (was.0 on.0, on.1) | inr new ↦ inr new ])),
          (λ goes. flags.1 (elim (StaysOpen-of_next rule lines line goes) [ inl on ↦ inl (was.1 on.0, on.1) | inr new ↦ inr new ])),
        )
