-- A searcher, or why there is none.
use Rattle.std.proofs.Common.{◌≡◌, ℕ, true, inl, length, refl, sym, ◌∙◌, ap, arith}
use Rattle.std.specs.Prelude.{◌≢◌, Err, IfErr, Ok, Result}
use Rattle.aho_core.specs.declared.search.MatchKind.{MatchKind}
use Rattle.aho_core.specs.declared.search.MatchKind.TheVariants.{Standard, LeftmostFirst, LeftmostLongest}
use Rattle.aho_core.specs.Failure.{is_leftmost}
use Rattle.aho_core.specs.Patterns.{Patterns}
use Rattle.aho_core.specs.Replacement.{pieces_of}
use Rattle.aho_laws.specs.CutLaws.{NoneIsEmpty}
use Rattle.aho_prefilter.specs.Prefilter.{patterns_from}
use Rattle.aho_backward.specs.Making.{IsFirstEmpty, IsUnmade, MakesNone}
use Rattle.aho_backward.specs.declared.error.BackwardError.{BackwardError}
use Rattle.aho_backward.specs.declared.error.BackwardError.TheVariants.{Build, EmptyPattern, StandardKind}
use Rattle.aho_backward.proofs.builder.Backward+NFA.new.Goals as goal

not-standard : (kind : MatchKind) → is_leftmost kind ≡ true → kind ≢ Standard
not-standard Standard leftmost = cc
not-standard LeftmostFirst leftmost = λ same. (cc)
not-standard LeftmostLongest leftmost = λ same. (cc)

-- where no pattern is empty none is the first that is
never-empty : (p : Patterns) (number : ℕ) → NoneIsEmpty p → IsFirstEmpty p.words number → ⊥
never-empty p number full first = omega (arith, full number first.within, ap length first.empty)

-- why a build failed is why no searcher is made
unmade : {T : Type 0} (p : Patterns) (result : Result T BackwardError) → is_leftmost p.kind ≡ true → NoneIsEmpty p → IfErr result (IsUnmade p) → IfErr result (MakesNone p)
unmade p (Ok made) leftmost full why = tt
unmade p (Err StandardKind) leftmost full why = absurd why
unmade p (Err (EmptyPattern number)) leftmost full why = absurd why
unmade p (Err (Build cause)) leftmost full why = (not-standard p.kind leftmost, full, why)

pub returns-in-Err-clause-empty : goal.returns-in-Err-clause-empty
returns-in-Err-clause-empty c number leftmost first =
    let p = patterns_from c.args.kind c.args.ignore_case (pieces_of c.args.patterns.now) in
    absurd (never-empty p number (c.in_default.ensures.none refl p refl) first)

pub returns-in-Err-clause-refused : goal.returns-in-Err-clause-refused
returns-in-Err-clause-refused c =
    let p = patterns_from c.args.kind c.args.ignore_case (pieces_of c.args.patterns.now) in
    let leftmost : is_leftmost c.args.kind ≡ true = sym c.chooses_by_start.ensures.leftmost ∙ c.if-not-chooses_by_start.false in
    (not-standard c.args.kind leftmost, c.in_default.ensures.none refl p refl, inl c.in-Err.ensures.refused)

pub returns-in-Ok-clause-of : goal.returns-in-Ok-clause-of
returns-in-Ok-clause-of c =
    let p = patterns_from c.args.kind c.args.ignore_case (pieces_of c.args.patterns.now) in
    let leftmost : is_leftmost c.args.kind ≡ true = sym c.chooses_by_start.ensures.leftmost ∙ c.if-not-chooses_by_start.false in
    c.searcher_by.ensures.of p c.in-Ok.ensures.of refl refl leftmost (c.in_default.ensures.none refl p refl)

pub returns-in-Ok-clause-empty : goal.returns-in-Ok-clause-empty
returns-in-Ok-clause-empty c number leftmost first =
    let p = patterns_from c.args.kind c.args.ignore_case (pieces_of c.args.patterns.now) in
    absurd (never-empty p number (c.in_default.ensures.none refl p refl) first)

pub returns-in-Ok-clause-refused : goal.returns-in-Ok-clause-refused
returns-in-Ok-clause-refused c =
    let p = patterns_from c.args.kind c.args.ignore_case (pieces_of c.args.patterns.now) in
    let leftmost : is_leftmost c.args.kind ≡ true = sym c.chooses_by_start.ensures.leftmost ∙ c.if-not-chooses_by_start.false in
    unmade p c.searcher_by.result leftmost (c.in_default.ensures.none refl p refl) (c.searcher_by.ensures.refused p c.in-Ok.ensures.of refl refl)
