-- What comes of a check by patterns, from what is seen of files up to its status.
use Rattle.acredact.proofs.Common.{Bool, Call, ComesOf, Err, Errors, Failure, IfErr, IsFailureLine, IsUnreadLine, List, None, Ok, Option, Other, OutOfMemory, Result, Secret, SeesFiles, SinkGhosts, Strict, Tells, TellsBytes, TellsDoubts, Verdict, arith, false, has, inl, inr, names_asked, reading_by, refl, subst, sym, tells-later, true, verdict_as, ℕ, ◌∙◌, ◌≡◌}
use Rattle.std.specs.Prelude.{◌<◌}
use Rattle.acredact.specs.Arguments.{gives_pattern}
use Rattle.acredact.specs.Checks.{CheckOutcome, CheckSays, CheckStatus, IsCheckLine, LooksBehind, quest_by}
use Rattle.acredact.specs.Loading.{AreGiven}
use Rattle.acredact.specs.Statuses.{check_status}
use Rattle.acredact.proofs.Calls.{none_are, tells_both, tells_weaker, doubts_tell}
use Rattle.acredact.proofs.Outcomes.{comes_early}

-- the status of a check that failed tells so
pub says_failed : (Unmatched Matched Quiet Told : Type 0) → Told → CheckSays Unmatched Matched Quiet Told 2
says_failed Unmatched Matched Quiet Told told = record {
  unmatched = λ (is : 2 ≡ 0). absurd (omega arith);
  matched = λ (is : 2 ≡ 1). absurd (omega arith);
  quiet = λ (less : 2 < 2). absurd (omega arith);
  tells = λ is. told;
}

-- and that of another what was seen
pub seen_says : {E : Type 0} {K : SinkGhosts E} {IsTold : List ℕ → Type 0} {Whole : Verdict → Type 0} {Partly Begun Notes Told : Type 0} {MayEnd : Failure → Type 0} {old new : Errors E} (verdict : Verdict) → (Partly → Told)
    → ComesOf K IsTold (λ (v : Verdict). v.all) Whole Partly Begun Notes MayEnd (Ok verdict) old new → CheckSays (Whole (verdict_as false true)) (Whole (verdict_as true true)) Notes Told (check_status verdict)
seen_says {Whole = Whole} {Partly = Partly} {Notes = Notes} {Told = Told} verdict tells of = by verdict.found verdict.all of.whole of.notes of.partly
  where
    by : (found all : Bool) → (all ≡ true → Whole (verdict_as found all)) → (all ≡ true → Notes) → (all ≡ false → Partly) → CheckSays (Whole (verdict_as false true)) (Whole (verdict_as true true)) Notes Told (check_status (verdict_as found all))
    by true true whole notes partly = record {
      unmatched = λ (is : 1 ≡ 0). absurd (omega arith);
      matched = λ is. whole refl;
      quiet = λ less. notes refl;
      tells = λ (is : 1 ≡ 2). absurd (omega arith);
    }
    by false true whole notes partly = record {
      unmatched = λ is. whole refl;
      matched = λ (is : 0 ≡ 1). absurd (omega arith);
      quiet = λ less. notes refl;
      tells = λ (is : 0 ≡ 2). absurd (omega arith);
    }
    by found false whole notes partly = says_failed _ _ _ _ (tells (partly refl))

module _ {E : Type 0} (K : SinkGhosts E) (call : Call) (left : Option (List ℕ)) (old : Errors E) where
  -- what comes of a check whose patterns were loaded: some may be told to be doubtful
  module _ (secrets : List Secret) (between : Option (List ℕ)) (mid : Errors E) (loaded : AreGiven (reading_by call) call.given secrets left between) (doubts : TellsDoubts K (has Strict call.given) call.given secrets old mid) where
    pub doubts_told : Tells K (IsCheckLine call) old mid
    doubts_told = doubts_tell K (IsCheckLine call) (has Strict call.given) call.given secrets old mid (λ lax line member. inr (lax, secrets, left, between, loaded, member)) doubts

    looks_told : (new : Errors E) → Tells K (IsUnreadLine (names_asked call.given)) mid new → Tells K (IsCheckLine call) old new
    looks_told new told = tells_both K (IsCheckLine call) old mid new doubts_told (tells_weaker K (IsUnreadLine (names_asked call.given)) (IsCheckLine call) mid new (λ line is. inl is) told)

    -- and then its files were looked at
    pub check_looked : (left' : Option (List ℕ)) (new : Errors E) (result : Result Verdict Failure) → gives_pattern call.given ≡ true → SeesFiles K (quest_by call secrets) (names_asked call.given) result between left' None None mid new
        → IfErr result (λ failure. failure ≡ Other OutOfMemory) → CheckOutcome K call result left left' old new
    check_looked left' new (Ok verdict) some sees why =
        let (is_all, quiet, seen) = sees.seen in
        let looks : LooksBehind K call verdict.found sees.told.told left left' old new =
        record { sees = record { some = some; secrets = secrets; between = between; loaded = loaded; seen = seen }; between = mid; doubts = doubts; told = sees.told.written } in
        record {
          whole = λ all. rw (none_are sees.told.told (sym is_all ∙ all)) at looks.sees;
          begun = tt;
          told = looks_told new sees.told;
          partly = λ part. record { found = verdict.found; lines = sees.told.told; some = sym is_all ∙ part; seen = looks };
          notes = λ all. record { secrets = secrets; between = between; loaded = loaded; doubts = subst (λ (e : Errors E). TellsDoubts K (has Strict call.given) call.given secrets old e) (sym (quiet all)) doubts };
          fails = tt;
        }
    check_looked left' new (Err failure) some sees memory = comes_early tt (looks_told new sees.told) (inr (inl (inr memory)))

-- its status where it did not come to its end, and that was told
pub status_ended : {E : Type 0} (K : SinkGhosts E) (call : Call) (left left' : Option (List ℕ)) (old : Errors E) (failure : Failure) (mid new : Errors E) (line : List ℕ)
    → CheckOutcome K call (Err failure) left left' old mid → IsFailureLine failure line → TellsBytes K mid new line → CheckStatus K call 2 left left' old new
status_ended K call left left' old failure mid new line of is told =
    says_failed _ _ _ _ (inr (record { lines = of.told.told; are_told = of.told.are_lines; failure = failure; fails = of.fails; line = line; is_line = is; told = tells-later K of.told.written told }))
