-- What the searcher of a slice of byte strings is of, or of those that an iterator gave, and why its build fails.
use Rattle.std.proofs.Common.{◌≡◌, ◌∙◌, ap, sym, subst, [], ◌∷◌, ◌++◌, inl, inr, refl, Iter, List, ℕ, None, Option, Some, map}
use Rattle.std.specs.Prelude.{Err, IfOk, Ok, Result, length, ⊤}
use Rattle.std.proofs.iter.Yields.{copies, fronts}
use Rattle.std.proofs.lemmas.Iterator.{YieldsList, YieldsList-from_slice, items_from_drains}
use Rattle.std.proofs.lemmas.Iterator.Consumers.{YieldsList-from_copied}
use Rattle.std.proofs.lemmas.List.{map-append, map-id}
use Rattle.std.specs.Iterator.{AlwaysYields, Drains, DrainsIf, Yields}
use Rattle.std.specs.Iterator.Adapters.{copied_source}
use Rattle.std.specs.Iterator.Runs.{WholeRun}
use Rattle.std.specs.Slice.Iter.{iter_rest}
use Rattle.std.specs.declared.iter.Copied.{Copied}
use denote.Ref.{Bor}
use Rattle.aho_core.specs.Patterns.{Patterns}
use Rattle.aho_core.specs.declared.error.BuildError.{BuildError}
use Rattle.aho_build.specs.Items.{HasYielded, IsFailure, IsFirstRefused, OfAccepted, patterns_of}
use Rattle.aho_build.specs.Refusals.{Growth, cause}
use Rattle.aho_build.specs.declared.settings.Settings.{Settings}
use Rattle.chromesquid.specs.Building.{IsFailureOf}

-- items that were given are the first of those that are given in every run
first_of_given : {A S : Type 0} (steps : S → Option A → S → Type 0) (given all : List A) (from upto : S) → Yields steps from given upto
    → AlwaysYields steps (λ x. x) from all → (more : List A) × (all ≡ given ++ more)
first_of_given steps [] all from upto yields always = (all, refl)
first_of_given steps (x ∷ given) [] from upto yields always = absurd (always x yields.0 yields.1)
first_of_given steps (x ∷ given) (y ∷ all) from upto yields always =
    let next = always.1 x yields.0 yields.1 in
    let rest = first_of_given steps given all yields.0 upto yields.2 next.1 in
    (rest.0, ap (λ z. z ∷ all) (sym next.0) ∙ ap (λ zs. x ∷ zs) rest.1)

-- what is true of a value, and what else is true of it
pub both_ok : {B E : Type 0} (r : Result B E) (P Q : B → Type 0) → IfOk r P → IfOk r Q → IfOk r (λ b. P b × Q b)
both_ok (Ok b) P Q p q = (p, q)
both_ok (Err e) P Q p q = tt

module _ {S : Type 0} (gives : S → Option (Bor (List ℕ)) → S → Type 0) (state : S) (settings : Settings) where
  -- an iterator gave these items until it ended
  drains_of : (items : List (Bor (List ℕ))) → DrainsIf gives ⊤ state items → Drains gives state items
  drains_of items ran = let ended = ran.2 tt in (ended.0, (ran.0, ran.1, ended.1))

  -- what is true of the items that were collected is true of the run that gave them
  pub run_of_collected : {B E : Type 0} (is_true : B → Patterns → Type 0) (built : Result B E) (held kept : List (Bor (List ℕ))) (count : ℕ) → held ≡ kept
      → WholeRun gives state (λ run. (kept ≡ run.items) × (count ≡ length run.items)) → IfOk built (λ b. is_true b (patterns_of settings held))
      → IfOk built (λ b. WholeRun gives state (λ run. is_true b (patterns_of settings run.items)))
  run_of_collected is_true (Ok b) held kept count same run of =
      (run.0, run.1, run.2, subst (λ (xs : List (Bor (List ℕ))). is_true b (patterns_of settings xs)) (same ∙ run.3.0) of)
  run_of_collected is_true (Err e) held kept count same run of = tt

  -- a build of what was collected fails for what the items ask for
  pub failure_of_collected : (held items : List (Bor (List ℕ))) → DrainsIf gives ⊤ state items → held ≡ items → (error : BuildError) → IsFailureOf settings (patterns_of settings held) error
      → IsFailure gives state settings error
  failure_of_collected held items ran same error failure =
      elim failure [
        | inl memory ↦ inl memory
        | inr refusal ↦ inr (
          items,
          (refusal.0, (refusal.2, inr (drains_of items ran, subst (λ (xs : List (Bor (List ℕ))). cause settings (patterns_of settings xs) ≡ Some refusal.0) same refusal.1))),
        )
      ]

module _ (state : Copied (Iter (Bor (List ℕ)))) (patterns : List (Bor (List ℕ))) (is : iter_rest (copied_source state) ≡ patterns) where
  gives_all : YieldsList (copies fronts) (λ item. item) state patterns
  gives_all = YieldsList-from_copied (YieldsList-from_slice patterns is)

  -- all items of the slice were given
  drained_all : (items : List (Bor (List ℕ))) → Drains (copies fronts) state items → items ≡ patterns
  drained_all items drained = sym (map-id items) ∙ items_from_drains items (drained.1.0, drained.1.1, λ _. (drained.0, drained.1.2)) gives_all

  module _ (settings : Settings) where
    -- what is true of the items that were accepted is true of the slice, of which the limits refuse nothing
    pub of_slice : (is_true : Patterns → Type 0) → OfAccepted (copies fronts) state settings is_true
        → is_true (patterns_of settings patterns) × (cause settings (patterns_of settings patterns) ≡ None)
    of_slice is_true accepted =
        let all = drained_all accepted.0 accepted.1.0 in (
          subst (λ (items : List (Bor (List ℕ))). is_true (patterns_of settings items)) all accepted.2,
          subst (λ (items : List (Bor (List ℕ))). cause settings (patterns_of settings items) ≡ None) all accepted.1.1,
        )

    -- what the first items of the slice met is the cause for all of them
    cause_of_first : (items : List (Bor (List ℕ))) (refused : Growth) → HasYielded (copies fronts) state items → IsFirstRefused settings items refused
        → cause settings (patterns_of settings patterns) ≡ Some refused
    cause_of_first items refused yielded first =
        let rest = first_of_given (copies fronts) items patterns state yielded.0 yielded.1 gives_all.runs in
        subst (λ (all : List (Bor (List ℕ))). cause settings (patterns_of settings all) ≡ Some refused) (sym rest.1)
        (subst (λ (words : List (List ℕ)). cause settings (record { words = words; kind = settings.kind; ignore_case = settings.ignore_case }) ≡ Some refused)
        (sym (map-append (λ (item : Bor (List ℕ)). item.now) items rest.0))
        (first.cause.longer (map (λ (item : Bor (List ℕ)). item.now) rest.0)))

    -- so the build of the slice fails for what its patterns ask for
    pub failure_of_slice : (error : BuildError) → IsFailure (copies fronts) state settings error → IsFailureOf settings (patterns_of settings patterns) error
    failure_of_slice error failure =
        elim failure [
          | inl memory ↦ inl memory
          | inr refusal ↦
              (let refused = refusal.1.0 in
              elim refusal.1.1.1 [
                | inl met ↦ inr (refused, cause_of_first refusal.0 refused met.0 met.1, refusal.1.1.0)
                | inr drained ↦ inr (
                  refused,
                  subst (λ (items : List (Bor (List ℕ))). cause settings (patterns_of settings items) ≡ Some refused) (drained_all refusal.0 drained.0) drained.1,
                  refusal.1.1.0,
                )
              ])
        ]
