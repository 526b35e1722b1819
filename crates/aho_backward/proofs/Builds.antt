-- Why the build of an automaton of a slice of byte strings fails.
use Rattle.std.proofs.Common.{◌≡◌, ◌∙◌, ap, sym, subst, [], ◌∷◌, ◌++◌, inl, inr, refl, Iter, List, ℕ, Option, Some, map}
use Rattle.std.specs.Prelude.{Err, IfErr, Ok, Result}
use Rattle.std.proofs.iter.Yields.{copies, fronts}
use Rattle.std.proofs.lemmas.Iterator.{YieldsList, YieldsList-from_slice, items_from_drains}
use Rattle.std.proofs.lemmas.Iterator.Consumers.{YieldsList-from_copied}
use Rattle.std.proofs.lemmas.List.{map-append, map-id}
use Rattle.std.specs.Iterator.{AlwaysYields, Drains, Yields}
use Rattle.std.specs.Iterator.Adapters.{copied_source}
use Rattle.std.specs.Slice.Iter.{iter_rest}
use Rattle.std.specs.declared.iter.Copied.{Copied}
use denote.Ref.{Bor}
use Rattle.aho_core.specs.declared.error.BuildError.{BuildError}
use Rattle.aho_core.specs.declared.search.MatchKind.{MatchKind}
use Rattle.std.specs.Prelude.{Bool}
use Rattle.aho_build.specs.Items.{HasYielded, IsFailure, IsFirstRefused, patterns_of}
use Rattle.aho_build.specs.Refusals.{Growth, cause}
use Rattle.aho_build.specs.declared.settings.Settings.{Settings}
use Rattle.aho_backward.specs.Making.{IsOutOfRoom, unaided_settings}

-- items that were given are the first of those that are given in every run
first_of_given : {A S : Type 0} (steps : S → Option A → S → Type 0) (given all : List A) (from upto : S) → Yields steps from given upto
    → AlwaysYields steps (λ x. x) from all → (more : List A) × (all ≡ given ++ more)
first_of_given steps [] all from upto yields always = (all, refl)
first_of_given steps (x ∷ given) [] from upto yields always = absurd (always x yields.0 yields.1)
first_of_given steps (x ∷ given) (y ∷ all) from upto yields always =
    let next = always.1 x yields.0 yields.1 in
    let rest = first_of_given steps given all yields.0 upto yields.2 next.1 in
    (rest.0, ap (λ z. z ∷ all) (sym next.0) ∙ ap (λ zs. x ∷ zs) rest.1)

module _ (state : Copied (Iter (Bor (List ℕ)))) (patterns : List (Bor (List ℕ))) (is : iter_rest (copied_source state) ≡ patterns) (kind : MatchKind) (ignore_case : Bool) where
  abbrev settings : Settings
  settings = unaided_settings kind ignore_case

  gives_all : YieldsList (copies fronts) (λ item. item) state patterns
  gives_all = YieldsList-from_copied (YieldsList-from_slice patterns is)

  -- all items of the slice were given
  drained_all : (items : List (Bor (List ℕ))) → Drains (copies fronts) state items → items ≡ patterns
  drained_all items drained = sym (map-id items) ∙ items_from_drains items (drained.1.0, drained.1.1, λ _. (drained.0, drained.1.2)) gives_all

  -- what the first items of the slice met is the cause for all of them
  cause_of_first : (items : List (Bor (List ℕ))) (refused : Growth) → HasYielded (copies fronts) state items → IsFirstRefused settings items refused
      → cause settings (patterns_of settings patterns) ≡ Some refused
  cause_of_first items refused yielded first =
      let rest = first_of_given (copies fronts) items patterns state yielded.0 yielded.1 gives_all.runs in
      subst (λ (all : List (Bor (List ℕ))). cause settings (patterns_of settings all) ≡ Some refused) (sym rest.1)
      (subst (λ (words : List (List ℕ)). cause settings (record { words = words; kind = settings.kind; ignore_case = settings.ignore_case }) ≡ Some refused)
      (sym (map-append (λ (item : Bor (List ℕ)). item.now) items rest.0))
      (first.cause.longer (map (λ (item : Bor (List ℕ)). item.now) rest.0)))

  -- so the build of the slice fails for what its patterns ask for
  out_of_room : (error : BuildError) → IsFailure (copies fronts) state settings error → IsOutOfRoom (patterns_of settings patterns) error
  out_of_room error failure =
      elim failure [
        | inl memory ↦ inl memory
        | inr refusal ↦
            (let refused = refusal.1.0 in
            elim refusal.1.1.1 [
              | inl met ↦ inr (refused, cause_of_first refusal.0 refused met.0 met.1, refusal.1.1.0)
              | inr drained ↦ inr (
                refused,
                subst (λ (items : List (Bor (List ℕ))). cause settings (patterns_of settings items) ≡ Some refused) (drained_all refusal.0 drained.0) drained.1,
                refusal.1.1.0,
              )
            ])
      ]

  pub fails_for : {T : Type 0} (r : Result T BuildError) (set : Settings) → set ≡ settings → IfErr r (IsFailure (copies fronts) state set) → IfErr r (IsOutOfRoom (patterns_of settings patterns))
  fails_for (Ok made) set same failure = tt
  fails_for (Err error) set same failure = out_of_room error (subst (λ (s : Settings). IsFailure (copies fronts) state s error) same failure)
