-- Why a build is refused: while it takes the patterns, or what comes behind them.
use Rattle.std.proofs.Common.{◌≡◌, ℕ, ◌+◌, ◌*◌, ◌<◌, ◌≤◌, Bool, inl, inr, List, Option, Some, ◌∙◌, ap, subst, arith}
use Rattle.std.specs.Iterator.{Drains}
use denote.Ref.{Bor}
use Rattle.aho_core.specs.declared.error.BuildError.{BuildError}
use Rattle.aho_core.specs.declared.error.BuildError.TheVariants.{StateIDOverflow}
use Rattle.aho_core.specs.Patterns.{Patterns}
use Rattle.aho_table.specs.Refusal.{IsRefusalOf}
use Rattle.aho_build.specs.declared.settings.Settings.{Settings}
use Rattle.aho_build.specs.Items.{patterns_of, HasYielded, IsFailure, IsStopped}
use Rattle.aho_build.specs.Dense.{IsRowRefusal, classes_size, row_start, rows_size}
use Rattle.aho_build.specs.Sizes.{matches_size}
use Rattle.aho_build.specs.Refusals.{TableIndex, IsAccepted, cause, own_size, start_size}
use Rattle.aho_build.specs.Settings.{in_force}
use Rattle.aho_build.proofs.RefusedGrowths.{AreRowsWithin, cause-start, cause-row, cause-past}

module _ {S : Type 0} (gives : S → Option (Bor (List ℕ)) → S → Type 0) (state : S) (settings : Settings) (items : List (Bor (List ℕ))) (error : BuildError) where
  abbrev patterns : Patterns
  patterns = patterns_of settings items

  -- the build stopped while it took patterns
  pub IsRefusal-stopped : HasYielded gives state items → IsStopped settings items error → IsFailure gives state settings error
  IsRefusal-stopped yielded stopped =
      elim stopped [
        | inl memory ↦ inl memory
        | inr met ↦ inr (items, (met.0, (met.2, inl (yielded, met.1))))
      ]

  module _ (limit : ℕ) (same : limit ≡ (in_force settings).id) (drained : Drains gives state items) (accepted : IsAccepted settings patterns) where
    -- an entry past the limit, where this is the first thing that the limits refuse
    refused_at : (size : ℕ) → IsRefusalOf limit size error → ((in_force settings).id + 1 < size → cause settings patterns ≡ Some (TableIndex ((in_force settings).id + 1)))
        → IsFailure gives state settings error
    refused_at size refusal found =
        elim refusal [
          | inl memory ↦ inl memory
          | inr full ↦
              inr (
                items,
                (TableIndex ((in_force settings).id + 1), (full.0 ∙ ap (λ (n : ℕ). StateIDOverflow n (n + 1)) same, inr (drained, found (omega (arith, full.1, same))))),
              )
        ]

    -- or while the anchored start got its matches
    pub IsRefusal-start : own_size patterns ≤ (in_force settings).id + 1 → IsRefusalOf limit (own_size patterns + start_size patterns) error → IsFailure gives state settings error
    IsRefusal-start room refusal = refused_at (own_size patterns + start_size patterns) refusal (cause-start settings patterns accepted room)

    module _ (few : own_size patterns + start_size patterns ≤ (in_force settings).id + 1) where
      -- or while states got rows
      pub IsRefusal-row : (borders : List Bool) (count : ℕ) → count ≡ rows_size settings.dense_depth patterns → ((row : ℕ) → row_start borders row ≡ row * classes_size patterns + 1)
          → IsRowRefusal limit borders count error → IsFailure gives state settings error
      IsRefusal-row borders count counted start refusal =
          elim refusal [
            | inl memory ↦ inl memory
            | inr full ↦
                (let row = full.0 in
                let past = subst (λ (n : ℕ). (in_force settings).id < n) (start row) (subst (λ (n : ℕ). n < row_start borders row) same full.2.past) in
                let found = cause-row settings patterns accepted row few (subst (λ (n : ℕ). row < n) counted full.1) past
                (λ earlier less. subst (λ (n : ℕ). n ≤ (in_force settings).id) (start earlier) (subst (λ (n : ℕ). row_start borders earlier ≤ n) same (full.2.earlier earlier less))) in
                inr (
                  items,
                  (
                    TableIndex (row * classes_size patterns + 1),
                    (full.3 ∙ ap (λ (n : ℕ). StateIDOverflow n (row_start borders row)) same ∙ ap (StateIDOverflow ((in_force settings).id)) (start row), inr (drained, found)),
                  ),
                ))
          ]

      -- or while it copied the matches
      pub IsRefusal-copied : AreRowsWithin settings patterns → IsRefusalOf limit (matches_size patterns) error → IsFailure gives state settings error
      IsRefusal-copied rows refusal = refused_at (matches_size patterns) refusal (cause-past settings patterns accepted few rows)
