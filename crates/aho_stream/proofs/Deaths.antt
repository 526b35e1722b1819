-- Where the state of the given bytes dies.
use Rattle.std.proofs.Common.{◌≡◌, ◌≢◌, ℕ, ◌≤◌, Bool, true, false, List, [], ◌∷◌, ◌++◌, length, refl, sym, ◌∙◌, ap, arith}
use Rattle.std.specs.Prelude.{Option, Some, None, is_none, slice_range}
use Rattle.aho_core.specs.Bytes.{folded_word}
use Rattle.aho_core.specs.Held.{held_after}
use Rattle.aho_core.specs.Laws.{BestAfter, Reads}
use Rattle.aho_core.specs.Occurrence.{Occurrence}
use Rattle.aho_core.specs.Patterns.{Patterns}
use Rattle.aho_core.specs.Step.{follow_along}
use Rattle.aho_core.specs.declared.search.Anchored.{Anchored}
use Rattle.aho_core.specs.declared.search.Anchored.TheVariants.{No}
use Rattle.aho_core.specs.declared.search.MatchKind.{MatchKind}
use Rattle.aho_core.specs.declared.search.MatchKind.TheVariants.{Standard}
use Rattle.aho_laws.proofs.LiteralReadings.{held-dead, longest_node, longest_node-is}
use Rattle.aho_laws.proofs.LookUps.{held_after-along}
use Rattle.aho_automaton.proofs.Places.{part_join}
use Rattle.aho_stream.specs.After.{NothingBegins, is_settled}
use Rattle.aho_stream.specs.Chunks.{DiesAt}
use Rattle.aho_stream.proofs.PassedOver.{held_apart}
use Rattle.aho_stream.proofs.Walks.{unsettled_leftmost}

-- no byte leads out of the dead state
dead_along : (p : Patterns) (word : List ℕ) → follow_along p No None word ≡ None
dead_along p [] = refl
dead_along p (x ∷ word) = dead_along p word

dead_more : (p : Patterns) (word more : List ℕ) → held_after p No word ≡ None → held_after p No (word ++ more) ≡ None
dead_more p word more dead = held_after-along p No word more ∙ ap (λ (s : Option (List ℕ)). follow_along p No s (folded_word p more)) dead ∙ dead_along p (folded_word p more)

none_of : {A : Type 0} (found : Option A) → is_none found ≡ true → found ≡ None
none_of None e = refl
none_of (Some x) e = cc

module _ {p : Patterns} {kind : MatchKind} {lengths : List ℕ} {held : Anchored → List ℕ → ℕ → Type 0} {list : ℕ → List ℕ} {dead starts : ℕ → Bool}
    (laws : Reads p kind lengths held list dead starts) (given : List ℕ) (from origin walked sid : ℕ) (before : from ≤ origin) (apart : NothingBegins p given from origin)
    (leftmost : p.kind ≢ Standard) (is_held : held No (slice_range given origin walked) sid) where
  other_kind : kind ≢ Standard
  other_kind e = leftmost (sym laws.kind_is ∙ e)

  -- where the state that was walked to is dead, the definitions' one is by the end of the bytes
  pub dies : origin ≤ walked → walked ≤ length given → dead sid ≡ true → DiesAt p given from (length given)
  dies ordered within died =
      let here : held_after p No (slice_range given origin walked) ≡ None = none_of (held_after p No (slice_range given origin walked)) (sym (laws.dead_is (slice_range given origin walked) sid other_kind is_held) ∙ died) in (
        omega (arith, before, ordered, within),
        omega arith,
        held_apart p given from origin before (omega (arith, ordered, within)) apart
            ∙ ap (held_after p No) (part_join given origin walked (length given) ordered within)
            ∙ dead_more p (slice_range given origin walked) (slice_range given walked (length given)) here,
      )

  -- and where the match in hand is not settled, it was dead nowhere before
  pub lives : (best : Option Occurrence) → origin ≤ walked → is_settled kind (dead sid) best ≡ false → BestAfter p No (slice_range given origin walked) best → walked ≡ length given → (place : ℕ) → DiesAt p given from place → ⊥
  lives best ordered going is_best all place died =
      let whole : held_after p No (slice_range given from (length given)) ≡ None =
      ap (held_after p No) (part_join given from place (length given) died.0 died.1) ∙ dead_more p (slice_range given from place) (slice_range given place (length given)) died.2 in
      alive best going is_best
      (ap (λ (end : ℕ). held_after p No (slice_range given origin end)) all ∙ sym (held_apart p given from origin before (omega (arith, ordered, all)) apart) ∙ whole)
    where
      alive : (best : Option Occurrence) → is_settled kind (dead sid) best ≡ false → BestAfter p No (slice_range given origin walked) best → held_after p No (slice_range given origin walked) ≡ None → ⊥
      alive None going none dead_now =
          let word = slice_range given origin walked in
          let before = ((held-dead p word (longest_node p (folded_word p word)) (longest_node-is p (folded_word p word))).0 dead_now).1 in
          none before.found before.occurs
      alive (Some m) going best dead_now =
          let alive_now = (unsettled_leftmost kind (dead sid) m going).1 in
          let is = laws.dead_is (slice_range given origin walked) sid other_kind is_held ∙ ap is_none dead_now in cc
