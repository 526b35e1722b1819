-- Calls of an iterator that holds one of two others are calls of the one that is there.
use Rattle.std.proofs.Common.{◌≡◌, ℕ, Bool, List, [], ◌∷◌, Option, Some, None, refl, subst}
use Rattle.std.specs.Iterator.{Yields}
use Rattle.std.specs.Iterator.Runs.{EachRunFrom, YieldsRun}
use Rattle.aho_automaton.specs.Fused.{CallsGive, IsFused}
use Rattle.either.specs.Either.{SameSide}
use Rattle.either.specs.Iterator.{either_steps}
use Rattle.either.specs.declared.Either.{Either}
use Rattle.either.specs.declared.Either.TheVariants.{Left, Right}

module _ {L R : Type 0} (P : L → L → Type 0) (Q : R → R → Type 0) where
  -- what stays on its side
  stays_left : (i : L) (e : Either L R) → SameSide P Q (Left i) e → (j : L) × P i j × (e ≡ Left j)
  stays_left i (Left j) step = (j, step, refl)
  stays_left i (Right j) step = absurd step

  stays_right : (i : R) (e : Either L R) → SameSide P Q (Right i) e → (j : R) × Q i j × (e ≡ Right j)
  stays_right i (Left j) step = absurd step
  stays_right i (Right j) step = (j, step, refl)

-- steps of one thing that are steps of another, by what it holds
module _ {I O X : Type 0} (inner : I → Option X → I → Type 0) (outer : O → Option X → O → Type 0) (Holds : O → I → Type 0)
    (back : (s : O) (i : I) (o : Option X) (t : O) → Holds s i → outer s o t → (j : I) × inner i o j × Holds t j) where
  pub yields_back : (items : List X) (s t : O) (i : I) → Holds s i → Yields outer s items t → (j : I) × Yields inner i items j × Holds t j
  yields_back [] s t i holds same = (i, refl, subst (λ (o : O). Holds o i) same holds)
  yields_back (x ∷ items) s t i holds yields =
      let first = back s i (Some x) yields.0 holds yields.1 in
      let rest = yields_back items yields.0 t first.0 first.2 yields.2 in
      (rest.0, (first.0, first.1, rest.1), rest.2)

  calls_back : (given : List (Option X)) (s t : O) (i : I) → Holds s i → CallsGive outer s given t → (j : I) × CallsGive inner i given j
  calls_back [] s t i holds same = (i, refl)
  calls_back (o ∷ given) s t i holds calls =
      let first = back s i o calls.0 holds calls.1 in
      let rest = calls_back given calls.0 t first.0 first.2 calls.2 in
      (rest.0, (first.0, first.1, rest.1))

  -- what holds of each run of what is held holds of each run
  pub each_run : (P : List X → Bool → ℕ → Type 0) (s : O) (i : I) → Holds s i → EachRunFrom inner i (λ run. P run.items run.whole run.len)
      → EachRunFrom outer s (λ run. P run.items run.whole run.len)
  unfolding YieldsRun
  each_run P s i holds each = λ run seen from.
      let moved = yields_back run.items s run.gave.0.0 i holds (subst (λ (o : O). Yields outer o run.items run.gave.0.0) from run.gave.0.1) in
      each (record {
        from = i;
        items = run.items;
        whole = run.whole;
        len = run.len;
        at = run.at;
        seen = run.seen;
        long = run.long;
        reads = run.reads;
        gave = (
          (moved.0, moved.1, λ whole. let then = run.gave.0.2 whole in let end = back run.gave.0.0 moved.0 None then.0 moved.2 then.1 in (end.0, end.1)),
          run.gave.1,
        );
      }) seen refl

  -- and once it gave none it gives none
  pub fused_back : (s : O) (i : I) → Holds s i → IsFused inner i → IsFused outer s
  fused_back s i holds is = λ ms u t rest yields calls.
      let moved = yields_back ms s yields.0 i holds yields.1 in
      let end = back yields.0 moved.0 None u moved.2 yields.2 in
      let later = calls_back rest u t end.0 end.2 calls in
      is ms end.0 later.0 rest (moved.0, moved.1, end.1) later.1

-- an iterator that holds one of two
module _ {L R O X : Type 0} (lefts : L → Option X → L → Type 0) (rights : R → Option X → R → Type 0) (by : O → Either L R) where
  -- a call of it
  abbrev pub held_steps : O → Option X → O → Type 0
  held_steps s o t = either_steps lefts rights (by s) o (by t)

  abbrev pub HoldsLeft : O → L → Type 0
  HoldsLeft s i = by s ≡ Left i

  abbrev pub HoldsRight : O → R → Type 0
  HoldsRight s i = by s ≡ Right i

  pub back_left : (s : O) (i : L) (o : Option X) (t : O) → HoldsLeft s i → held_steps s o t → (j : L) × lefts i o j × HoldsLeft t j
  back_left s i o t holds step = stays_left (λ x. lefts x o) (λ y. rights y o) i (by t) (subst (λ (e : Either L R). either_steps lefts rights e o (by t)) holds step)

  pub back_right : (s : O) (i : R) (o : Option X) (t : O) → HoldsRight s i → held_steps s o t → (j : R) × rights i o j × HoldsRight t j
  back_right s i o t holds step = stays_right (λ x. lefts x o) (λ y. rights y o) i (by t) (subst (λ (e : Either L R). either_steps lefts rights e o (by t)) holds step)
