-- A step of a build, along the links that it has made so far.
use Rattle.std.proofs.Common.{◌≡◌, ℕ, ◌<◌, ◌≤◌, ◌≢◌, List, ◌∷◌, length, Option, Some, None, refl, sym, subst, ◌∙◌, arith}
use Rattle.aho_core.specs.declared.search.Anchored.TheVariants.{No}
use Rattle.aho_core.specs.Bytes.{folded}
use Rattle.aho_core.specs.Failure.{failure_of}
use Rattle.aho_core.specs.Patterns.{Patterns}
use Rattle.aho_core.specs.Step.{depth_of, follow}
use Rattle.aho_laws.proofs.ByLinks.{failure-is_node}
use Rattle.aho_build.specs.FailureLinks.{CanStep, CanStepBySome, StepsTo}
use Rattle.aho_build.specs.FirstStates.{root_id}
use Rattle.aho_build.specs.StateNames.{IsStateOf}
use Rattle.aho_table.specs.Table.{State, fail_id, next_in, fail_in, depth_in}
use Rattle.aho_build.proofs.Built.{AreNodes-trie}
use Rattle.aho_build.proofs.LinkedNodes.{state_below, state_depth, step-taken, step-failed}

-- a failure link is nearer to the start
pub depth-failure : (p : Patterns) (y : ℕ) (u : List ℕ) (state : Option (List ℕ)) → failure_of p (y ∷ u) ≡ state → depth_of state < length (y ∷ u)
depth-failure p y u None e = omega arith
depth-failure p y u (Some v) e = omega (arith, (failure-is_node p y u v e).1)

-- the way so far: from the state that is looked at now the byte leads where the whole step does
abbrev pub IsOnTheWay : List State → ℕ → ℕ → ℕ → Type 0
IsOnTheWay states from byte sid =
    (p : Patterns) (names : List (Option (List ℕ))) (state : Option (List ℕ)) → CanStep p names states from state
    → (further : Option (List ℕ)) × IsStateOf names further sid × (depth_of further ≤ depth_of state) × (follow p No state (folded p byte) ≡ follow p No further (folded p byte))

pub way-none : (states : List State) (from byte : ℕ) → IsOnTheWay states from byte from
way-none states from byte = λ p names state can. (state, can.at, omega arith, refl)

-- down a failure link
go_down : (states : List State) (from byte sid : ℕ) → byte < 256 → IsOnTheWay states from byte sid → next_in states sid byte ≡ fail_id
    → (p : Patterns) (names : List (Option (List ℕ))) (state : Option (List ℕ)) → CanStep p names states from state
    → (further : Option (List ℕ)) × IsStateOf names further (fail_in states sid) × (depth_of further ≤ depth_of state) × (follow p No state (folded p byte) ≡ follow p No further (folded p byte))
    × (depth_in states (fail_in states sid) < depth_in states sid)
go_down states from byte sid small way none p names state can =
    let nodes = AreNodes-trie p names states can.trie in
    let now = way p names state can in
    let down = step-failed root_id p names states nodes (depth_of state) can.links now.0 sid byte small now.2 now.1 none in (
      down.0,
      down.1,
      omega (arith, down.2, now.2),
      now.3 ∙ down.3,
      omega (arith, down.2, state_depth root_id p names states nodes can.dead now.0 sid now.1, state_depth root_id p names states nodes can.dead down.0 (fail_in states sid) down.1),
    )

pub way-down : (states : List State) (from byte sid : ℕ) → byte < 256 → IsOnTheWay states from byte sid → next_in states sid byte ≡ fail_id → IsOnTheWay states from byte (fail_in states sid)
way-down states from byte sid small way none = λ p names state can. let down = go_down states from byte sid small way none p names state can in (down.0, down.1, down.2, down.3)

-- which is nearer to the start
pub way-nearer : (states : List State) (from byte sid : ℕ) → byte < 256 → IsOnTheWay states from byte sid → next_in states sid byte ≡ fail_id → CanStepBySome states from → depth_in states (fail_in states sid) < depth_in states sid
way-nearer states from byte sid small way none some = (go_down states from byte sid small way none some.0 some.1.0 some.1.1.0 some.1.1.1).4

-- the way ends where a state takes the byte
pub way-end : (states : List State) (from byte sid : ℕ) → byte < 256 → IsOnTheWay states from byte sid → next_in states sid byte ≢ fail_id → StepsTo states from byte (next_in states sid byte)
way-end states from byte sid small way some = λ p names state can.
    let now = way p names state can in
    let t = step-taken root_id p names states (AreNodes-trie p names states can.trie) (depth_of state) can.links now.0 sid byte small now.1 some in
    subst (λ (s : Option (List ℕ)). IsStateOf names s (next_in states sid byte)) (sym now.3) t.0

pub way-below : (states : List State) (from byte sid : ℕ) → IsOnTheWay states from byte sid → CanStepBySome states from → sid < length states
way-below states from byte sid way some =
    let can = some.1.1.1 in
    let now = way some.0 some.1.0 some.1.1.0 can in
    state_below root_id some.0 some.1.0 states (AreNodes-trie some.0 some.1.0 states can.trie) now.0 sid now.1
