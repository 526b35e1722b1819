-- The laws of the automaton that a table is.
use Rattle.std.proofs.Common.{◌≡◌, ◌⊎◌, ℕ, inl, inr, Bool, true, false, ◌||◌, List, [], ◌∷◌, ◌++◌, length, refl, sym, ◌∙◌, ap, subst, arith}
use Rattle.std.specs.Prelude.{Option, Some, None, nat_eq, nat_lt, ◌&&◌}
use Rattle.std.proofs.lemmas.Bool.{cases_eq, cond-true, eqb-true, lt-ltb}
use Rattle.std.proofs.lemmas.Bool.Decides.{nat_tests}
use Rattle.aho_core.specs.declared.search.Anchored.{Anchored}
use Rattle.aho_core.specs.declared.search.Anchored.TheVariants.{No, Yes}
use Rattle.aho_core.specs.declared.search.MatchKind.{MatchKind}
use Rattle.aho_core.specs.Held.{held_after}
use Rattle.aho_core.specs.Laws.{Reads}
use Rattle.aho_core.specs.Patterns.{Patterns}
use Rattle.aho_core.specs.Step.{depth_of}
use Rattle.aho_core.specs.Trie.{is_node}
use Rattle.aho_laws.proofs.Kept.{is_node-root}
use Rattle.aho_laws.proofs.NamedStates.{reads_by_words}
use Rattle.aho_laws.proofs.StepLaw.{held_after-push}
use Rattle.aho_build.specs.Automaton.{IsAutomaton, IsOf, IsHeldAs, IsHeld, FollowsWords, start_of, is_special_in, is_start_in}
use Rattle.aho_build.specs.declared.special.Special.{Special}
use Rattle.aho_build.specs.StateNames.{name_at, IsStateOf}
use Rattle.aho_table.specs.Table.{State, dead_id, depth_in, matches_in}
use Rattle.aho_build.specs.Walking.{IsSound, AreStarts}
use Rattle.aho_build.proofs.AutomatonStates.{held-lists, held-dead}
use Rattle.aho_build.proofs.LinkedNodes.{named-ne_dead}

-- a number that is one of two
pub one_of_two : (sid first second : ℕ) → (nat_eq sid first || nat_eq sid second) ≡ true → (sid ≡ first) ⊎ (sid ≡ second)
one_of_two sid first second h =
    elim (cases_eq sid first) [
      | inl e ↦ inl e
      | inr ne ↦ inr (grind (arith, nat_tests))
    ]

module _ (special : Special) (p : Patterns) (names : List (Option (List ℕ))) (states : List State) (a : IsAutomaton special p names states) where
  -- a start that is held unanchored is the root
  start-root : (state : Option (List ℕ)) (sid : ℕ) → IsStateOf names state sid → is_start_in special sid ≡ true → (sid ≡ special.start_unanchored_id) × (state ≡ Some [])
  start-root None sid dead start =
      elim (one_of_two sid special.start_unanchored_id special.start_anchored_id start) [
        | inl root ↦ absurd (named-ne_dead special.start_unanchored_id p names states a.nodes special.start_unanchored_id [] a.nodes.root (sym root ∙ dead))
        | inr anchored ↦ absurd (a.anchored.not_dead (sym anchored ∙ dead))
      ]
  start-root (Some word) sid named start =
      elim (one_of_two sid special.start_unanchored_id special.start_anchored_id start) [
        | inl root ↦ (root, sym named ∙ ap (name_at names) root ∙ a.nodes.root)
        | inr anchored ↦ (let clash : None ≡ Some word = sym a.anchored.unnamed ∙ sym (ap (name_at names) anchored) ∙ named in cc)
      ]

  held-start : (anchored : Anchored) → IsHeldAs special anchored names (held_after p anchored []) (start_of special anchored)
  held-start No = a.nodes.root
  held-start Yes = subst (λ (o : Option (List ℕ)). IsHeldAs special Yes names o special.start_anchored_id) (sym (cond-true (is_node p []) (Some []) None (is_node-root p))) refl

-- the states that may be held tell what the words' states do
pub reads_of : (p : Patterns) (kind : MatchKind) (lengths : List ℕ) (special : Special) (states : List State) → IsOf p kind lengths special states
    → Reads p kind lengths (IsHeld p special states) (matches_in states) (λ sid. nat_eq sid dead_id) (is_start_in special)
reads_of p kind lengths special states of =
    let by = of.automaton in
    reads_by_words p kind lengths (IsHeld p special states) (matches_in states) (λ sid. nat_eq sid dead_id) (is_start_in special) of.kind_is of.lengths_are
    (λ anchored w sid h. held-lists special p of.names states by anchored (held_after p anchored w) sid (h of.names by))
    (λ anchored w sid h. held-dead special p of.names states by anchored (held_after p anchored w) sid (h of.names by))
    (λ sid dead. held-lists special p of.names states by No None sid (eqb-true sid dead_id dead))
    (λ w sid h start.
    let root = start-root special p of.names states by (held_after p No w) sid (h of.names by) start in
    ((λ names automaton. ap (name_at names) root.0 ∙ automaton.nodes.root), root.1))

-- a state that is held after some bytes is held after any others that lead to the same state of the words
pub alike_of : (p : Patterns) (special : Special) (states : List State) (anchored : Anchored) (word other : List ℕ) (sid : ℕ) → IsHeld p special states anchored word sid
    → held_after p anchored other ≡ held_after p anchored word → IsHeld p special states anchored other sid
alike_of p special states anchored word other sid h same = λ names automaton.
    subst (λ (o : Option (List ℕ)). IsHeldAs special anchored names o sid) (sym same) (h names automaton)

-- a start is held before the first byte
pub begins_of : (p : Patterns) (special : Special) (states : List State) (anchored : Anchored) → IsHeld p special states anchored [] (start_of special anchored)
begins_of p special states anchored = λ names automaton. held-start special p names states automaton anchored

-- a state that follows the held one is held after one more byte
pub goes_on_of : (p : Patterns) (special : Special) (states : List State) (anchored : Anchored) (word : List ℕ) (byte sid next : ℕ) → IsHeld p special states anchored word sid
    → FollowsWords states anchored sid byte next → IsHeld p special states anchored (word ++ byte ∷ []) next
goes_on_of p special states anchored word byte sid next h follows = λ names automaton.
    subst (λ (o : Option (List ℕ)). IsHeldAs special anchored names o next) (sym (held_after-push p anchored word byte))
    (follows p special names (held_after p anchored word) automaton (h names automaton))

-- a state that is not special is not dead, and lists nothing
pub plain_of : (skips : Bool) (special : Special) (states : List State) (sid : ℕ) → is_special_in skips special states sid ≡ false → (nat_eq sid dead_id ≡ false) × (matches_in states sid ≡ [])
plain_of skips special states sid e = parts (nat_eq sid 0) (matches_in states sid) (skips && is_start_in special sid) e
  where
    parts : (dead : Bool) (list : List ℕ) (skipped : Bool) → (dead || (nat_lt 0 (length list) || skipped)) ≡ false → (dead ≡ false) × (list ≡ [])
    parts true list skipped e = cc
    parts false [] skipped e = (refl, refl)
    parts false (x ∷ xs) skipped e = let clash : true ≡ false = subst (λ (b : Bool). (b || skipped) ≡ false) (lt-ltb 0 (length (x ∷ xs)) (omega arith)) e in cc

-- DEAD is no deeper than the start
pub dead_shallow_of : (states : List State) (sid : ℕ) → IsSound states → nat_eq sid dead_id ≡ true → depth_in states sid ≡ 0
dead_shallow_of states sid sound e = ap (depth_in states) (eqb-true sid dead_id e) ∙ sound.dead_depth

-- and neither is a start
pub starts_shallow_of : (special : Special) (states : List State) (sid : ℕ) → AreStarts special states → is_start_in special sid ≡ true → depth_in states sid ≡ 0
starts_shallow_of special states sid starts e =
    elim (one_of_two sid special.start_unanchored_id special.start_anchored_id e) [
      | inl root ↦ ap (depth_in states) root ∙ starts.unanchored.depth
      | inr anchored ↦ ap (depth_in states) anchored ∙ starts.anchored.depth
    ]

-- a state is as deep as its word is long
as_deep : (special : Special) (p : Patterns) (names : List (Option (List ℕ))) (states : List State) → IsAutomaton special p names states → IsSound states
    → (state : Option (List ℕ)) (sid : ℕ) → IsStateOf names state sid → depth_in states sid ≡ depth_of state
as_deep special p names states automaton sound None sid dead = ap (depth_in states) dead ∙ sound.dead_depth
as_deep special p names states automaton sound (Some word) sid named = automaton.nodes.depths sid word named

-- so the state that is held is as deep as the word's own state is long
pub reaches_of : (p : Patterns) (kind : MatchKind) (lengths : List ℕ) (special : Special) (states : List State) → IsSound states → IsOf p kind lengths special states
    → (word : List ℕ) (sid : ℕ) → IsHeld p special states No word sid → depth_in states sid ≡ depth_of (held_after p No word)
reaches_of p kind lengths special states sound of word sid held =
    as_deep special p of.names states of.automaton sound (held_after p No word) sid (held of.names of.automaton)
