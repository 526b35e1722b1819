-- A table whose states have moved and are named by their places is the automaton that it was: the naming moves with the states.
use Rattle.std.proofs.Common.{◌≡◌, ℕ, ◌<◌, ◌≤◌, Bool, true, false, List, [], ◌∷◌, length, map, get_or, cond, refl, sym, ap, subst, ◌∙◌, inl, inr, arith}
use Rattle.std.specs.Prelude.{Option, Some, None, MatchBool}
use Rattle.std.specs.List.{AllZip, range_with_len}
use Rattle.std.proofs.lemmas.Bool.{cases_Bool, cases_eq, cases_lt, cond-true, cond-false}
use Rattle.std.proofs.lemmas.List.{get_or-map, get_or_past, get_or_default, length-map}
use Rattle.std.proofs.lemmas.List.FromFn.{get_or-range_with_len, length-range_with_len}
use Rattle.aho_core.specs.Bytes.{folded}
use Rattle.aho_core.specs.Failure.{is_cut, failure_of}
use Rattle.aho_core.specs.Patterns.{Patterns}
use Rattle.aho_core.specs.Trie.{is_node}
use Rattle.aho_table.specs.Table.{State, Tables, new_state, state_at, dead_id, fail_id, lists_byte, next_in, fail_in, depth_in, matches_in}
use Rattle.aho_table.specs.Remapping.{place_of_state}
use Rattle.aho_table.specs.Renaming.{IsLed, IsTransitionLed, IsRenamed}
use Rattle.aho_table.proofs.RenamedStates.{IsLed-transition, lists_transition-led}
use Rattle.aho_build.specs.declared.special.Special.{Special}
use Rattle.aho_build.specs.Automaton.{AreNodes, IsAutomaton, ListsExactly, missing_from}
use Rattle.aho_build.specs.FirstStates.{with_first_starts}
use Rattle.aho_build.specs.Shuffled.{AreRenumbered, AreShuffled}
use Rattle.aho_build.specs.Sizes.{IsSized}
use Rattle.aho_build.specs.StateNames.{name_at, IsStateOf}
use Rattle.aho_build.specs.Trie.{longer}
use Rattle.aho_build.proofs.Phases.{blank}

module _ (places : List ℕ) (old new : List State) (r : AreRenumbered places old new) where
  abbrev place : ℕ → ℕ
  place = place_of_state places

  abbrev origin : ℕ → ℕ
  origin = place_of_state r.origins

  -- ---- places and origins, of any number

  place_past : (n : ℕ) → length old ≤ n → place n ≡ n
  place_past n past = let count = r.as_many in get_or_past places n n (omega arith)

  origin_past : (n : ℕ) → length old ≤ n → origin n ≡ n
  origin_past n past = let count = r.as_many in let same = r.inverse.as_many in get_or_past r.origins n n (omega arith)

  place_within : (n : ℕ) → n < length old → (place n ≡ get_or places n 0) × (place n < length old)
  place_within n below =
      let count = r.as_many in
      let is = get_or_default places n n 0 (omega arith) in
      (is, omega (arith, is, r.inverse.placed n (omega arith)))

  pub origin_within : (n : ℕ) → n < length old → (origin n ≡ get_or r.origins n 0) × (origin n < length old)
  origin_within n below =
      let count = r.as_many in
      let same = r.inverse.as_many in
      let is = get_or_default r.origins n n 0 (omega arith) in
      (is, omega (arith, is, r.inverse.numbered n (omega arith)))

  origin-place : (n : ℕ) → origin (place n) ≡ n
  origin-place n =
      elim (cases_lt n (length old)) [
        | inl below ↦
            (let at = place_within n below in
            let count = r.as_many in
            (origin_within (place n) at.1).0 ∙ ap (λ (i : ℕ). get_or r.origins i 0) at.0 ∙ r.inverse.back n (omega arith))
        | inr past ↦ ap origin (place_past n past) ∙ origin_past n past
      ]

  pub place-origin : (n : ℕ) → place (origin n) ≡ n
  place-origin n =
      elim (cases_lt n (length old)) [
        | inl below ↦
            (let at = origin_within n below in
            let count = r.as_many in
            (place_within (origin n) at.1).0 ∙ ap (λ (i : ℕ). get_or places i 0) at.0 ∙ r.inverse.there n (omega arith))
        | inr past ↦ ap place (origin_past n past) ∙ place_past n past
      ]

  -- a number that is the place of another, by its origin
  pub at-place : (i n : ℕ) → origin i ≡ n → i ≡ place n
  at-place i n is = sym (place-origin i) ∙ ap place is

  pub origin_dead : origin dead_id ≡ dead_id
  origin_dead = ap origin (sym r.dead) ∙ origin-place dead_id

  pub origin_fail : origin fail_id ≡ fail_id
  origin_fail = ap origin (sym r.fail) ∙ origin-place fail_id

  origin_below : (i : ℕ) → i < length new → origin i < length old
  origin_below i below = let same = r.same_many in (origin_within i (omega arith)).1

  -- ---- each state, by its number from now on

  renamed : (i : ℕ) → IsRenamed (λ named now. now ≡ place named) (state_at old (origin i)) (state_at new i)
  renamed i =
      elim (cases_lt i (length old)) [
        | inl below ↦
            subst (λ (n : ℕ). IsRenamed (λ named now. now ≡ place named) (state_at old (origin i)) (state_at new n)) (place-origin i) (r.renamed (origin i) (origin_within i below).1)
        | inr past ↦
            (let same = r.same_many in
            subst (λ (state : State). IsRenamed (λ named now. now ≡ place named) state (state_at new i))
            (sym (ap (state_at old) (origin_past i past) ∙ get_or_past old i (new_state 0) past))
            (subst (λ (state : State). IsRenamed (λ named now. now ≡ place named) (new_state 0) state) (sym (get_or_past new i (new_state 0) (omega arith)))
            (record { transitions = tt; matches = refl; fail = record { none = λ e. refl; some = λ ne. absurd (ne refl) }; depth = refl })))
      ]

  -- FAIL is its own place
  led : (named now : ℕ) → IsLed (λ named now. now ≡ place named) named now → now ≡ place named
  led named now is =
      elim (cases_eq named 1) [
        | inl none ↦ is.none none ∙ sym (ap place none ∙ r.fail)
        | inr some ↦ is.some some
      ]

  next_of : (i byte : ℕ) → next_in new i byte ≡ place (next_in old (origin i) byte)
  next_of i byte =
      led (next_in old (origin i) byte) (next_in new i byte)
      (IsLed-transition (λ named now. now ≡ place named) (state_at old (origin i)).transitions (state_at new i).transitions byte (renamed i).transitions)

  fail_of : (i : ℕ) → fail_in new i ≡ place (fail_in old (origin i))
  fail_of i = led (fail_in old (origin i)) (fail_in new i) (renamed i).fail

  matches_of_state : (i : ℕ) → matches_in new i ≡ matches_in old (origin i)
  matches_of_state i = (renamed i).matches

  lists_of_state : (i byte : ℕ) → lists_byte new i byte ≡ lists_byte old (origin i) byte
  lists_of_state i byte =
      lists_transition-led (λ named now. now ≡ place named) (state_at old (origin i)).transitions (state_at new i).transitions byte (renamed i).transitions

  depth_of_state : (i : ℕ) → depth_in new i ≡ depth_in old (origin i)
  depth_of_state i = (renamed i).depth

  -- ---- what the states list moves with them

  abbrev fail_state : State
  fail_state = record (new_state 0) { fail = dead_id }

  -- nothing is renamed to nothing
  none_renamed : (now : List (ℕ × ℕ)) → AllZip (IsTransitionLed (λ named now. now ≡ place named)) [] now → now ≡ []
  none_renamed [] both = refl
  none_renamed (x ∷ xs) both = absurd both

  pub ListsExactly-renumbered : (before special : Special) → special.start_anchored_id ≡ place before.start_anchored_id → ListsExactly before old → ListsExactly special new
  ListsExactly-renumbered before special anchored lists =
      let blank_before : state_at old (origin fail_id) ≡ fail_state = ap (state_at old) origin_fail ∙ lists.fail in
      record {
        anchored = λ byte small.
            lists_of_state special.start_anchored_id byte
            ∙ ap (λ (n : ℕ). lists_byte old n byte) (ap origin anchored ∙ origin-place before.start_anchored_id)
            ∙ lists.anchored byte small;
        fail = blank (state_at new fail_id)
            (none_renamed (state_at new fail_id).transitions
            (subst (λ (s : State). AllZip (IsTransitionLed (λ named now. now ≡ place named)) s.transitions (state_at new fail_id).transitions) blank_before (renamed fail_id).transitions))
            (matches_of_state fail_id ∙ ap (λ (s : State). s.matches) blank_before)
            (fail_of fail_id ∙ ap (λ (s : State). place s.fail) blank_before ∙ r.dead)
            (depth_of_state fail_id ∙ ap (λ (s : State). s.depth) blank_before);
        leading = λ i byte apart small is none.
            lists.leading (origin i) byte (λ e. apart (at-place i before.start_anchored_id e ∙ sym anchored)) small (sym (lists_of_state i byte) ∙ is)
            (sym (origin-place (next_in old (origin i) byte)) ∙ ap origin (sym (next_of i byte) ∙ none) ∙ origin_fail);
      }

  -- ---- the naming moves with the states

  module _ (names : List (Option (List ℕ))) (sized : length names ≡ length old) where
    abbrev pub moved_names : List (Option (List ℕ))
    moved_names = map (λ i. name_at names (origin i)) (range_with_len 0 (length names))

    names_length : length moved_names ≡ length names
    names_length = length-map (range_with_len 0 (length names)) (λ i. name_at names (origin i)) ∙ length-range_with_len 0 (length names)

    name_of : (i : ℕ) → name_at moved_names i ≡ name_at names (origin i)
    name_of i =
        elim (cases_lt i (length names)) [
          | inl below ↦
              get_or-map (λ i. name_at names (origin i)) (range_with_len 0 (length names)) i i None (omega (arith, length-range_with_len 0 (length names)))
              ∙ ap (λ (n : ℕ). name_at names (origin n)) (get_or-range_with_len 0 (length names) i i below ∙ omega arith)
          | inr past ↦
              get_or_past moved_names i None (omega (arith, names_length))
              ∙ sym (ap (name_at names) (origin_past i (omega arith)) ∙ get_or_past names i None past)
        ]

    name_of_place : (n : ℕ) → name_at moved_names (place n) ≡ name_at names n
    name_of_place n = name_of (place n) ∙ ap (name_at names) (origin-place n)

    state_of_name : (state : Option (List ℕ)) (sid now : ℕ) → now ≡ place sid → IsStateOf names state sid → IsStateOf moved_names state now
    state_of_name None sid now is e = is ∙ ap place e ∙ r.dead
    state_of_name (Some word) sid now is e = ap (name_at moved_names) is ∙ name_of_place sid ∙ e

    module _ (before special : Special) (p : Patterns) (a : IsAutomaton before p names old)
        (unanchored : special.start_unanchored_id ≡ place before.start_unanchored_id) (anchored : special.start_anchored_id ≡ place before.start_anchored_id) where
      abbrev root : ℕ
      root = before.start_unanchored_id

      abbrev apart : ℕ
      apart = before.start_anchored_id

      origin_root : origin special.start_unanchored_id ≡ root
      origin_root = ap origin unanchored ∙ origin-place root

      origin_apart : origin special.start_anchored_id ≡ apart
      origin_apart = ap origin anchored ∙ origin-place apart

      named_before : (i : ℕ) (word : List ℕ) → name_at moved_names i ≡ Some word → name_at names (origin i) ≡ Some word
      named_before i word e = sym (name_of i) ∙ e

      missing_moved : (word : List ℕ) (next : ℕ) → next ≡ missing_from root p word → place next ≡ missing_from special.start_unanchored_id p word
      missing_moved (x ∷ word) next is = ap place is ∙ r.fail
      missing_moved [] next is =
          ap place is
          ∙ elim (cases_Bool (is_cut p [])) [
            | inl cut ↦ rw cut r.dead
            | inr uncut ↦ rw uncut (sym unanchored)
          ]

      transition_moved : (i : ℕ) (word : List ℕ) (byte : ℕ) (node : Bool)
          → MatchBool node (name_at names (next_in old (origin i) byte) ≡ Some (longer p word byte)) (next_in old (origin i) byte ≡ missing_from root p word)
          → MatchBool node (name_at moved_names (next_in new i byte) ≡ Some (longer p word byte)) (next_in new i byte ≡ missing_from special.start_unanchored_id p word)
      transition_moved i word byte true leads = ap (name_at moved_names) (next_of i byte) ∙ name_of_place (next_in old (origin i) byte) ∙ leads
      transition_moved i word byte false leads = next_of i byte ∙ missing_moved word (next_in old (origin i) byte) leads

      nodes : AreNodes special.start_unanchored_id p moved_names new
      nodes = record {
        sized = names_length ∙ sized ∙ sym r.same_many;
        dead = name_of dead_id ∙ ap (name_at names) origin_dead ∙ a.nodes.dead;
        fail = name_of fail_id ∙ ap (name_at names) origin_fail ∙ a.nodes.fail;
        root = name_of special.start_unanchored_id ∙ ap (name_at names) origin_root ∙ a.nodes.root;
        unique = λ i j word of_i of_j.
            sym (place-origin i) ∙ ap place (a.nodes.unique (origin i) (origin j) word (named_before i word of_i) (named_before j word of_j)) ∙ place-origin j;
        words = λ i word e. a.nodes.words (origin i) word (named_before i word e);
        depths = λ i word e. depth_of_state i ∙ a.nodes.depths (origin i) word (named_before i word e);
        transitions = λ i word byte e small.
            transition_moved i word byte (is_node p (longer p word byte)) (a.nodes.transitions (origin i) word byte (named_before i word e) small);
        dead_loop = λ byte small.
            next_of dead_id byte ∙ ap place (ap (λ (n : ℕ). next_in old n byte) origin_dead ∙ a.nodes.dead_loop byte small) ∙ r.dead;
      }

      next_apart : (byte : ℕ) → byte < 256 → next_in new special.start_anchored_id byte ≡ cond (is_node p (folded p byte ∷ [])) (next_in new special.start_unanchored_id byte) fail_id
      next_apart byte small =
          let here = next_of special.start_anchored_id byte ∙ ap (λ (n : ℕ). place (next_in old n byte)) origin_apart in
          let there = next_of special.start_unanchored_id byte ∙ ap (λ (n : ℕ). place (next_in old n byte)) origin_root in
          let is = a.anchored.next byte small in
          elim (cases_Bool (is_node p (folded p byte ∷ []))) [
            | inl node ↦ here ∙ rw node (ap place (is ∙ cond-true {A = ℕ} (is_node p (folded p byte ∷ [])) (next_in old root byte) fail_id node) ∙ sym there)
            | inr other ↦ here ∙ rw other (ap place (is ∙ cond-false {A = ℕ} (is_node p (folded p byte ∷ [])) (next_in old root byte) fail_id other) ∙ r.fail)
          ]

      pub IsAutomaton-renumbered : IsAutomaton special p moved_names new
      IsAutomaton-renumbered = record {
        nodes = nodes;
        dead = record {
          matches = matches_of_state dead_id ∙ ap (matches_in old) origin_dead ∙ a.dead.matches;
          fail = fail_of dead_id ∙ ap place (ap (fail_in old) origin_dead ∙ a.dead.fail) ∙ r.dead;
          depth = depth_of_state dead_id ∙ ap (depth_in old) origin_dead ∙ a.dead.depth;
        };
        anchored = record {
          unnamed = name_of special.start_anchored_id ∙ ap (name_at names) origin_apart ∙ a.anchored.unnamed;
          not_dead = λ e. a.anchored.not_dead (sym origin_apart ∙ ap origin e ∙ origin_dead);
          not_fail = λ e. a.anchored.not_fail (sym origin_apart ∙ ap origin e ∙ origin_fail);
          next = next_apart;
          matches = matches_of_state special.start_anchored_id ∙ ap (matches_in old) origin_apart ∙ a.anchored.matches;
          fail = fail_of special.start_anchored_id ∙ ap place (ap (fail_in old) origin_apart ∙ a.anchored.fail) ∙ r.dead;
          depth = depth_of_state special.start_anchored_id ∙ ap (depth_in old) origin_apart ∙ a.anchored.depth;
        };
        root_fail = fail_of special.start_unanchored_id ∙ ap place (ap (fail_in old) origin_root ∙ a.root_fail) ∙ r.dead;
        root_matches = matches_of_state special.start_unanchored_id ∙ ap (matches_in old) origin_root ∙ a.root_matches;
        linked = λ i word e some.
            let link = a.linked (origin i) word (named_before i word e) some in
            record {
              fail = state_of_name (failure_of p word) (fail_in old (origin i)) (fail_in new i) (fail_of i) link.fail;
              matches = matches_of_state i ∙ link.matches;
            };
        complete = λ i below alive not_fail not_apart.
            let w = a.complete (origin i) (origin_below i below)
            (λ e. alive (at-place i dead_id e ∙ r.dead))
            (λ e. not_fail (at-place i fail_id e ∙ r.fail))
            (λ e. not_apart (at-place i apart e ∙ sym anchored)) in
            (w.0, name_of i ∙ w.1);
      }

-- the table of the numbers that states keep is the automaton that it was
pub IsAutomaton-shuffled : (skips : Bool) (old new : Tables) (special : Special) (p : Patterns) (names : List (Option (List ℕ)))
    → (s : AreShuffled skips old new special) → IsAutomaton (with_first_starts special) p names old.states
    → (names' : List (Option (List ℕ))) × IsAutomaton special p names' new.states
IsAutomaton-shuffled skips old new special p names s a = (
  moved_names s.places old.states new.states s.renumbered names a.nodes.sized,
  IsAutomaton-renumbered s.places old.states new.states s.renumbered names a.nodes.sized (with_first_starts special) special p a s.unanchored s.anchored,
)

pub ListsExactly-shuffled : (skips : Bool) (old new : Tables) (special : Special) → AreShuffled skips old new special
    → ListsExactly (with_first_starts special) old.states → ListsExactly special new.states
ListsExactly-shuffled skips old new special s lists = ListsExactly-renumbered s.places old.states new.states s.renumbered (with_first_starts special) special s.anchored lists

pub IsSized-shuffled : (skips : Bool) (old new : Tables) (special : Special) (p : Patterns) → AreShuffled skips old new special → IsSized p old.states → IsSized p new.states
IsSized-shuffled skips old new special p s sized = record {
  state_count = s.renumbered.same_many ∙ sized.state_count;
  transitions = s.renumbered.transitions ∙ sized.transitions;
  matches = s.renumbered.matches ∙ sized.matches;
}
