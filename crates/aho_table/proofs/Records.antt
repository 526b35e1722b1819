-- The states of records, where one record or one list is changed.
use Rattle.std.proofs.Common.{◌≡◌, ◌≢◌, ℕ, ◌<◌, ◌≤◌, List, [], ◌∷◌, ◌++◌, length, get_or, take, refl, sym, ap, subst, ◌∙◌, inl, inr, arith}
use Rattle.std.proofs.Math.ListN.{set, length-set}
use Rattle.std.proofs.lemmas.Bool.{cases_eq, cases_order}
use Rattle.std.proofs.lemmas.List.{length-map, get_or-map, map-set, map-append, take-map, get_or_past, ext_get_or, get_or-set_same, get_or-set_other}
use Rattle.aho_table.specs.Lists.{Lists, PatternLists, list_at, IsList}
use Rattle.aho_table.specs.Table.{State, new_state, state_at, IsRising, AllRising}
use Rattle.aho_table.specs.Inside.{LimitedStates, record_at, recorded_state, recorded_states, transition_numbers, match_numbers, IsNone, IsShared, AreNumbers}
use Rattle.aho_table.specs.declared.links.states.Record.{Record}

module _ (transitions : List (List (ℕ × ℕ))) (matches : List (List ℕ)) where
  pub length-recorded_states : (records : List Record) → length (recorded_states transitions matches records) ≡ length records
  unfolding recorded_states
  length-recorded_states records = length-map records (recorded_state transitions matches)

  pub state_at-recorded_states : (records : List Record) (sid : ℕ) → sid < length records → state_at (recorded_states transitions matches records) sid ≡ recorded_state transitions matches (record_at records sid)
  unfolding recorded_states
  state_at-recorded_states records sid below = get_or-map (recorded_state transitions matches) records sid (record { transitions = 0; matches = 0; fail = 1; depth = 0 }) (new_state 0) below

  pub recorded_states-none : recorded_states transitions matches [] ≡ []
  unfolding recorded_states
  recorded_states-none = refl

  pub recorded_states-append : (records : List Record) (last : Record) → recorded_states transitions matches (records ++ last ∷ []) ≡ recorded_states transitions matches records ++ recorded_state transitions matches last ∷ []
  unfolding recorded_states
  recorded_states-append records last = map-append (recorded_state transitions matches) records (last ∷ [])

  pub take-recorded_states : (records : List Record) (count : ℕ) → take count (recorded_states transitions matches records) ≡ recorded_states transitions matches (take count records)
  unfolding recorded_states
  take-recorded_states records count = take-map (recorded_state transitions matches) count records

  recorded_states-set : (records : List Record) (sid : ℕ) (state : Record) → recorded_states transitions matches (set records sid state) ≡ set (recorded_states transitions matches records) sid (recorded_state transitions matches state)
  unfolding recorded_states
  recorded_states-set records sid state = map-set (recorded_state transitions matches) records sid state

-- every other record's lists are those that there were
pub recorded_states-changed : (transitions transitions' : List (List (ℕ × ℕ))) (matches matches' : List (List ℕ)) (records : List Record) (sid : ℕ) (changed : Record) → sid < length records
    → ((i : ℕ) → i < length records → i ≢ sid → recorded_state transitions' matches' (record_at records i) ≡ recorded_state transitions matches (record_at records i))
    → recorded_states transitions' matches' (set records sid changed) ≡ set (recorded_states transitions matches records) sid (recorded_state transitions' matches' changed)
recorded_states-changed transitions transitions' matches matches' records sid changed below same =
    recorded_states-set transitions' matches' records sid changed
    ∙ ext_get_or (new_state 0) (set (recorded_states transitions' matches' records) sid (recorded_state transitions' matches' changed)) (set (recorded_states transitions matches records) sid (recorded_state transitions' matches' changed))
    (omega (
      arith,
      length-set (recorded_states transitions' matches' records) sid (recorded_state transitions' matches' changed),
      length-set (recorded_states transitions matches records) sid (recorded_state transitions' matches' changed),
      length-recorded_states transitions' matches' records,
      length-recorded_states transitions matches records,
    ))
    (λ i inside. at_place i (omega (arith, length-set (recorded_states transitions' matches' records) sid (recorded_state transitions' matches' changed), length-recorded_states transitions' matches' records)))
  where
    at_place : (i : ℕ) → i < length records → state_at (set (recorded_states transitions' matches' records) sid (recorded_state transitions' matches' changed)) i
        ≡ state_at (set (recorded_states transitions matches records) sid (recorded_state transitions' matches' changed)) i
    at_place i inside = elim (cases_eq i sid) [
      | inl is ↦
          ap (state_at (set (recorded_states transitions' matches' records) sid (recorded_state transitions' matches' changed))) is
          ∙ get_or-set_same (recorded_states transitions' matches' records) sid (recorded_state transitions' matches' changed) (new_state 0) (omega (arith, length-recorded_states transitions' matches' records))
          ∙ sym (ap (state_at (set (recorded_states transitions matches records) sid (recorded_state transitions' matches' changed))) is
          ∙ get_or-set_same (recorded_states transitions matches records) sid (recorded_state transitions' matches' changed) (new_state 0) (omega (arith, length-recorded_states transitions matches records)))
      | inr ne ↦
          get_or-set_other (recorded_states transitions' matches' records) sid i (recorded_state transitions' matches' changed) (new_state 0) ne
          ∙ state_at-recorded_states transitions' matches' records i inside ∙ same i inside ne ∙ sym (state_at-recorded_states transitions matches records i inside)
          ∙ sym (get_or-set_other (recorded_states transitions matches records) sid i (recorded_state transitions' matches' changed) (new_state 0) ne)
    ]

-- ---- the numbers of the lists

pub transition_number : (records : List Record) (i : ℕ) → i < length records → get_or (transition_numbers records) i 0 ≡ (record_at records i).transitions
transition_number records i below = get_or-map (λ (state : Record). state.transitions) records i (record { transitions = 0; matches = 0; fail = 1; depth = 0 }) 0 below

pub match_number : (records : List Record) (i : ℕ) → i < length records → get_or (match_numbers records) i 0 ≡ (record_at records i).matches
match_number records i below = get_or-map (λ (state : Record). state.matches) records i (record { transitions = 0; matches = 0; fail = 1; depth = 0 }) 0 below

-- ---- a table's state, by the record that was read

-- what a table is seen as
abbrev pub seen_as : List Record → Lists (ℕ × ℕ) → PatternLists → ℕ → LimitedStates
seen_as records transitions matches limit = record { states = recorded_states transitions.lists matches.lists records; limit = limit }

pub same_table : {states others : List State} {limit another : ℕ} → states ≡ others → limit ≡ another → let t : LimitedStates = record { states = states; limit = limit } in t ≡ record { states = others; limit = another }
same_table {states = states} {others = others} {limit = limit} {another = another} same equal =
    ap (λ (ss : List State). let t : LimitedStates = record { states = ss; limit = limit } in t) same ∙ ap (λ (n : ℕ). let t : LimitedStates = record { states = others; limit = n } in t) equal

pub count_is : (records : List Record) (transitions : Lists (ℕ × ℕ)) (matches : PatternLists) (limit : ℕ) (now : LimitedStates) → seen_as records transitions matches limit ≡ now → length now.states ≡ length records
count_is records transitions matches limit now view = ap (λ (t : LimitedStates). length t.states) (sym view) ∙ length-recorded_states transitions.lists matches.lists records

-- where each list rises, those of the states do
pub AllRising-lists : (records : List Record) (transitions : Lists (ℕ × ℕ)) (matches : PatternLists) → ((list : ℕ) → IsRising (list_at transitions.lists list))
    → AllRising (recorded_states transitions.lists matches.lists records)
AllRising-lists records transitions matches rising i =
    elim (cases_order i (length records)) as (λ _. IsRising (state_at (recorded_states transitions.lists matches.lists records) i).transitions) [
      | inl is ↦ past (omega arith)
      | inr apart ↦ elim apart as (λ _. IsRising (state_at (recorded_states transitions.lists matches.lists records) i).transitions) [
        | inl below ↦ subst (λ (s : State). IsRising s.transitions) (sym (state_at-recorded_states transitions.lists matches.lists records i below)) (rising (record_at records i).transitions)
        | inr above ↦ past (omega arith)
      ]
    ]
  where
    past : length records ≤ i → IsRising (state_at (recorded_states transitions.lists matches.lists records) i).transitions
    past le = subst (λ (s : State). IsRising s.transitions)
        (sym (get_or_past (recorded_states transitions.lists matches.lists records) i (new_state 0) (omega (arith, le, length-recorded_states transitions.lists matches.lists records)))) tt

module _ (records : List Record) (transitions : Lists (ℕ × ℕ)) (matches : PatternLists) (limit sid : ℕ) (now : LimitedStates) (view : seen_as records transitions matches limit ≡ now)
    (added : sid < length now.states) where
  record_in : sid < length records
  record_in = omega (arith, count_is records transitions matches limit now view)

  pub read_in : (seen : List Record) → seen ≡ records → sid < length seen
  read_in seen is = omega (arith, record_in, ap (λ (rs : List Record). length rs) is)

  module _ (seen : List Record) (is : seen ≡ records) (state : Record) (read : state ≡ record_at seen sid) where
    pub read_here : state ≡ record_at records sid
    read_here = read ∙ ap (λ (rs : List Record). record_at rs sid) is

    pub read_is : state_at now.states sid ≡ recorded_state transitions.lists matches.lists state
    read_is =
        ap (λ (t : LimitedStates). state_at t.states sid) (sym view) ∙ state_at-recorded_states transitions.lists matches.lists records sid record_in
        ∙ ap (recorded_state transitions.lists matches.lists) (sym read_here)

    pub transitions_known : AreNumbers IsNone (transition_numbers records) transitions.lists → IsList transitions.lists state.transitions
    transitions_known are = subst (λ (n : ℕ). IsList transitions.lists n) (transition_number records sid record_in ∙ ap (λ (r : Record). r.transitions) (sym read_here))
        (are.known sid (omega (arith, record_in, length-map records (λ (r : Record). r.transitions))))

    pub matches_known : AreNumbers (IsShared matches.closed) (match_numbers records) matches.lists → IsList matches.lists state.matches
    matches_known are = subst (λ (n : ℕ). IsList matches.lists n) (match_number records sid record_in ∙ ap (λ (r : Record). r.matches) (sym read_here))
        (are.known sid (omega (arith, record_in, length-map records (λ (r : Record). r.matches))))
