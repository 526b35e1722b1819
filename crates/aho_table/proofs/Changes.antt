-- A table where a list of one state was changed, or its link.
use Rattle.std.proofs.Common.{◌≡◌, ◌≢◌, ℕ, ◌+◌, ◌<◌, ◌≤◌, ◌⊎◌, Bool, true, false, List, [], ◌∷◌, ◌++◌, length, map, get_or, take, refl, sym, ap, subst, ◌∙◌, inl, inr, arith}
use Rattle.std.proofs.Math.ListN.{set, length-set}
use Rattle.std.proofs.lemmas.List.{length-map, map-set, map-append, take-map, length_push, length-take, set-get_or, get_or_default}
use Rattle.std.proofs.lemmas.List.Sums.{sum_by-append}
use Rattle.std.proofs.Math.Seq.{take-append_seam}
use Rattle.aho_table.specs.Lists.{Lists, PatternLists, list_at, closed_at, IsList, IsListed, IsOwnNumber}
use Rattle.aho_table.specs.Table.{State, new_state, state_at, transitions_count, matches_count}
use Rattle.aho_table.specs.Inside.{record_at, recorded_state, recorded_states, transition_numbers, match_numbers, IsNone, IsShared, AreNumbers, IsConsistent}
use Rattle.aho_table.specs.declared.links.states.Record.{Record}
use Rattle.aho_table.proofs.Numbers.{same_list, AreNumbers-set, AreNumbers-push, AreNumbers-take}
use Rattle.aho_table.proofs.Records.{length-recorded_states, state_at-recorded_states, recorded_states-none, recorded_states-append, take-recorded_states, recorded_states-changed, transition_number, match_number}
use Rattle.aho_table.proofs.States.{transitions_count-set, matches_count-set}

-- the list of one number has these items now, under this number. `IsCommon` and `Still` tell, before and now, which numbers
-- more than one state may have
pub record IsListChange {X : Type 0} (IsCommon Still : ℕ → Type 0) (old new : List (List X)) (number made : ℕ) (items : List X) : Type 0 where
  pub some : 0 < length old
  pub still : (other : ℕ) → IsCommon other → Still other
  pub others : (other : ℕ) → other < length old → (other ≢ number) ⊎ IsCommon other → list_at new other ≡ list_at old other
  pub changed : list_at new made ≡ items
  pub known : IsList new made
  pub fresh : (made ≡ number) ⊎ ((length old ≤ made) ⊎ Still made)

-- where no list is common but the empty one
pub IsListChange-alone : {X : Type 0} (old new : List (List X)) (number made : ℕ) (items : List X) → 0 < length old → list_at old 0 ≡ [] → list_at new 0 ≡ []
    → ((other : ℕ) → other < length old → other ≢ number → list_at new other ≡ list_at old other)
    → list_at new made ≡ items → IsList new made → (made ≡ number) ⊎ (length old ≤ made) → IsListChange IsNone IsNone old new number made items
IsListChange-alone {X = X} old new number made items some empty empty_still others changed known fresh = record {
  some = some;
  still = λ other none. none;
  others = the_others;
  changed = changed;
  known = known;
  fresh = the_fresh fresh;
}
  where
    the_others : (other : ℕ) → other < length old → (other ≢ number) ⊎ IsNone other → list_at new other ≡ list_at old other
    the_others other below (inl apart) = others other below apart
    the_others other below (inr none) = ap (list_at new) none ∙ empty_still ∙ sym (ap (list_at old) none ∙ empty)

    the_fresh : (made ≡ number) ⊎ (length old ≤ made) → (made ≡ number) ⊎ ((length old ≤ made) ⊎ IsNone made)
    the_fresh (inl same) = inl same
    the_fresh (inr past) = inr (inl past)

-- and where closed ones are
pub IsListChange-listed : (old new : PatternLists) (number made : ℕ) (items : List ℕ) → 0 < length old.lists → list_at old.lists 0 ≡ [] → list_at new.lists 0 ≡ []
    → IsListed old new number made items → IsOwnNumber old.lists number made ⊎ (closed_at new.closed made ≡ true)
    → IsListChange (IsShared old.closed) (IsShared new.closed) old.lists new.lists number made items
IsListChange-listed old new number made items some empty empty_still is fresh = record {
  some = some;
  still = the_still;
  others = the_others;
  changed = is.listed;
  known = is.known;
  fresh = the_fresh fresh;
}
  where
    the_still : (other : ℕ) → IsShared old.closed other → IsShared new.closed other
    the_still other (inl none) = inl none
    the_still other (inr closed) = inr (is.closed other closed)

    the_others : (other : ℕ) → other < length old.lists → (other ≢ number) ⊎ IsShared old.closed other → list_at new.lists other ≡ list_at old.lists other
    the_others other below (inl apart) = is.others other below (inl apart)
    the_others other below (inr (inl none)) = ap (list_at new.lists) none ∙ empty_still ∙ sym (ap (list_at old.lists) none ∙ empty)
    the_others other below (inr (inr closed)) = is.others other below (inr closed)

    the_fresh : IsOwnNumber old.lists number made ⊎ (closed_at new.closed made ≡ true) → (made ≡ number) ⊎ ((length old.lists ≤ made) ⊎ IsShared new.closed made)
    the_fresh (inl (inl same)) = inl same
    the_fresh (inl (inr past)) = inr (inl past)
    the_fresh (inr closed) = inr (inr (inr closed))

module _ (records : List Record) (sid : ℕ) (state : Record) (below : sid < length records) (read : state ≡ record_at records sid) where
  numbers_in : (number : Record → ℕ) → sid < length (map number records)
  numbers_in number = omega (arith, below, length-map records number)

  transition_numbers-kept : (changed : Record) → changed.transitions ≡ state.transitions → transition_numbers (set records sid changed) ≡ transition_numbers records
  transition_numbers-kept changed same =
      map-set (λ (r : Record). r.transitions) records sid changed
      ∙ ap (set (transition_numbers records) sid) (same ∙ ap (λ (r : Record). r.transitions) read ∙ sym (transition_number records sid below))
      ∙ set-get_or (transition_numbers records) sid 0

  match_numbers-kept : (changed : Record) → changed.matches ≡ state.matches → match_numbers (set records sid changed) ≡ match_numbers records
  match_numbers-kept changed same =
      map-set (λ (r : Record). r.matches) records sid changed
      ∙ ap (set (match_numbers records) sid) (same ∙ ap (λ (r : Record). r.matches) read ∙ sym (match_number records sid below))
      ∙ set-get_or (match_numbers records) sid 0

  the_state : (transitions : List (List (ℕ × ℕ))) (matches : List (List ℕ)) → state_at (recorded_states transitions matches records) sid ≡ recorded_state transitions matches state
  the_state transitions matches = state_at-recorded_states transitions matches records sid below ∙ ap (recorded_state transitions matches) (sym read)

  count : (transitions : List (List (ℕ × ℕ))) (matches : List (List ℕ)) → sid < length (recorded_states transitions matches records)
  count transitions matches = omega (arith, below, length-recorded_states transitions matches records)

  -- ---- a list of transitions

  module _ (old new : List (List (ℕ × ℕ))) (made : ℕ) (items : List (ℕ × ℕ)) (are : AreNumbers IsNone (transition_numbers records) old) (change : IsListChange IsNone IsNone old new state.transitions made items) where
    number : get_or (transition_numbers records) sid 0 ≡ state.transitions
    number = transition_number records sid below ∙ ap (λ (r : Record). r.transitions) (sym read)

    same : (i : ℕ) → i < length (transition_numbers records) → i ≢ sid → list_at new (get_or (transition_numbers records) i 0) ≡ list_at old (get_or (transition_numbers records) i 0)
    same i inside ne =
        same_list IsNone (transition_numbers records) old new sid i are change.some
        (λ other less why. change.others other less (subst (λ (n : ℕ). (other ≢ n) ⊎ IsNone other) number why))
        (numbers_in (λ (r : Record). r.transitions)) inside ne

    same_transitions : (i : ℕ) → i < length records → i ≢ sid → list_at new (record_at records i).transitions ≡ list_at old (record_at records i).transitions
    same_transitions i inside ne =
        ap (list_at new) (sym (transition_number records i inside))
        ∙ same i (omega (arith, inside, length-map records (λ (r : Record). r.transitions))) ne
        ∙ ap (list_at old) (transition_number records i inside)

    numbers-led : AreNumbers IsNone (transition_numbers (set records sid (record state { transitions = made }))) new
    numbers-led =
        subst (λ (ns : List ℕ). AreNumbers IsNone ns new) (sym (map-set (λ (r : Record). r.transitions) records sid (record state { transitions = made })))
        (AreNumbers-set IsNone IsNone (transition_numbers records) old new sid made are change.some change.still same (numbers_in (λ (r : Record). r.transitions)) change.known
        (subst (λ (n : ℕ). (made ≡ n) ⊎ ((length old ≤ made) ⊎ IsNone made)) (sym number) change.fresh))

    pub states-led : (matches : List (List ℕ)) → recorded_states new matches (set records sid (record state { transitions = made }))
        ≡ set (recorded_states old matches records) sid (record (state_at (recorded_states old matches records) sid) { transitions = items })
    states-led matches =
        recorded_states-changed old new matches matches records sid (record state { transitions = made }) below
        (λ i inside ne. ap (λ (xs : List (ℕ × ℕ)). record (recorded_state old matches (record_at records i)) { transitions = xs }) (same_transitions i inside ne))
        ∙ ap (set (recorded_states old matches records) sid)
        (ap (λ (xs : List (ℕ × ℕ)). record (recorded_state old matches state) { transitions = xs }) change.changed
        ∙ sym (ap (λ (s : State). record s { transitions = items }) (the_state old matches)))

  pub IsConsistent-led : (transitions new : Lists (ℕ × ℕ)) (matches : PatternLists) (limit made : ℕ) (items : List (ℕ × ℕ)) → IsConsistent records transitions matches limit
      → IsListChange IsNone IsNone transitions.lists new.lists state.transitions made items → new.limit ≡ transitions.limit
      → length new.lists + length (list_at transitions.lists state.transitions) ≡ length transitions.lists + length items
      → IsConsistent (set records sid (record state { transitions = made })) new matches limit
  IsConsistent-led transitions new matches limit made items consistent change same counted =
      let states : List State = recorded_states transitions.lists matches.lists records in
      let led = states-led transitions.lists new.lists made items consistent.transition_lists change matches.lists in
      let row : State = record (state_at states sid) { transitions = items } in
      let inside = count transitions.lists matches.lists in
      let old = get_or_default states sid (new_state 0) (state_at states sid) inside in
      record {
        small = consistent.small;
        states_within = omega (arith, length-set records sid (record state { transitions = made }), consistent.states_within);
        transitions_limit = same ∙ consistent.transitions_limit;
        matches_limit = consistent.matches_limit;
        transition_lists = numbers-led transitions.lists new.lists made items consistent.transition_lists change;
        match_lists = subst (λ (ns : List ℕ). AreNumbers (IsShared matches.closed) ns matches.lists) (sym (match_numbers-kept (record state { transitions = made }) refl)) consistent.match_lists;
        transitions_are = omega (
          arith,
          counted,
          consistent.transitions_are,
          ap (λ (ss : List State). transitions_count ss) led,
          transitions_count-set states sid row (state_at states sid) inside old,
          ap (λ (s : State). length s.transitions) (the_state transitions.lists matches.lists),
        );
        matches_are = omega (
          arith,
          consistent.matches_are,
          ap (λ (ss : List State). matches_count ss) led,
          matches_count-set states sid row (state_at states sid) inside old,
        );
      }

  -- ---- a list of patterns

  module _ (was now : List Bool) (old new : List (List ℕ)) (made : ℕ) (items : List ℕ) (are : AreNumbers (IsShared was) (match_numbers records) old)
      (change : IsListChange (IsShared was) (IsShared now) old new state.matches made items) where
    match_number_is : get_or (match_numbers records) sid 0 ≡ state.matches
    match_number_is = match_number records sid below ∙ ap (λ (r : Record). r.matches) (sym read)

    same_list_at : (i : ℕ) → i < length (match_numbers records) → i ≢ sid → list_at new (get_or (match_numbers records) i 0) ≡ list_at old (get_or (match_numbers records) i 0)
    same_list_at i inside ne =
        same_list (IsShared was) (match_numbers records) old new sid i are change.some
        (λ other less why. change.others other less (subst (λ (n : ℕ). (other ≢ n) ⊎ IsShared was other) match_number_is why))
        (numbers_in (λ (r : Record). r.matches)) inside ne

    same_matches : (i : ℕ) → i < length records → i ≢ sid → list_at new (record_at records i).matches ≡ list_at old (record_at records i).matches
    same_matches i inside ne =
        ap (list_at new) (sym (match_number records i inside))
        ∙ same_list_at i (omega (arith, inside, length-map records (λ (r : Record). r.matches))) ne
        ∙ ap (list_at old) (match_number records i inside)

    numbers-listed : AreNumbers (IsShared now) (match_numbers (set records sid (record state { matches = made }))) new
    numbers-listed =
        subst (λ (ns : List ℕ). AreNumbers (IsShared now) ns new) (sym (map-set (λ (r : Record). r.matches) records sid (record state { matches = made })))
        (AreNumbers-set (IsShared was) (IsShared now) (match_numbers records) old new sid made are change.some change.still same_list_at (numbers_in (λ (r : Record). r.matches)) change.known
        (subst (λ (n : ℕ). (made ≡ n) ⊎ ((length old ≤ made) ⊎ IsShared now made)) (sym match_number_is) change.fresh))

    pub states-listed : (transitions : List (List (ℕ × ℕ))) → recorded_states transitions new (set records sid (record state { matches = made }))
        ≡ set (recorded_states transitions old records) sid (record (state_at (recorded_states transitions old records) sid) { matches = items })
    states-listed transitions =
        recorded_states-changed transitions transitions old new records sid (record state { matches = made }) below
        (λ i inside ne. ap (λ (xs : List ℕ). record (recorded_state transitions old (record_at records i)) { matches = xs }) (same_matches i inside ne))
        ∙ ap (set (recorded_states transitions old records) sid)
        (ap (λ (xs : List ℕ). record (recorded_state transitions old state) { matches = xs }) change.changed
        ∙ sym (ap (λ (s : State). record s { matches = items }) (the_state transitions old)))

  pub IsConsistent-listed : (transitions : Lists (ℕ × ℕ)) (matches new : PatternLists) (limit made : ℕ) (items : List ℕ) → IsConsistent records transitions matches limit
      → IsListChange (IsShared matches.closed) (IsShared new.closed) matches.lists new.lists state.matches made items → new.limit ≡ matches.limit
      → new.count + length (list_at matches.lists state.matches) ≡ matches.count + length items
      → IsConsistent (set records sid (record state { matches = made })) transitions new limit
  IsConsistent-listed transitions matches new limit made items consistent change same counted =
      let states : List State = recorded_states transitions.lists matches.lists records in
      let listed = states-listed matches.closed new.closed matches.lists new.lists made items consistent.match_lists change transitions.lists in
      let row : State = record (state_at states sid) { matches = items } in
      let inside = count transitions.lists matches.lists in
      let old = get_or_default states sid (new_state 0) (state_at states sid) inside in
      record {
        small = consistent.small;
        states_within = omega (arith, length-set records sid (record state { matches = made }), consistent.states_within);
        transitions_limit = consistent.transitions_limit;
        matches_limit = same ∙ consistent.matches_limit;
        transition_lists = subst (λ (ns : List ℕ). AreNumbers IsNone ns transitions.lists) (sym (transition_numbers-kept (record state { matches = made }) refl)) consistent.transition_lists;
        match_lists = numbers-listed matches.closed new.closed matches.lists new.lists made items consistent.match_lists change;
        transitions_are = omega (
          arith,
          consistent.transitions_are,
          ap (λ (ss : List State). transitions_count ss) listed,
          transitions_count-set states sid row (state_at states sid) inside old,
        );
        matches_are = omega (
          arith,
          counted,
          consistent.matches_are,
          ap (λ (ss : List State). matches_count ss) listed,
          matches_count-set states sid row (state_at states sid) inside old,
          ap (λ (s : State). length s.matches) (the_state transitions.lists matches.lists),
        );
      }

  -- ---- a link

  pub states-linked : (transitions : List (List (ℕ × ℕ))) (matches : List (List ℕ)) (fail : ℕ) → recorded_states transitions matches (set records sid (record state { fail = fail }))
      ≡ set (recorded_states transitions matches records) sid (record (state_at (recorded_states transitions matches records) sid) { fail = fail })
  states-linked transitions matches fail =
      recorded_states-changed transitions transitions matches matches records sid (record state { fail = fail }) below (λ i inside ne. refl)
      ∙ ap (set (recorded_states transitions matches records) sid) (sym (ap (λ (s : State). record s { fail = fail }) (the_state transitions matches)))

  pub IsConsistent-linked : (transitions : Lists (ℕ × ℕ)) (matches : PatternLists) (limit fail : ℕ) → IsConsistent records transitions matches limit
      → IsConsistent (set records sid (record state { fail = fail })) transitions matches limit
  IsConsistent-linked transitions matches limit fail consistent =
      let states : List State = recorded_states transitions.lists matches.lists records in
      let linked = states-linked transitions.lists matches.lists fail in
      let row : State = record (state_at states sid) { fail = fail } in
      let inside = count transitions.lists matches.lists in
      let old = get_or_default states sid (new_state 0) (state_at states sid) inside in
      record {
        small = consistent.small;
        states_within = omega (arith, length-set records sid (record state { fail = fail }), consistent.states_within);
        transitions_limit = consistent.transitions_limit;
        matches_limit = consistent.matches_limit;
        transition_lists = subst (λ (ns : List ℕ). AreNumbers IsNone ns transitions.lists) (sym (transition_numbers-kept (record state { fail = fail }) refl)) consistent.transition_lists;
        match_lists = subst (λ (ns : List ℕ). AreNumbers (IsShared matches.closed) ns matches.lists) (sym (match_numbers-kept (record state { fail = fail }) refl)) consistent.match_lists;
        transitions_are = omega (
          arith,
          consistent.transitions_are,
          ap (λ (ss : List State). transitions_count ss) linked,
          transitions_count-set states sid row (state_at states sid) inside old,
        );
        matches_are = omega (
          arith,
          consistent.matches_are,
          ap (λ (ss : List State). matches_count ss) linked,
          matches_count-set states sid row (state_at states sid) inside old,
        );
      }

-- ---- no state, one state more, or one less

pub IsConsistent-none : (transitions : Lists (ℕ × ℕ)) (matches : PatternLists) (limit : ℕ) → limit ≤ 2147483646
    → transitions ≡ record { lists = [] ∷ []; limit = limit } → matches ≡ record { lists = [] ∷ []; closed = false ∷ []; count = 1; limit = limit } → IsConsistent [] transitions matches limit
IsConsistent-none transitions matches limit small is is' = record {
  small = small;
  states_within = omega arith;
  transitions_limit = ap (λ (s : Lists (ℕ × ℕ)). s.limit) is;
  matches_limit = ap (λ (s : PatternLists). s.limit) is';
  transition_lists = record { known = λ i below. absurd (omega arith); apart = λ i j below below' ne same. absurd (omega arith) };
  match_lists = record { known = λ i below. absurd (omega arith); apart = λ i j below below' ne same. absurd (omega arith) };
  transitions_are = omega (arith, ap (λ (s : Lists (ℕ × ℕ)). length s.lists) is, ap (λ (ss : List State). transitions_count ss) (recorded_states-none transitions.lists matches.lists));
  matches_are = omega (arith, ap (λ (s : PatternLists). s.count) is', ap (λ (ss : List State). matches_count ss) (recorded_states-none transitions.lists matches.lists));
}

pub IsConsistent-push : (records : List Record) (transitions : Lists (ℕ × ℕ)) (matches : PatternLists) (limit : ℕ) (last : Record) → IsConsistent records transitions matches limit
    → length records ≤ limit → last.transitions ≡ 0 → last.matches ≡ 0 → list_at transitions.lists 0 ≡ [] → list_at matches.lists 0 ≡ [] → IsConsistent (records ++ last ∷ []) transitions matches limit
IsConsistent-push records transitions matches limit last consistent room none none' empty empty' =
    let more = recorded_states-append transitions.lists matches.lists records last in
    record {
      small = consistent.small;
      states_within = omega (arith, length_push records last);
      transitions_limit = consistent.transitions_limit;
      matches_limit = consistent.matches_limit;
      transition_lists = subst (λ (ns : List ℕ). AreNumbers IsNone ns transitions.lists)
          (sym (map-append (λ (r : Record). r.transitions) records (last ∷ []) ∙ ap (λ (n : ℕ). transition_numbers records ++ n ∷ []) none))
          (AreNumbers-push IsNone (transition_numbers records) transitions.lists refl consistent.transition_lists);
      match_lists = subst (λ (ns : List ℕ). AreNumbers (IsShared matches.closed) ns matches.lists)
          (sym (map-append (λ (r : Record). r.matches) records (last ∷ []) ∙ ap (λ (n : ℕ). match_numbers records ++ n ∷ []) none'))
          (AreNumbers-push (IsShared matches.closed) (match_numbers records) matches.lists (inl refl) consistent.match_lists);
      transitions_are = omega (
        arith,
        consistent.transitions_are,
        ap (λ (ss : List State). transitions_count ss) more,
        sum_by-append (λ (s : State). length s.transitions) (recorded_states transitions.lists matches.lists records) (recorded_state transitions.lists matches.lists last ∷ []),
        ap (λ (xs : List (ℕ × ℕ)). length xs) (ap (list_at transitions.lists) none ∙ empty),
      );
      matches_are = omega (
        arith,
        consistent.matches_are,
        ap (λ (ss : List State). matches_count ss) more,
        sum_by-append (λ (s : State). length s.matches) (recorded_states transitions.lists matches.lists records) (recorded_state transitions.lists matches.lists last ∷ []),
        ap (λ (xs : List ℕ). length xs) (ap (list_at matches.lists) none' ∙ empty'),
      );
    }

-- the first states, where the last one lists nothing
pub recorded_states-first : (records : List Record) (transitions : List (List (ℕ × ℕ))) (matches : List (List ℕ)) (states : List State) (depth count : ℕ)
    → recorded_states transitions matches records ≡ states ++ new_state depth ∷ [] → count + 1 ≡ length records → recorded_states transitions matches (take count records) ≡ states
recorded_states-first records transitions matches states depth count are is =
    let same : length states ≡ count = omega (arith, ap (λ (ss : List State). length ss) are, length-recorded_states transitions matches records, length_push states (new_state depth)) in
    sym (take-recorded_states transitions matches records count) ∙ ap (take count) are ∙ ap (λ (n : ℕ). take n (states ++ new_state depth ∷ [])) (sym same) ∙ take-append_seam states (new_state depth ∷ [])

pub IsConsistent-first : (records : List Record) (transitions : Lists (ℕ × ℕ)) (matches : PatternLists) (limit : ℕ) (states : List State) (depth count : ℕ) → IsConsistent records transitions matches limit
    → recorded_states transitions.lists matches.lists records ≡ states ++ new_state depth ∷ [] → count + 1 ≡ length records → IsConsistent (take count records) transitions matches limit
IsConsistent-first records transitions matches limit states depth count consistent are is =
    let first = recorded_states-first records transitions.lists matches.lists states depth count are is in
    record {
      small = consistent.small;
      states_within = omega (arith, length-take count records, consistent.states_within);
      transitions_limit = consistent.transitions_limit;
      matches_limit = consistent.matches_limit;
      transition_lists = subst (λ (ns : List ℕ). AreNumbers IsNone ns transitions.lists) (take-map (λ (r : Record). r.transitions) count records)
          (AreNumbers-take IsNone (transition_numbers records) transitions.lists count consistent.transition_lists);
      match_lists = subst (λ (ns : List ℕ). AreNumbers (IsShared matches.closed) ns matches.lists) (take-map (λ (r : Record). r.matches) count records)
          (AreNumbers-take (IsShared matches.closed) (match_numbers records) matches.lists count consistent.match_lists);
      transitions_are = omega (
        arith,
        consistent.transitions_are,
        ap (λ (ss : List State). transitions_count ss) first,
        ap (λ (ss : List State). transitions_count ss) are,
        sum_by-append (λ (s : State). length s.transitions) states (new_state depth ∷ []),
      );
      matches_are = omega (
        arith,
        consistent.matches_are,
        ap (λ (ss : List State). matches_count ss) first,
        ap (λ (ss : List State). matches_count ss) are,
        sum_by-append (λ (s : State). length s.matches) states (new_state depth ∷ []),
      );
    }
