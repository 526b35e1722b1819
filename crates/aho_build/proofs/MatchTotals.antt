-- How many patterns the states list together while the lists are copied, and in the end.
use Rattle.std.proofs.Common.{◌≡◌, ℕ, zero, suc, ◌+◌, ◌<◌, ◌≤◌, ◌≢◌, Bool, List, [], ◌∷◌, ◌++◌, length, get_or, map, Option, Some, None, refl, sym, ap, subst, ◌∙◌, inl, inr, arith}
use Rattle.std.specs.Prelude.{sum_by}
use Rattle.std.proofs.Math.ListN.{set}
use Rattle.std.proofs.lemmas.Bool.{cases_eq}
use Rattle.std.proofs.lemmas.List.{length-set, length-append, length-map, get_or-map}
use Rattle.std.proofs.lemmas.List.Sums.{sum_by-cons, sum_by-set}
use Rattle.aho_core.specs.declared.error.BuildError.{BuildError}
use Rattle.aho_core.specs.declared.error.BuildError.TheVariants.{StateIDOverflow}
use Rattle.aho_core.specs.MatchList.{own_matches, matches_of}
use Rattle.aho_core.specs.Failure.{failure_of}
use Rattle.aho_core.specs.Patterns.{Patterns}
use Rattle.aho_core.specs.Trie.{is_node}
use Rattle.aho_laws.proofs.ByLinks.{matches-root, matches-next}
use Rattle.aho_laws.proofs.Inserted.{own_among-all}
use Rattle.aho_build.specs.FailureLinks.{IsLinking, append_matches, linked_state}
use Rattle.aho_build.specs.Built.{IsBuilt}
use Rattle.aho_build.specs.Starts.{root_loop}
use Rattle.aho_table.specs.Refusal.{IsRefusalOf}
use Rattle.aho_build.specs.Trie.{HoldsTrie, IsTrie, names_before}
use Rattle.aho_build.specs.StateNames.{name_at}
use Rattle.aho_build.specs.Sizes.{nodes, matches_size}
use Rattle.aho_table.specs.Table.{fail_id, dead_id, State, Tables, new_state, state_at, fail_in, matches_in, matches_count, set_fail_of}
use Rattle.aho_build.specs.FirstStates.{anchored_id, root_id}
use Rattle.aho_table.proofs.States.{state_at-set_same, state_at-set_other, part-set}
use Rattle.aho_build.proofs.KeptTransitions.{sum_by-places, matches_count-same}

-- one state lists more patterns
matches_count-longer : (states : List State) (sid : ℕ) (state : State) (more : List ℕ) → sid < length states → state.matches ≡ matches_in states sid ++ more
    → matches_count (set states sid state) ≡ matches_count states + length more
matches_count-longer states sid state more below is =
    omega (arith, sum_by-set (λ (r : State). length r.matches) states sid state (new_state 0) below, ap (λ (l : List ℕ). length l) is, length-append (matches_in states sid) more)

-- with a list copied
pub matches_count-append : (states : List State) (to from : ℕ) → to < length states → matches_count (append_matches states to from) ≡ matches_count states + length (matches_in states from)
matches_count-append states to from below =
    matches_count-longer states to (record (state_at states to) { matches = (state_at states to).matches ++ matches_in states from }) (matches_in states from) below refl

-- with a state's link made
pub matches_count-link : (states : List State) (sid fail : ℕ) → sid < length states → matches_count (linked_state states sid fail) ≡ matches_count states + length (matches_in states fail)
matches_count-link states sid fail below =
    matches_count-longer states sid (record (state_at states sid) { fail = fail; matches = (state_at states sid).matches ++ matches_in states fail }) (matches_in states fail) below refl

-- with one state's list after another's own, whatever else was changed
pub matches_count-after : (old new : List State) (to from : ℕ) → to < length old → length new ≡ length old → matches_in new to ≡ matches_in old to ++ matches_in old from
    → ((i : ℕ) → i ≢ to → matches_in new i ≡ matches_in old i) → matches_count new ≡ matches_count old + length (matches_in old from)
matches_count-after old new to from below size here others =
    let state : State = record (state_at old to) { matches = (state_at old to).matches ++ matches_in old from } in
    matches_count-same (append_matches old to from) new (size ∙ sym (length-set old to state))
    (λ i.
    elim (cases_eq i to) [
      | inl same ↦ ap (matches_in new) same ∙ here ∙ sym (ap (λ (r : State). r.matches) (state_at-set_same old to state below)) ∙ ap (matches_in (append_matches old to from)) (sym same)
      | inr other ↦ others i other ∙ sym (ap (λ (r : State). r.matches) (state_at-set_other old to i state other))
    ])
    ∙ matches_count-append old to from below

-- a refusal below one size is one below a larger size
pub IsRefusalOf-larger : (limit larger limit' size : ℕ) (error : BuildError) → limit' ≡ limit → size ≤ larger → IsRefusalOf limit' size error → IsRefusalOf limit larger error
IsRefusalOf-larger limit larger limit' size error same le refusal =
    elim refusal [
      | inl memory ↦ inl memory
      | inr full ↦ inr (full.0 ∙ ap (λ (n : ℕ). StateIDOverflow n (n + 1)) same, omega (arith, full.1, le, same))
    ]

-- a refusal after a state's link was set
pub linked_refused : (old new : Tables) (sid fail : ℕ) (error : BuildError) → sid < length old.states → new ≡ record old { states = set_fail_of old.states sid fail }
    → IsRefusalOf new.limit (matches_count new.states + length (matches_in new.states fail)) error → IsRefusalOf old.limit (matches_count old.states + length (matches_in old.states fail)) error
linked_refused old new sid fail error below is refusal =
    let state : State = record (state_at old.states sid) { fail = fail } in
    let states : new.states ≡ set old.states sid state = ap (λ (t : Tables). t.states) is in
    let same : (i : ℕ) → matches_in new.states i ≡ matches_in old.states i =
    λ i. ap (λ (t : List State). matches_in t i) states ∙ part-set (λ (r : State). r.matches) old.states sid state below refl i in
    let count = matches_count-same old.states new.states (ap (λ (t : List State). length t) states ∙ length-set old.states sid state) same in
    IsRefusalOf-larger old.limit (matches_count old.states + length (matches_in old.states fail)) new.limit (matches_count new.states + length (matches_in new.states fail)) error
    (ap (λ (t : Tables). t.limit) is) (omega (arith, count, ap (λ (l : List ℕ). length l) (same fail))) refusal

module _ (p : Patterns) where
  -- the lists of all states in the end, by their numbers
  abbrev all_lists : List (List ℕ)
  all_lists = [] ∷ [] ∷ matches_of p (Some []) ∷ matches_of p (Some []) ∷ map (λ word. matches_of p (Some word)) (nodes p)

  sum-map : (f : List ℕ → List ℕ) (words : List (List ℕ)) → sum_by (λ (l : List ℕ). length l) (map f words) ≡ sum_by (λ word. length (f word)) words
  sum-map f [] = refl
  sum-map f (word ∷ words) =
      omega (arith, sum_by-cons (λ (l : List ℕ). length l) (f word) (map f words), sum_by-cons (λ word. length (f word)) word words, sum-map f words)

  -- the stated size is that of these lists
  size_is : matches_size p ≡ 1 + sum_by (λ (l : List ℕ). length l) all_lists
  size_is =
      let size : List ℕ → ℕ = λ l. length l in
      let f : List ℕ → List ℕ = λ word. matches_of p (Some word) in
      let root : List ℕ = matches_of p (Some []) in
      omega (
        arith,
        sum_by-cons size [] ([] ∷ root ∷ root ∷ map f (nodes p)),
        sum_by-cons size [] (root ∷ root ∷ map f (nodes p)),
        sum_by-cons size root (root ∷ map f (nodes p)),
        sum_by-cons size root (map f (nodes p)),
        sum-map f (nodes p),
      )

  abbrev names : List (Option (List ℕ))
  names = names_before p (length p.words)

  -- what holds of every state's list and the list that it has in the end
  by_place : (R : ℕ → ℕ → Type 0) (states : List State) → R (length (matches_in states dead_id)) 0 → R (length (matches_in states fail_id)) 0
      → R (length (matches_in states root_id)) (length (matches_of p (Some []))) → R (length (matches_in states anchored_id)) (length (matches_of p (Some [])))
      → ((i : ℕ) (word : List ℕ) → 4 ≤ i → name_at names i ≡ Some word → R (length (matches_in states i)) (length (matches_of p (Some word))))
      → (i : ℕ) → i < 4 + length (nodes p) → R (length (matches_in states i)) (length (get_or all_lists i []))
  by_place R states dead fail root anchored named zero below = dead
  by_place R states dead fail root anchored named (suc zero) below = fail
  by_place R states dead fail root anchored named (suc (suc zero)) below = root
  by_place R states dead fail root anchored named (suc (suc (suc zero))) below = anchored
  by_place R states dead fail root anchored named (suc (suc (suc (suc k)))) below =
      let inside : k < length (nodes p) = omega arith in
      let word : List ℕ = get_or (nodes p) k [] in
      subst (λ (l : List ℕ). R (length (matches_in states (suc (suc (suc (suc k)))))) (length l)) (sym (get_or-map (λ (w : List ℕ). matches_of p (Some w)) (nodes p) k [] [] inside))
      (named (suc (suc (suc (suc k)))) word (omega arith) (get_or-map (λ (w : List ℕ). Some w) (nodes p) k [] None inside))

  -- no own list is longer than the whole one
  own-le : (word : List ℕ) → length (own_matches p word) ≤ length (matches_of p (Some word))
  own-le [] = omega (arith, ap (λ (l : List ℕ). length l) (matches-root p))
  own-le (y ∷ u) = omega (arith, ap (λ (l : List ℕ). length l) (matches-next p y u), length-append (own_matches p (y ∷ u)) (matches_of p (failure_of p (y ∷ u))))

  own-le_list : (states : List State) (i : ℕ) (word : List ℕ) → matches_in states i ≡ own_matches p word → length (matches_in states i) ≤ length (matches_of p (Some word))
  own-le_list states i word is = omega (arith, ap (λ (l : List ℕ). length l) is, own-le word)

  lists_length : length all_lists ≡ 4 + length (nodes p)
  lists_length = omega (arith, length-map (nodes p) (λ (word : List ℕ). matches_of p (Some word)))

  names_length : length names ≡ 4 + length (nodes p)
  names_length = omega (arith, length-map (nodes p) (λ (word : List ℕ). Some word))

  -- where no list is longer than in the end, neither are all together
  total-le : (states : List State) → length states ≡ 4 + length (nodes p) → ((i : ℕ) → i < 4 + length (nodes p) → length (matches_in states i) ≤ length (get_or all_lists i []))
      → matches_count states ≤ matches_size p
  total-le states size each =
      omega (
        arith,
        size_is,
        sum_by-places (λ (r : State). length r.matches) (λ (l : List ℕ). length l) states all_lists (new_state 0) [] (omega (arith, lists_length, size)) (λ i below. each i (omega (arith, below, size))),
      )

  -- and where each is as long, so are all together
  total-same : (states : List State) → length states ≡ 4 + length (nodes p) → ((i : ℕ) → i < 4 + length (nodes p) → length (matches_in states i) ≡ length (get_or all_lists i []))
      → matches_count states ≡ matches_size p
  total-same states size each =
      omega (
        arith,
        total-le states size (λ i below. omega (arith, each i below)),
        size_is,
        sum_by-places (λ (l : List ℕ). length l) (λ (r : State). length r.matches) all_lists states [] (new_state 0) (omega (arith, lists_length, size)) (λ i below. omega (arith, each i (omega (arith, below, lists_length)))),
      )

  module _ (f : List ℕ → Bool) (at_root : ℕ) (states : List State) (trie : IsTrie p f at_root names states) where
    states_length : length states ≡ 4 + length (nodes p)
    states_length = sym trie.sized ∙ names_length

    named-nonempty : (i : ℕ) (word : List ℕ) → 4 ≤ i → name_at names i ≡ Some word → word ≢ []
    named-nonempty i word past named e = let two : i ≡ root_id = trie.unique i root_id [] (named ∙ ap (λ (w : List ℕ). Some w) e) trie.root in omega arith

  -- while the links are made
  pub matches_count-linking : (queue : List ℕ) (head part : ℕ) (states : List State) → IsLinking p names queue head part states → matches_in states fail_id ≡ [] → matches_count states ≤ matches_size p
  matches_count-linking queue head part states so_far none =
      total-le states (states_length (is_node p) (root_loop p) states so_far.trie)
      (by_place (λ (a b : ℕ). a ≤ b) states
      (omega (arith, ap (λ (l : List ℕ). length l) so_far.dead.matches))
      (omega (arith, ap (λ (l : List ℕ). length l) none))
      (own-le_list states root_id [] so_far.root_matches)
      (own-le_list states anchored_id [] so_far.anchored.matches)
      (λ i word past named.
      elim (cases_eq (fail_in states i) fail_id) [
        | inl waits ↦ own-le_list states i word (so_far.unlinked i word named waits)
        | inr ready ↦ (let linked = so_far.linked i word named (named-nonempty (is_node p) (root_loop p) states so_far.trie i word past named) ready in omega (arith, ap (λ (l : List ℕ). length l) linked.matches))
      ]))

  -- once they are all made
  pub matches_count-built : (states : List State) → IsBuilt p names states → matches_in states fail_id ≡ [] → matches_count states ≡ matches_size p
  matches_count-built states built none =
      total-same states (states_length (is_node p) (root_loop p) states built.trie)
      (by_place (λ (a b : ℕ). a ≡ b) states
      (ap (λ (l : List ℕ). length l) built.dead.matches)
      (ap (λ (l : List ℕ). length l) none)
      (ap (λ (l : List ℕ). length l) (built.root_matches ∙ sym (matches-root p)))
      (ap (λ (l : List ℕ). length l) (built.anchored.matches ∙ sym (matches-root p)))
      (λ i word past named. ap (λ (l : List ℕ). length l) (built.linked i word named (named-nonempty (is_node p) (root_loop p) states built.trie i word past named)).matches))

  -- what the anchored start gets are the root's own patterns
  pub root_list-own : (states : List State) → HoldsTrie p states → length (matches_in states root_id) ≡ length (matches_of p (Some []))
  root_list-own states finished =
      ap (λ (l : List ℕ). length l) (finished.trie.lists root_id [] finished.trie.trie.root ∙ own_among-all p [] ∙ sym (matches-root p))
