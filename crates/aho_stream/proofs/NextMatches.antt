-- What is known of the next match, whatever bytes follow.
use Rattle.std.proofs.Common.{◌≡◌, ◌≢◌, ℕ, ◌+◌, ◌-◌, ◌<◌, ◌≤◌, inl, inr, Bool, true, false, List, [], ◌++◌, length, map, refl, sym, ◌∙◌, ap, subst, arith, length-append}
use Rattle.std.specs.Prelude.{Option, Some, None, slice_range}
use Rattle.std.proofs.lemmas.Bool.{cases_lt}
use Rattle.aho_core.specs.Answer.{IsAnswer}
use Rattle.aho_core.specs.Best.{IsBestOrNone}
use Rattle.aho_core.specs.Laws.{BestAfter, Reads, longest, shortest}
use Rattle.aho_core.specs.Occurrence.{Occurrence}
use Rattle.aho_core.specs.Occurs.{Occurs}
use Rattle.aho_core.specs.Order.{IsBefore}
use Rattle.aho_core.specs.Patterns.{Patterns}
use Rattle.aho_core.specs.declared.search.Anchored.{Anchored}
use Rattle.aho_core.specs.declared.search.Anchored.TheVariants.{No}
use Rattle.aho_core.specs.declared.search.MatchKind.{MatchKind}
use Rattle.aho_core.specs.declared.search.MatchKind.TheVariants.{Standard}
use Rattle.aho_laws.proofs.Answers.{IsAnswer-unique}
use Rattle.aho_laws.proofs.Kept.{other_than_standard}
use Rattle.aho_laws.proofs.Stands.{best_starts}
use Rattle.aho_automaton.proofs.Origins.{answer_from_origin}
use Rattle.aho_automaton.proofs.Places.{best_in_whole, into_part, length_part, moved, moved_option, moved_back, part_join, widened, narrowed}
use Rattle.aho_stream.specs.After.{MayFollow, NothingBegins, search_from}
use Rattle.aho_stream.proofs.GivenBytes.{part_stays}
use Rattle.aho_stream.proofs.PatternLengths.{occurs_some, occurs_short}

pub MayFollow-nothing : (ended : Bool) → MayFollow ended []
MayFollow-nothing true = refl
MayFollow-nothing false = tt

-- where the end was seen nothing follows
pub nothing_follows : (ended : Bool) (more : List ℕ) → ended ≡ true → MayFollow ended more → more ≡ []
nothing_follows true more e follows = follows
nothing_follows false more e follows = cc

-- in no byte nothing occurs, where no pattern is empty
pub none_in_nothing : (p : Patterns) (lengths : List ℕ) → lengths ≡ map length p.words → 1 ≤ shortest lengths → (word : List ℕ) → word ≡ [] → BestAfter p No word None
none_in_nothing p lengths are no_empty word nothing n o =
    omega (arith, occurs_some p lengths are n o no_empty, o.before_end, ap length nothing)

module _ (p : Patterns) (given more : List ℕ) (from walked : ℕ) (ordered : from ≤ walked) (within : walked ≤ length given) where
  -- what was walked is the same with what follows
  same_word : slice_range (given ++ more) from walked ≡ slice_range given from walked
  same_word = part_stays given more from walked ordered within

  longer : walked ≤ length (given ++ more)
  longer = omega (arith, length-append given more)

  -- the best of what was walked
  best_walked : (best : Option Occurrence) → BestAfter p No (slice_range given from walked) best → IsBestOrNone p.kind (Occurs p No (given ++ more) from walked) (moved_option from best)
  best_walked best is_best = best_in_whole p No (given ++ more) from walked best ordered longer (subst (λ (w : List ℕ). BestAfter p No w best) (sym same_word) is_best)

  -- Standard: what was found first is the answer, whatever follows
  pub found_first : (m : Occurrence) → p.kind ≡ Standard → from + m.end ≡ walked → BestAfter p No (slice_range given from walked) (Some m) → IsAnswer p (search_from from (given ++ more)) (Some (moved from m))
  found_first m standard ends is_best =
      let best = best_walked (Some m) is_best in (
        widened p No (given ++ more) from walked (length (given ++ more)) (moved from m) longer best.0,
        λ n o. elim (cases_lt walked n.end) [
          | inl past ↦ inr (subst (λ (k : MatchKind). IsBefore k (moved from m) n) (sym standard) (inl (omega (arith, ends))))
          | inr ge ↦ best.1 n (narrowed p No (given ++ more) from walked (length (given ++ more)) n ge o)
        ],
      )

  -- what was found before the state was dead is the answer, whatever follows
  pub found_dead : {kind : MatchKind} {lengths : List ℕ} {held : Anchored → List ℕ → ℕ → Type 0} {list : ℕ → List ℕ} {dead starts : ℕ → Bool} → Reads p kind lengths held list dead starts
      → (sid : ℕ) (m : Occurrence) → held No (slice_range given from walked) sid → dead sid ≡ true → BestAfter p No (slice_range given from walked) (Some m) → IsAnswer p (search_from from (given ++ more)) (Some (moved from m))
  found_dead {held} laws sid m is_held died is_best =
      let h = given ++ more in
      let end = length h in
      let word = slice_range h from walked in
      let kept = laws.dead_keeps No word (slice_range h walked end) sid (Some m) (subst (λ (w : List ℕ). held No w sid) (sym same_word) is_held) died
      (subst (λ (w : List ℕ). BestAfter p No w (Some m)) (sym same_word) is_best) in
      best_in_whole p No h from end (Some m) (omega (arith, longer)) (omega arith) (subst (λ (w : List ℕ). BestAfter p No w (Some m)) (sym (part_join h from walked end ordered longer)) kept)

  -- a leftmost kind: where a match was found, what may come in its place starts no farther before the place than the longest
  -- pattern is long, as that match does
  pub starts_near_found : (lengths : List ℕ) (best m : Occurrence) → lengths ≡ map length p.words → p.kind ≢ Standard → BestAfter p No (slice_range given from walked) (Some best) → walked ≤ from + best.start + longest lengths
      → IsAnswer p (search_from from (given ++ more)) (Some m) → walked ≤ m.start + longest lengths
  starts_near_found lengths best m are leftmost is_best near answer = elim (cases_lt walked m.end) [
    | inl past ↦ omega (arith, past, occurs_short p lengths are m answer.0)
    | inr ge ↦
        (let whole = best_walked (Some best) is_best in
        let first = best_starts p.kind (moved from best) m (other_than_standard p.kind leftmost) (whole.1 m (narrowed p No (given ++ more) from walked (length (given ++ more)) m ge answer.0)) in
        omega (arith, near, first))
  ]

  -- where nothing was found, what occurs ends later
  pub ends_later : (m : Occurrence) → BestAfter p No (slice_range given from walked) None → IsAnswer p (search_from from (given ++ more)) (Some m) → walked < m.end
  ends_later m none answer = elim (cases_lt walked m.end) [
    | inl past ↦ past
    | inr ge ↦ absurd (best_walked None none m (narrowed p No (given ++ more) from walked (length (given ++ more)) m ge answer.0))
  ]

  -- so it starts less than the longest pattern before the place
  pub starts_near : (lengths : List ℕ) (m : Occurrence) → lengths ≡ map length p.words → BestAfter p No (slice_range given from walked) None → IsAnswer p (search_from from (given ++ more)) (Some m) → walked ≤ m.start + longest lengths
  starts_near lengths m are none answer = omega (arith, ends_later m none answer, occurs_short p lengths are m answer.0)

  -- and at the place or later, where the state is a start
  pub starts_behind : {kind : MatchKind} {lengths : List ℕ} {held : Anchored → List ℕ → ℕ → Type 0} {list : ℕ → List ℕ} {dead starts : ℕ → Bool} → Reads p kind lengths held list dead starts
      → (sid : ℕ) (m : Occurrence) → held No (slice_range given from walked) sid → starts sid ≡ true → BestAfter p No (slice_range given from walked) None → IsAnswer p (search_from from (given ++ more)) (Some m) → walked ≤ m.start
  starts_behind {held} laws sid m is_held is_start none answer =
      let h = given ++ more in
      let end = length h in
      let word = slice_range h from walked in
      let rest = slice_range h walked end in
      let joined : slice_range h from end ≡ word ++ rest = part_join h from walked end ordered longer in
      let long : length word ≡ walked - from = length_part h from walked longer in
      let whole : length (word ++ rest) ≡ end - from = sym (ap length joined) ∙ length_part h from end (omega arith) in
      let here : Occurs p No (word ++ rest) 0 (length (word ++ rest)) (moved_back from m) =
      subst (λ (x : ℕ). Occurs p No (word ++ rest) 0 x (moved_back from m)) (sym whole)
      (subst (λ (w : List ℕ). Occurs p No w 0 (end - from) (moved_back from m)) joined (into_part p No h from end m answer.0)) in
      let apart = laws.start_apart word rest sid (moved_back from m) (subst (λ (w : List ℕ). held No w sid) (sym same_word) is_held) is_start here (omega (arith, long, ends_later m none answer)) in
      omega (arith, apart, long, answer.0.after_start)

-- where nothing begins before an origin, the answer from there is the answer, and the other way round
pub answer_sooner : (p : Patterns) (given more : List ℕ) (from origin : ℕ) (answer : Option Occurrence) → from ≤ origin → NothingBegins p given from origin
    → IsAnswer p (search_from origin (given ++ more)) answer → IsAnswer p (search_from from (given ++ more)) answer
answer_sooner p given more from origin answer before apart = answer_from_origin p (given ++ more) from origin (length (given ++ more)) before false answer (apart more)

pub answer_later : (p : Patterns) (given more : List ℕ) (from origin : ℕ) (m : Occurrence) → from ≤ origin → NothingBegins p given from origin
    → IsAnswer p (search_from from (given ++ more)) (Some m) → IsAnswer p (search_from origin (given ++ more)) (Some m)
answer_later p given more from origin m before apart answer =
    let o = answer.0 in (
      record { numbered = o.numbered; after_start = apart more m o; before_end = o.before_end; sized = o.sized; same = o.same; admitted = λ y. cc },
      λ n other. answer.1 n (record { numbered = other.numbered; after_start = omega (arith, before, other.after_start); before_end = other.before_end; sized = other.sized; same = other.same; admitted = λ y. cc }),
    )

-- the answer of what was walked where nothing follows
pub found_at_end : (p : Patterns) (given : List ℕ) (from walked : ℕ) (best : Option Occurrence) → from ≤ walked → walked ≡ length given → BestAfter p No (slice_range given from walked) best → IsAnswer p (search_from from given) (moved_option from best)
found_at_end p given from walked best ordered all is_best =
    subst (λ (end : ℕ). IsBestOrNone p.kind (Occurs p No given from end) (moved_option from best)) all (best_in_whole p No given from walked best ordered (omega arith) is_best)

-- two answers of one search start together
pub answers_together : (p : Patterns) (given more : List ℕ) (from : ℕ) (m n : Occurrence) → IsAnswer p (search_from from (given ++ more)) (Some m) → IsAnswer p (search_from from (given ++ more)) (Some n) → m ≡ n
answers_together p given more from m n first second = let same = IsAnswer-unique p (search_from from (given ++ more)) (Some m) (Some n) first second in cc
