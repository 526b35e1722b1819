-- How each move of an iterator over a stream keeps what is known of how far it has come.
use Rattle.std.proofs.Common.{◌≡◌, ℕ, ◌+◌, ◌-◌, ◌*◌, ◌^◌, ◌<◌, ◌≤◌, inl, inr, Bool, true, false, List, [], ◌++◌, length, take, map, refl, sym, ◌∙◌, ap, subst, arith, append_assoc, length-append}
use Rattle.std.specs.Prelude.{Option, Some, None, IfSome, slice_range}
use Rattle.std.proofs.lemmas.Bool.{cases_lt}
use Rattle.aho_core.specs.Answer.{IsAnswer}
use Rattle.aho_core.specs.Laws.{BestAfter, Reads, longest, shortest}
use Rattle.aho_core.specs.Occurrence.{Occurrence}
use Rattle.aho_core.specs.Occurs.{Occurs}
use Rattle.aho_core.specs.Patterns.{Patterns}
use Rattle.aho_core.specs.declared.search.Anchored.{Anchored}
use Rattle.aho_core.specs.declared.search.Anchored.TheVariants.{No}
use Rattle.aho_core.specs.declared.search.MatchKind.{MatchKind}
use Rattle.aho_core.specs.declared.search.MatchKind.TheVariants.{Standard}
use Rattle.aho_devices.specs.Buffer.{Buffered, capacity_for}
use Rattle.std.proofs.Math.Nat.{le-mul_of_pos_right}
use Rattle.aho_prefilter.specs.Candidate.{NoneStartsBefore}
use Rattle.aho_automaton.proofs.Origins.{skipped}
use Rattle.aho_automaton.proofs.Places.{into_part, length_part, moved_back, narrowed, no_part, part_join, part_of_part}
use Rattle.aho_automaton.specs.declared.automaton.Automaton.{Ghosts}
use Rattle.aho_stream.specs.After.{IsAfter, IsInHand, MayFollow, kept_for, search_from, word_of}
use Rattle.aho_stream.specs.Refills.{Refills}
use Rattle.aho_stream.specs.Walking.{WalksOn}
use Rattle.aho_stream.specs.declared.progress.StreamProgress.{StreamProgress}
use Rattle.aho_stream.specs.declared.settle.Walked.{Walked}
use Rattle.aho_stream.proofs.GivenBytes.{part_stays}
use Rattle.aho_stream.proofs.NextMatches.{none_in_nothing}
use Rattle.aho_stream.proofs.PatternLengths.{occurs_short, occurs_some}

-- what a match pays for that ends later
more_paid : (most from end : ℕ) → from + 1 ≤ end → most * from + most ≤ most * end
more_paid most from end later =
    let there : from + (end - from) ≡ end = omega (arith, later) in
    let some : 1 ≤ end - from = omega (arith, later) in
    subst (λ (x : ℕ). most * from + most ≤ most * x) there (omega (arith, le-mul_of_pos_right most some))

module _ {S : Type 0} (A : Ghosts S) (automaton : S) (p : Patterns) where
  abbrev lengths : List ℕ
  lengths = A.lengths automaton

  abbrev valid : ℕ → Type 0
  valid = A.valid automaton

  abbrev held : Anchored → List ℕ → ℕ → Type 0
  held = A.held automaton p

  abbrev depth : ℕ → ℕ
  depth = A.depth automaton

  abbrev After : ℕ → StreamProgress → List ℕ → Type 0
  After lookups s given = IsAfter A automaton p lookups s given

  -- a match stays in hand where the walk stays
  pub in_hand_same : (s t : StreamProgress) → t.origin ≡ s.origin → t.walked ≡ s.walked → (found : Option Occurrence) → IsInHand p.kind (longest lengths) s found → IsInHand p.kind (longest lengths) t found
  in_hand_same s t origin walked None i = tt
  in_hand_same s t origin walked (Some m) i = (omega (arith, i.0, origin, walked), omega (arith, i.1, origin, walked), λ standard. omega (arith, i.2 standard, origin, walked))

  -- before the first byte
  pub after_made : (lookups : ℕ) (buffer : Buffered) (start limit : ℕ) → lookups ≡ 0 → lengths ≡ map length p.words
      → 1 ≤ shortest lengths → longest lengths < 2 ^ 64 → valid start → depth start ≡ 0 → held No [] start
      → limit < 2 ^ 63 → buffer.least ≡ kept_for lengths → buffer.size ≡ capacity_for (kept_for lengths) → buffer.bytes ≡ []
      → After lookups (record { buffer = buffer; read = 0; limit = limit; from = 0; origin = 0; told = 0; reported = 0; walked = 0; position = 0; sid = start; start = start; in_hand = None; patience = 0; ended = false; refused = false }) []
  after_made lookups buffer start limit none are no_empty sized is_state shallow is_held bounded least size empty = record {
    no_empty = no_empty;
    sized = sized;
    start_is = is_state;
    start_shallow = shallow;
    start_held = is_held;
    count = refl;
    limited = omega arith;
    bounded = bounded;
    least = least;
    size = size;
    enough = omega arith;
    last = ([], sym empty);
    kept = omega arith;
    told_reported = omega arith;
    from_reported = omega arith;
    from_origin = omega arith;
    origin_walked = omega arith;
    reported_walked = omega arith;
    walked_read = omega arith;
    position = omega arith;
    apart = λ more m o. omega arith;
    once = λ standard. omega arith;
    each = λ plain. omega arith;
    paid = omega (arith, none, shallow);
    is_state = is_state;
    held_is = subst (λ (w : List ℕ). held No w start) (sym (no_part [] 0)) is_held;
    best_is = none_in_nothing p lengths are no_empty (slice_range [] 0 0) (no_part [] 0);
    in_hand_is = tt;
    clear = λ more m follows answer. omega arith;
    stopped = λ e. cc;
  }

  -- the last chunk is let go
  pub after_told : (lookups : ℕ) (s : StreamProgress) (given : List ℕ) → After lookups s given → After lookups (record s { told = s.reported }) given
  after_told lookups s given a = record {
    no_empty = a.no_empty;
    sized = a.sized;
    start_is = a.start_is;
    start_shallow = a.start_shallow;
    start_held = a.start_held;
    count = a.count;
    limited = a.limited;
    bounded = a.bounded;
    least = a.least;
    size = a.size;
    enough = a.enough;
    last = a.last;
    kept = omega (arith, a.kept, a.told_reported);
    told_reported = omega arith;
    from_reported = a.from_reported;
    from_origin = a.from_origin;
    origin_walked = a.origin_walked;
    reported_walked = a.reported_walked;
    walked_read = a.walked_read;
    position = a.position;
    apart = a.apart;
    once = a.once;
    each = a.each;
    paid = a.paid;
    is_state = a.is_state;
    held_is = a.held_is;
    best_is = a.best_is;
    in_hand_is = in_hand_same s (record s { told = s.reported }) refl refl s.in_hand a.in_hand_is;
    clear = a.clear;
    stopped = a.stopped;
  }

  -- what was walked, after some bytes more
  word_more : (s : StreamProgress) (given : List ℕ) (count : ℕ) → s.origin ≤ s.walked → s.walked + count ≤ s.read → s.read ≤ length given
      → slice_range given s.origin (s.walked + count) ≡ word_of s given ++ take count (slice_range given s.walked s.read)
  word_more s given count ordered within all =
      part_join given s.origin s.walked (s.walked + count) ordered (omega arith)
      ∙ ap (λ (xs : List ℕ). word_of s given ++ xs)
      (sym (part_of_part given s.walked s.read 0 count s.walked (s.walked + count) (omega arith) (omega arith) (omega arith) within)
      ∙ (let same : count - 0 ≡ count = omega arith in ap (λ (n : ℕ). take n (slice_range given s.walked s.read)) same))

  -- the walk went on
  pub after_walked : (lookups lookups' : ℕ) (s : StreamProgress) (given : List ℕ) (walked : Walked)
      → After lookups s given → s.refused ≡ false
      → s.walked + walked.count ≤ s.read → valid walked.sid → lookups' + depth walked.sid ≤ lookups + depth s.sid + 2 * walked.count
      → WalksOn p lengths held (word_of s given) (slice_range given s.walked s.read) walked
      → After lookups' (record s { walked = s.walked + walked.count; position = s.position + walked.count; sid = walked.sid; in_hand = walked.found }) given
  after_walked lookups lookups' s given walked a unrefused within is_state paid walks =
      let ordered : s.origin ≤ s.walked = a.origin_walked in
      let all : s.read ≤ length given = omega (arith, a.count) in
      let more = word_more s given walked.count ordered within all in
      let best = subst (λ (w : List ℕ). BestAfter p No w walked.found) (sym more) walks.best_is in
      record {
        no_empty = a.no_empty;
        sized = a.sized;
        start_is = a.start_is;
        start_shallow = a.start_shallow;
        start_held = a.start_held;
        count = a.count;
        limited = a.limited;
        bounded = a.bounded;
        least = a.least;
        size = a.size;
        enough = a.enough;
        last = a.last;
        kept = a.kept;
        told_reported = a.told_reported;
        from_reported = a.from_reported;
        from_origin = a.from_origin;
        origin_walked = omega (arith, a.origin_walked);
        reported_walked = omega (arith, a.reported_walked);
        walked_read = within;
        position = omega (arith, a.position);
        apart = a.apart;
        once = λ standard. omega (arith, a.once standard);
        each = λ plain. omega (arith, a.each plain);
        paid = omega (arith, paid, a.paid);
        is_state = is_state;
        held_is = subst (λ (w : List ℕ). held No w walked.sid) (sym more) walks.held_is;
        best_is = best;
        in_hand_is = found_in_hand walked.found best walks.near walks.ends;
        clear = a.clear;
        stopped = λ e. cc;
      }
    where
      long : s.origin ≤ s.walked → s.walked ≤ length given → length (word_of s given) ≡ s.walked - s.origin
      long ordered within = length_part given s.origin s.walked within

      found_in_hand : (found : Option Occurrence) → BestAfter p No (slice_range given s.origin (s.walked + walked.count)) found
          → IfSome found (λ m. length (word_of s given) + walked.count ≤ m.start + longest lengths + 1) → (p.kind ≡ Standard → IfSome found (λ m. length (word_of s given) + walked.count ≤ m.end))
          → IsInHand p.kind (longest lengths) (record s { walked = s.walked + walked.count; position = s.position + walked.count; sid = walked.sid; in_hand = walked.found }) found
      found_in_hand None best near ends = tt
      found_in_hand (Some m) best near ends =
          let ordered : s.origin ≤ s.walked = a.origin_walked in
          let size = long ordered (omega (arith, within, a.count)) in
          let whole = length_part given s.origin (s.walked + walked.count) (omega (arith, within, a.count)) in (
            omega (arith, best.0.before_end, whole, ordered),
            omega (arith, near, size, ordered),
            λ standard. omega (arith, ends standard, size, ordered),
          )

  -- bytes were passed over in which nothing begins, in a start with nothing in hand, where streams skip. What begins there would end
  -- in what was read
  pub after_passed : {kind : MatchKind} {list : ℕ → List ℕ} {dead starts : ℕ → Bool} → Reads p kind lengths held list dead starts
      → (lookups : ℕ) (s : StreamProgress) (given : List ℕ) (count patience : ℕ) → After lookups s given → s.refused ≡ false → A.skips_streams automaton ≡ true → s.in_hand ≡ None → starts s.sid ≡ true
      → NoneStartsBefore p (slice_range given s.walked s.read) 0 (length (slice_range given s.walked s.read)) count
      → count ≤ (length (slice_range given s.walked s.read) + 1) - s.buffer.least
      → After lookups (record s { origin = s.walked + count; walked = s.walked + count; patience = patience }) given
  after_passed laws lookups s given count patience a unrefused skips free is_start none few = record {
    no_empty = a.no_empty;
    sized = a.sized;
    start_is = a.start_is;
    start_shallow = a.start_shallow;
    start_held = a.start_held;
    count = a.count;
    limited = a.limited;
    bounded = a.bounded;
    least = a.least;
    size = a.size;
    enough = a.enough;
    last = a.last;
    kept = a.kept;
    told_reported = a.told_reported;
    from_reported = a.from_reported;
    from_origin = omega (arith, a.from_origin, a.origin_walked);
    origin_walked = omega arith;
    reported_walked = omega (arith, a.reported_walked);
    walked_read = omega (arith, few, long, a.least, a.walked_read);
    position = omega (arith, a.position);
    apart = λ more.
        let h = given ++ more in
        let longer : length h ≡ length given + length more = length-append given more in
        let same : slice_range h s.origin s.walked ≡ word_of s given = part_stays given more s.origin s.walked a.origin_walked (omega (arith, a.walked_read, a.count)) in
        let held_here : held No (slice_range h s.origin s.walked) s.sid = subst (λ (w : List ℕ). held No w s.sid) (sym same) a.held_is in
        let none_here : BestAfter p No (slice_range h s.origin s.walked) None = subst (λ (w : List ℕ). BestAfter p No w None) (sym same) (subst (BestAfter p No (word_of s given)) free a.best_is) in
        skipped p h s.from s.origin (length h) a.from_origin s.walked (s.walked + count) s.sid held a.origin_walked (omega (arith, longer, a.walked_read, a.count)) (omega arith) (a.apart more)
        (λ v n. laws.start_apart (slice_range h s.origin s.walked) v s.sid n held_here is_start)
        (λ n o. begins_later more n o)
        (record { held_now = held_here; part = None; is = refl; part_best = none_here });
    once = λ standard. omega (arith, a.once standard);
    each = λ plain. cc;
    paid = a.paid;
    is_state = a.is_state;
    held_is = subst (λ (w : List ℕ). held No w s.sid) (sym (no_part given (s.walked + count))) (laws.start_again (word_of s given) s.sid a.held_is is_start);
    best_is = subst (λ (best : Option Occurrence). BestAfter p No (slice_range given (s.walked + count) (s.walked + count)) best) (sym free) (none_in_nothing p lengths laws.lengths_are a.no_empty _ (no_part given (s.walked + count)));
    in_hand_is = subst (λ (best : Option Occurrence). IsInHand p.kind (longest lengths) (record s { origin = s.walked + count; walked = s.walked + count; patience = patience }) best) (sym free) tt;
    clear = a.clear;
    stopped = λ e. cc;
  }
    where
      long : length (slice_range given s.walked s.read) ≡ s.read - s.walked
      long = length_part given s.walked s.read (omega (arith, a.count))

      begins_later : (more : List ℕ) (n : Occurrence) → Occurs p No (given ++ more) s.walked (length (given ++ more)) n → s.walked + count ≤ n.start
      begins_later more n o = elim (cases_lt n.start (s.walked + count)) [
        | inl early ↦
            (let h = given ++ more in
            let within : s.read ≤ length given = omega (arith, a.count) in
            let ends : n.end ≤ s.read = omega (arith, early, few, long, a.least, a.walked_read, occurs_short p lengths laws.lengths_are n o) in
            let same : slice_range h s.walked s.read ≡ slice_range given s.walked s.read = part_stays given more s.walked s.read a.walked_read within in
            let here = into_part p No h s.walked s.read n (narrowed p No h s.walked s.read (length h) n ends o) in
            let there : Occurs p No (slice_range given s.walked s.read) 0 (length (slice_range given s.walked s.read)) (moved_back s.walked n) =
            subst (λ (x : ℕ). Occurs p No (slice_range given s.walked s.read) 0 x (moved_back s.walked n)) (sym long) (subst (λ (w : List ℕ). Occurs p No w 0 (s.read - s.walked) (moved_back s.walked n)) same here) in
            omega (arith, none (moved_back s.walked n) there, o.after_start))
        | inr ge ↦ ge
      ]

  -- bytes were reported, up to a place that no further match starts before
  pub after_reported : (lookups : ℕ) (s : StreamProgress) (given : List ℕ) (end : ℕ) → After lookups s given → s.reported ≤ end → end ≤ s.walked
      → ((more : List ℕ) (m : Occurrence) → MayFollow s.ended more → IsAnswer p (search_from s.from (given ++ more)) (Some m) → end ≤ m.start)
      → After lookups (record s { told = s.reported; reported = end }) given
  after_reported lookups s given end a later within clear = record {
    no_empty = a.no_empty;
    sized = a.sized;
    start_is = a.start_is;
    start_shallow = a.start_shallow;
    start_held = a.start_held;
    count = a.count;
    limited = a.limited;
    bounded = a.bounded;
    least = a.least;
    size = a.size;
    enough = a.enough;
    last = a.last;
    kept = omega (arith, a.kept, a.told_reported);
    told_reported = later;
    from_reported = omega (arith, a.from_reported);
    from_origin = a.from_origin;
    origin_walked = a.origin_walked;
    reported_walked = within;
    walked_read = a.walked_read;
    position = a.position;
    apart = a.apart;
    once = a.once;
    each = a.each;
    paid = a.paid;
    is_state = a.is_state;
    held_is = a.held_is;
    best_is = a.best_is;
    in_hand_is = in_hand_same s (record s { told = s.reported; reported = end }) refl refl s.in_hand a.in_hand_is;
    clear = clear;
    stopped = a.stopped;
  }

  -- the match in hand was given
  pub after_given : (lookups : ℕ) (s : StreamProgress) (given : List ℕ) (m : Occurrence) → After lookups s given → lengths ≡ map length p.words → s.in_hand ≡ Some m
      → s.reported ≤ s.origin + m.start → s.refused ≡ false
      → After lookups (record s { told = s.origin + m.start; reported = s.origin + m.end; from = s.origin + m.end; origin = s.origin + m.end; walked = s.origin + m.end; sid = s.start; in_hand = None }) given
  after_given lookups s given m a are in_hand starts unrefused =
      let i = subst (IsInHand p.kind (longest lengths) s) in_hand a.in_hand_is in
      let some : m.start + 1 ≤ m.end = let best = subst (BestAfter p No (word_of s given)) in_hand a.best_is in occurs_some p lengths are m best.0 a.no_empty in
      record {
        no_empty = a.no_empty;
        sized = a.sized;
        start_is = a.start_is;
        start_shallow = a.start_shallow;
        start_held = a.start_held;
        count = a.count;
        limited = a.limited;
        bounded = a.bounded;
        least = a.least;
        size = a.size;
        enough = a.enough;
        last = a.last;
        kept = omega (arith, a.kept, a.told_reported, starts);
        told_reported = omega (arith, some);
        from_reported = omega arith;
        from_origin = omega arith;
        origin_walked = omega arith;
        reported_walked = omega arith;
        walked_read = omega (arith, i.0, a.walked_read);
        position = omega (arith, a.position, i.1, some, more_paid (longest lengths) s.from (s.origin + m.end) (omega (arith, some, a.from_origin)));
        apart = λ more n o. o.after_start;
        once = λ standard. omega (arith, a.once standard, i.0, i.2 standard);
        each = λ plain. omega (arith, a.each plain, i.0);
        paid = omega (arith, a.paid, a.start_shallow);
        is_state = a.start_is;
        held_is = subst (λ (w : List ℕ). held No w s.start) (sym (no_part given (s.origin + m.end))) a.start_held;
        best_is = none_in_nothing p lengths are a.no_empty _ (no_part given (s.origin + m.end));
        in_hand_is = tt;
        clear = λ more n follows answer. answer.0.after_start;
        stopped = λ e. cc;
      }

  -- the buffer was filled again, where no match is in hand and no more is unreported than it keeps
  pub after_refilled : (lookups : ℕ) (s s' : StreamProgress) (given : List ℕ) (before after : Option (List ℕ)) (refills : Refills s s' before after)
      → After lookups s given → (p.kind ≡ Standard → s.in_hand ≡ None) → s.walked ≡ s.read → s.told ≡ s.reported → s.read ≤ s.reported + s.buffer.least → s.ended ≡ false
      → (s'.refused ≡ true → (s.read ≡ s.limit) × (s'.ended ≡ false))
      → After lookups s' (given ++ refills.bytes)
  after_refilled lookups s s' given before after refills a free walked told near going refused =
      subst (λ (t : StreamProgress). After lookups t (given ++ refills.bytes)) (sym refills.others)
      (record {
        no_empty = a.no_empty;
        sized = a.sized;
        start_is = a.start_is;
        start_shallow = a.start_shallow;
        start_held = a.start_held;
        count = omega (arith, refills.count, a.count, length-append given refills.bytes);
        limited = refills.limited;
        bounded = a.bounded;
        least = refills.least ∙ a.least;
        size = refills.size ∙ a.size;
        enough = omega (arith, refills.kept, refills.least, refills.count, a.enough);
        last = refills.last given a.last;
        kept = omega (arith, refills.kept, refills.count, a.kept, near, told);
        told_reported = a.told_reported;
        from_reported = a.from_reported;
        from_origin = a.from_origin;
        origin_walked = a.origin_walked;
        reported_walked = a.reported_walked;
        walked_read = omega (arith, refills.count, a.walked_read);
        position = a.position;
        apart = λ more. subst (λ (bytes : List ℕ). NoneStartsBefore p bytes s.from (length bytes) s.origin) (sym (append_assoc given refills.bytes more)) (a.apart (refills.bytes ++ more));
        once = a.once;
        each = a.each;
        paid = a.paid;
        is_state = a.is_state;
        held_is = subst (λ (w : List ℕ). held No w s.sid) (sym same) a.held_is;
        best_is = subst (λ (w : List ℕ). BestAfter p No w s.in_hand) (sym same) a.best_is;
        in_hand_is = in_hand_same s (record s { buffer = s'.buffer; read = s'.read; ended = s'.ended; refused = s'.refused }) refl refl s.in_hand a.in_hand_is;
        clear = λ more m follows answer. a.clear (refills.bytes ++ more) m (subst (λ (b : Bool). MayFollow b (refills.bytes ++ more)) (sym going) tt)
            (subst (λ (bytes : List ℕ). IsAnswer p (search_from s.from bytes) (Some m)) (append_assoc given refills.bytes more) answer);
        stopped = λ e. (let r = refused e in (omega (arith, walked, r.0, refills.limited, refills.count), r.1, free));
      })
    where
      same : slice_range (given ++ refills.bytes) s.origin s.walked ≡ word_of s given
      same = part_stays given refills.bytes s.origin s.walked a.origin_walked (omega (arith, a.walked_read, a.count))
