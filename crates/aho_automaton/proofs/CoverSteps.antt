-- A cover of a haystack, from one byte to the next and from one run to the next.
use Rattle.std.proofs.Common.{◌≡◌, inl, inr, ℕ, zero, suc, ◌+◌, ◌-◌, ◌<◌, ◌≤◌, min, List, [], ◌∷◌, ◌++◌, get_or, length, map, refl, sym, ◌∙◌, ap, subst, arith, drop, append_assoc, length-append}
use Rattle.std.specs.Prelude.{◌⊎◌, ◌/◌, Some, None, nat_lt, slice_get, slice_index_or}
use Rattle.std.proofs.lemmas.Bool.{cond-true, lt-ltb}
use Rattle.std.proofs.lemmas.Option.{slice_get_past}
use Rattle.aho_core.specs.declared.search.Anchored.TheVariants.{No}
use Rattle.aho_core.specs.declared.search.MatchKind.TheVariants.{Standard}
use Rattle.aho_core.specs.Laws.{Reads, longest, shortest, told}
use Rattle.aho_core.specs.Listing.{IsMember}
use Rattle.aho_core.specs.Occurrence.{Occurrence}
use Rattle.aho_core.specs.Occurs.{Occurs}
use Rattle.aho_core.specs.Overlapping.{occurrences_ending}
use Rattle.aho_core.specs.Patterns.{Patterns}
use Rattle.aho_core.specs.Progress.{StandsAt}
use Rattle.aho_core.specs.Search.{plain_search}
use Rattle.aho_core.specs.Steps.{GoesOn}
use Rattle.aho_laws.specs.CoverLaws.{AreInOrder, joined_first, joined_runs, runs_upto}
use Rattle.aho_laws.proofs.CoverRuns.{member-of_joined}
use Rattle.aho_laws.proofs.Listed.{member-of_append}
use Rattle.aho_laws.proofs.Listings.{occurrences_ending-only}
use Rattle.aho_laws.proofs.SettledRuns.{AreSettled, few-joined, in_order-last, joined-behind, occurrence-near, settled-stay}
use Rattle.aho_laws.proofs.TextRuns.{upto-covers}
use Rattle.aho_automaton.specs.Covering.{FirstIsOpen, FirstIsSettled, runs_in}
use Rattle.aho_automaton.specs.CoverStanding.{CoversUpto}
use Rattle.aho_automaton.specs.Overlaps.{ended}
use Rattle.aho_automaton.specs.declared.automaton.Automaton.{Ghosts as Automata}
use Rattle.aho_automaton.proofs.Endings.{lists_here}
use Rattle.aho_automaton.proofs.PartWay.{stands_further}

-- an element behind a front
slice_get-behind : {X : Type 0} (front rest : List X) (x : X) → slice_get (front ++ x ∷ rest) (length front) ≡ Some x
slice_get-behind [] rest x = refl
slice_get-behind (y ∷ front) rest x = slice_get-behind front rest x

-- what a state tells is the first that it lists
told-first : (lengths list : List ℕ) (at : ℕ) → (map (ended lengths at) list ≡ []) × (told lengths No 0 at list ≡ None) ⊎ ((m : Occurrence) × (ms : List Occurrence) × (map (ended lengths at) list ≡ m ∷ ms) × (told lengths No 0 at list ≡ Some m))
told-first lengths [] at = inl (refl, refl)
told-first lengths (k ∷ ks) at = inr (ended lengths at k, map (ended lengths at) ks, refl, refl)

-- no pattern is shorter than the shortest
shortest-least : (words : List (List ℕ)) (number : ℕ) → number < length words → shortest (map length words) ≤ length (slice_index_or words number [])
shortest-least [] number below = absurd (omega arith)
shortest-least (word ∷ words) zero below = omega arith
shortest-least (word ∷ words) (suc number) below = omega (arith, shortest-least words number (omega arith))

module _ {A : Type 0} (automata : Automata A) (a : A) (haystack : List ℕ) (p : Patterns) (of : automata.is_of a p) (standard : automata.kind a ≡ Standard) (laws : Reads p (automata.kind a) (automata.lengths a) (automata.held a p) (automata.list a) (automata.dead a) (automata.starts a)) where
  abbrev far : ℕ
  far = longest (automata.lengths a)

  abbrev Upto : ℕ → ℕ → List Occurrence → ℕ → Type 0
  Upto = CoversUpto automata a haystack p

  -- what occurs is near
  near-far : (m : Occurrence) (start end : ℕ) → Occurs p No haystack start end m → m.end ≤ m.start + far
  near-far m start end h = subst (λ (lengths : List ℕ). m.end ≤ m.start + longest lengths) (sym laws.lengths_are) (occurrence-near p haystack m start end h)

  -- so what was given is settled
  given-settled : (given : List Occurrence) (at : ℕ) → (at ≡ length haystack) ⊎ ((x : Occurrence) → IsMember given x → x.end + far ≤ at) → AreSettled p haystack given at
  given-settled given at settled x there m occurs later =
      elim settled [
        | inl last ↦ absurd (omega (arith, occurs.before_end))
        | inr close ↦ omega (arith, close x there, near-far m 0 (length haystack) occurs)
      ]

  -- the runs in hand are in order
  pub hand-in_order : (sid at n : ℕ) (hand : List Occurrence) → Upto sid at hand n → AreInOrder hand at
  hand-in_order sid at n hand c = in_order-last c.given hand at (subst (λ (runs : List Occurrence). AreInOrder runs at) c.runs (upto-covers p haystack at c.stands.in_span).ordered)

  module _ (sid at n next : ℕ) (hand : List Occurrence) (c : Upto sid at hand n) (further : at < length haystack) (stands : StandsAt (automata.valid a) (automata.held a p) p (plain_search haystack) next (at + 1))
      (apart : (x : Occurrence) → IsMember hand x → at < x.end + far) where
    list_here : map (ended (automata.lengths a) (at + 1)) (automata.list a next) ≡ occurrences_ending p haystack 0 (at + 1)
    list_here = lists_here laws standard (automata.valid a) (plain_search haystack) next (at + 1) (omega arith) stands

    place : at + 1 ≡ suc at
    place = omega arith

    step : (list : List Occurrence) → map (ended (automata.lengths a) (at + 1)) (automata.list a next) ≡ list → runs_upto p haystack (at + 1) ≡ joined_first (c.given ++ hand) list
    step list is =
        ap (runs_upto p haystack) place
        ∙ ap (λ (runs : List Occurrence). joined_first runs (occurrences_ending p haystack 0 (suc at))) c.runs
        ∙ ap (joined_first (c.given ++ hand)) (ap (occurrences_ending p haystack 0) (sym place) ∙ sym list_here ∙ is)

    close : (x : Occurrence) → IsMember c.given x → x.end + far ≤ at
    close = elim c.settled [ inl last ↦ λ x there. absurd (omega arith) | inr h ↦ h ]

    -- one byte further, where nothing is told
    pub upto-none : told (automata.lengths a) No 0 (at + 1) (automata.list a next) ≡ None → Upto next (at + 1) hand n
    upto-none nothing =
        elim (told-first (automata.lengths a) (automata.list a next) (at + 1)) [
          | inr some ↦ (let e : Some some.0 ≡ None = sym some.3 ∙ nothing in cc)
          | inl none ↦ record {
            stands = stands;
            given = c.given;
            counted = c.counted;
            runs = step [] none.0;
            settled = inr (λ x there. omega (arith, close x there));
            near = λ x there. omega (arith, apart x there);
          }
        ]

    -- what is told occurs, and ends there
    told-occurs : (m : Occurrence) → told (automata.lengths a) No 0 (at + 1) (automata.list a next) ≡ Some m → (ms : List Occurrence) × (map (ended (automata.lengths a) (at + 1)) (automata.list a next) ≡ m ∷ ms) × Occurs p No haystack 0 (at + 1) m × (m.end ≡ at + 1)
    told-occurs m is =
        elim (told-first (automata.lengths a) (automata.list a next) (at + 1)) [
          | inl none ↦ (let e : Some m ≡ None = sym is ∙ none.1 in cc)
          | inr some ↦
              (let e : Some some.0 ≡ Some m = sym some.3 ∙ is in
              let same : some.0 ≡ m = cc in
              let list : map (ended (automata.lengths a) (at + 1)) (automata.list a next) ≡ m ∷ some.1 = some.2 ∙ ap (λ (x : Occurrence). x ∷ some.1) same in
              let there : IsMember (occurrences_ending p haystack 0 (at + 1)) m = subst (λ (xs : List Occurrence). IsMember xs m) (sym list ∙ list_here) (inl refl) in
              let found = occurrences_ending-only p haystack 0 (at + 1) m (omega arith) there in
              (some.1, list, found.0, found.1))
        ]

    -- one byte further, where a match is told
    pub upto-some : (m : Occurrence) → told (automata.lengths a) No 0 (at + 1) (automata.list a next) ≡ Some m → m.start < m.end → Upto next (at + 1) (joined_runs hand m) n
    upto-some m is some =
        let found = told-occurs m is in
        record {
          stands = stands;
          given = c.given;
          counted = c.counted;
          runs = step (m ∷ found.0) found.1
              ∙ cond-true (nat_lt m.start m.end) (joined_runs (c.given ++ hand) m) (c.given ++ hand) (lt-ltb m.start m.end some)
              ∙ joined-behind c.given hand m (λ x there. omega (arith, close x there, near-far m 0 (at + 1) found.2, found.3));
          settled = inr (λ x there. omega (arith, close x there));
          near = λ x there. elim (member-of_joined hand m x there) [ inl kept ↦ omega (arith, apart x kept.0) | inr last ↦ omega (arith, last.0, found.3) ];
        }

    -- a match that is told ends there, and is not empty
    pub told-full : 1 ≤ shortest (automata.lengths a) → (m : Occurrence) → told (automata.lengths a) No 0 (at + 1) (automata.list a next) ≡ Some m → (m.start < m.end) × (m.end ≡ at + 1)
    told-full full m is =
        let found = told-occurs m is in
        let least : 1 ≤ shortest (map length p.words) = subst (λ (lengths : List ℕ). 1 ≤ shortest lengths) laws.lengths_are full in
        (omega (arith, found.2.sized, least, shortest-least p.words m.pattern found.2.numbered), found.3)

    -- and there is room for it
    pub told-room : (m : Occurrence) → m.start < m.end → m.end ≡ at + 1 → length (joined_runs hand m) ≤ far / 2 + 1
    told-room m some ends =
        omega (arith, few-joined hand (at + 1 - far) at m (hand-in_order sid at n hand c) (λ x there. omega (arith, apart x there)) (omega arith) some)

  -- the given runs are the first of all
  pub all-given : (sid at n : ℕ) (hand : List Occurrence) (c : Upto sid at hand n) → (later : List Occurrence) × (runs_in p haystack ≡ c.given ++ later)
  all-given sid at n hand c =
      let within = c.stands.in_span in
      let place : at + (length haystack - at) ≡ length haystack = omega arith in
      let rest = settled-stay p haystack (length haystack - at) c.given hand at c.runs (given-settled c.given at c.settled) (omega arith) in
      (rest.0, ap (runs_upto p haystack) (sym place) ∙ rest.1)

  -- the first run in hand is given, once nothing can touch it
  pub upto-pop : (sid at n : ℕ) (x : Occurrence) (hand : List Occurrence) → Upto sid at (x ∷ hand) n → (at ≡ length haystack) ⊎ (x.end + far ≤ at)
      → (Some x ≡ slice_get (runs_in p haystack) n) × Upto sid at hand (min (n + 1) (length (runs_in p haystack)))
  upto-pop sid at n x hand c ready =
      let given = c.given ++ x ∷ [] in
      let more : length given ≡ n + 1 = omega (arith, length-append c.given (x ∷ []), c.counted) in
      let settled : (at ≡ length haystack) ⊎ ((y : Occurrence) → IsMember given y → y.end + far ≤ at) =
      elim ready [
        | inl last ↦ inl last
        | inr close ↦
            elim c.settled [
              | inl last ↦ inl last
              | inr each ↦ inr (λ y there. elim (member-of_append c.given (x ∷ []) y there) [
                | inl before ↦ each y before
                | inr here ↦ elim here [ inl e ↦ omega (arith, close, ap (λ (o : Occurrence). o.end) e) | inr none ↦ absurd none ]
              ])
            ]
      ] in
      let d : Upto sid at hand (n + 1) =
      record { stands = c.stands; given = given; counted = more; runs = c.runs ∙ sym (append_assoc c.given (x ∷ []) hand); settled = settled; near = λ y there. c.near y (inr there) } in
      let all = all-given sid at (n + 1) hand d in
      let whole : runs_in p haystack ≡ c.given ++ x ∷ all.0 = all.1 ∙ append_assoc c.given (x ∷ []) all.0 in
      let long : min (n + 1) (length (runs_in p haystack)) ≡ n + 1 = omega (arith, ap length all.1, length-append given all.0, more) in (
        sym (ap (λ (runs : List Occurrence). slice_get runs n) whole ∙ ap (slice_get (c.given ++ x ∷ all.0)) (sym c.counted) ∙ slice_get-behind c.given all.0 x),
        subst (Upto sid at hand) (sym long) d,
      )

  -- at the end, with none in hand, all were given
  pub upto-spent : (sid at n : ℕ) → Upto sid at [] n → at ≡ length haystack → (None ≡ slice_get (runs_in p haystack) n) × Upto sid at [] (min (n + 1) (length (runs_in p haystack)))
  upto-spent sid at n c last =
      let whole : runs_in p haystack ≡ c.given ++ [] = ap (runs_upto p haystack) (sym last) ∙ c.runs in
      let long : length (runs_in p haystack) ≡ n = omega (arith, ap length whole, length-append c.given [], c.counted) in
      let same : min (n + 1) (length (runs_in p haystack)) ≡ n = omega arith in
      (sym (slice_get_past (runs_in p haystack) n (omega arith)), subst (Upto sid at []) (sym same) c)

  -- where the first run in hand is open, all are
  all-open : (at : ℕ) (hand : List Occurrence) → AreInOrder hand at → FirstIsOpen far at hand → (x : Occurrence) → IsMember hand x → at < x.end + far
  all-open at [] ordered first x there = absurd there
  all-open at (run ∷ hand) ordered first x there =
      elim there [
        | inl e ↦ omega (arith, first run hand refl, ap (λ (o : Occurrence). o.end) e)
        | inr later ↦ omega (arith, first run hand refl, ordered.in_order.0 x later, ordered.full x (inr later))
      ]

  module _ (sid at n next : ℕ) (hand : List Occurrence) (c : Upto sid at hand n) (further : at < length haystack) (is_state : automata.valid a next) (goes_on : GoesOn (automata.held a p No) sid (get_or haystack at 0) next)
      (first : FirstIsOpen far at hand) where
    pub read-stands : StandsAt (automata.valid a) (automata.held a p) p (plain_search haystack) next (at + 1)
    read-stands = stands_further (automata.valid a) (automata.held a p) p (plain_search haystack) sid at next further (omega arith) is_state goes_on c.stands

    read-apart : (x : Occurrence) → IsMember hand x → at < x.end + far
    read-apart = all-open at hand (hand-in_order sid at n hand c) first

    pub read-none : told (automata.lengths a) No 0 (at + 1) (automata.list a next) ≡ None → Upto next (at + 1) hand n
    read-none = upto-none sid at n next hand c further read-stands read-apart

    pub read-some : 1 ≤ shortest (automata.lengths a) → (m : Occurrence) → told (automata.lengths a) No 0 (at + 1) (automata.list a next) ≡ Some m → Upto next (at + 1) (joined_runs hand m) n
    read-some full m is = upto-some sid at n next hand c further read-stands read-apart m is (told-full sid at n next hand c further read-stands read-apart full m is).0

    -- what adding the match takes
    pub read-adds : 1 ≤ shortest (automata.lengths a) → (m : Occurrence) → told (automata.lengths a) No 0 (at + 1) (automata.list a next) ≡ Some m
        → AreInOrder hand m.end × (m.start < m.end) × (length (joined_runs hand m) ≤ far / 2 + 1)
    read-adds full m is =
        let ends = told-full sid at n next hand c further read-stands read-apart full m is in
        let ordered = hand-in_order sid at n hand c in (
          record { in_order = ordered.in_order; full = ordered.full; within = λ x there. omega (arith, ordered.within x there, ends.1) },
          ends.0,
          told-room sid at n next hand c further read-stands read-apart m ends.0 ends.1,
        )

  -- the next run, once the first in hand is settled or nothing is left to read
  pub upto-next : (sid at n : ℕ) (hand : List Occurrence) → Upto sid at hand n → (at ≡ length haystack) ⊎ FirstIsSettled far at hand
      → (slice_get hand 0 ≡ slice_get (runs_in p haystack) n) × Upto sid at (drop 1 hand) (min (n + 1) (length (runs_in p haystack)))
  upto-next sid at n [] c ready = upto-spent sid at n c (elim ready [ inl last ↦ last | inr first ↦ (let e = first.first in cc) ])
  upto-next sid at n (run ∷ hand) c ready =
      upto-pop sid at n run hand c (elim ready [
        | inl last ↦ inl last
        | inr first ↦ (let e = first.first in let same : run ≡ first.run = cc in inr (omega (arith, ap (λ (o : Occurrence). o.end) same, first.settled)))
      ])
