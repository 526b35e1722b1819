-- What the walk over further bytes of a stream makes of its cover.
use Rattle.std.proofs.Common.{◌≡◌, inl, inr, ℕ, zero, suc, ◌+◌, ◌-◌, ◌<◌, ◌≤◌, max, Bool, List, [], ◌∷◌, length, map, refl, sym, ◌∙◌, ap, subst, arith}
use Rattle.std.specs.Prelude.{Option, Some, None, slice_index_or, slice_range}
use Rattle.aho_core.specs.declared.search.Anchored.TheVariants.{No}
use Rattle.aho_core.specs.declared.search.MatchKind.TheVariants.{Standard}
use Rattle.std.proofs.lemmas.Bool.{cases_lt}
use Rattle.aho_core.specs.Laws.{Reads, shortest}
use Rattle.aho_core.specs.Listing.{IsMember}
use Rattle.aho_core.specs.Occurrence.{Occurrence}
use Rattle.aho_core.specs.Occurs.{Occurs}
use Rattle.aho_core.specs.Overlapping.{occurrences_ending}
use Rattle.aho_core.specs.Patterns.{Patterns}
use Rattle.aho_core.specs.Search.{plain_search}
use Rattle.aho_laws.proofs.Listings.{occurrences_ending-only}
use Rattle.aho_automaton.specs.Overlaps.{ended}
use Rattle.aho_automaton.specs.declared.automaton.Automaton.{Ghosts as Automata}
use Rattle.aho_automaton.proofs.Endings.{lists_here}
use Rattle.aho_automaton.proofs.Places.{length_part}
use Rattle.aho_cover.specs.declared.progress.CoverProgress.{CoverProgress}
use Rattle.aho_cover.specs.declared.walk.Reached.{Reached}
use Rattle.aho_cover.specs.Counting.{Output}
use Rattle.aho_cover.specs.Progress.{EndsNext, HasCovered, IsSoundCover, open_place}
use Rattle.aho_cover.specs.Steps.{CoversOn}
use Rattle.aho_cover.specs.Pieces.{PieceRule}
use Rattle.aho_cover.specs.Walks.{LiesAhead, Reaches, StandsIn, told_before, walked_before}
use Rattle.aho_cover.specs.Words.{ending_with, first_listed}
use Rattle.aho_cover.proofs.Chosen.{counted-member, counted-none, none-listed, some-listed}
use Rattle.aho_cover.proofs.Covered.{has-open, still-runs}
use Rattle.aho_cover.proofs.Sound.{order-later}

-- no pattern is shorter than the shortest
shortest-least : (words : List (List ℕ)) (number : ℕ) → number < length words → shortest (map length words) ≤ length (slice_index_or words number [])
shortest-least [] number below = absurd (omega arith)
shortest-least (word ∷ words) zero below = omega arith
shortest-least (word ∷ words) (suc number) below = omega (arith, shortest-least words number (omega arith))

-- the bytes that were read and not walked
pub lies-ahead : {A : Type 0} (G : Automata A) (a : A) (rule : PieceRule) (s : CoverProgress) (at end : ℕ) (bytes : List ℕ) (p : Patterns) (haystack : List ℕ) (written : Output) → CoversOn G a rule s at p haystack written
    → bytes ≡ slice_range haystack at end → at ≤ end → end ≤ s.read → LiesAhead G a at s.sid bytes p haystack
lies-ahead G a rule s at end bytes p haystack written covers are within read =
    let long : length bytes ≡ end - at = ap length are ∙ length_part haystack at end (omega (arith, read, covers.covered.given.within)) in
    let place : end ≡ at + length bytes = omega (arith, long, within) in
    record {
      of = covers.of;
      within = omega (arith, place, read, covers.covered.given.within);
      bytes_are = are ∙ ap (slice_range haystack at) place;
      stands = covers.is_held;
    }

-- the numbers, once more bytes were walked
pub sound-moved : (s : CoverProgress) (at at' sid since : ℕ) → IsSoundCover s at → at ≤ at' → at' ≤ s.read → since ≤ at' → IsSoundCover (record s { sid = sid; since = since }) at'
sound-moved s at at' sid since sound le within start = record {
  small = sound.small;
  walked = within;
  some = sound.some;
  held = sound.held;
  unwalked = omega (arith, sound.unwalked);
  last_held = omega (arith, sound.last_held);
  since_walked = start;
  copied_walked = omega (arith, sound.copied_walked);
  in_order = order-later _ at at' le sound.in_order;
  behind = sound.behind;
  kept = sound.kept;
  fed_walked = omega (arith, sound.fed_walked);
  fed_first = sound.fed_first;
  fed_within = sound.fed_within;
  fed_held = sound.fed_held;
  whole = sound.whole;
  room = sound.room;
}

-- all but one of the bytes were walked before a match was told
told-counted : (reached : Reached) → reached.count - 1 ≤ told_before reached
told-counted reached = by_found reached.found
  where
    by_found : (found : Option Occurrence) → reached.count - 1 ≤ walked_before found reached.count
    by_found None = omega arith
    by_found (Some m) = omega arith

module _ {A : Type 0} (G : Automata A) (a : A) (p : Patterns) (standard : G.kind a ≡ Standard) (laws : Reads p (G.kind a) (G.lengths a) (G.held a p) (G.list a) (G.dead a) (G.starts a)) (haystack : List ℕ) where
  -- a state lists what ends where it is held
  pub listed-here : (at sid : ℕ) → StandsIn G a p haystack sid at → map (ended (G.lengths a) at) (G.list a sid) ≡ occurrences_ending p haystack 0 at
  listed-here at sid stands = lists_here laws standard (λ n. Unit {0}) (plain_search haystack) sid at (omega arith) stands

  -- the first of what counts ends there, is not empty, and occurs
  pub counted-some : (words : Bool) (at : ℕ) (m : Occurrence) → at ≤ length haystack → first_listed (ending_with words p haystack at) ≡ Some m → 1 ≤ shortest (G.lengths a)
      → ((others : List Occurrence) × (ending_with words p haystack at ≡ m ∷ others)) × (m.end ≡ at) × (m.start < m.end) × Occurs p No haystack 0 (length haystack) m
  counted-some words at m within first full =
      let listed = some-listed (ending_with words p haystack at) m first in
      let there : IsMember (occurrences_ending p haystack 0 at) m = counted-member words haystack (occurrences_ending p haystack 0 at) m (subst (λ (list : List Occurrence). IsMember list m) (sym listed.1) (inl refl)) in
      let found = occurrences_ending-only p haystack 0 at m within there in
      let least : 1 ≤ shortest (map length p.words) = subst (λ (lengths : List ℕ). 1 ≤ shortest lengths) laws.lengths_are full in (
        listed,
        found.1,
        omega (arith, found.0.sized, least, shortest-least p.words m.pattern found.0.numbered),
        record { numbered = found.0.numbered; after_start = found.0.after_start; before_end = omega (arith, found.0.before_end); sized = found.0.sized; same = found.0.same; admitted = λ e. cc },
      )

  module _ (rule : PieceRule) (s : CoverProgress) (at : ℕ) (written : Output) (covers : CoversOn G a rule s at p haystack written) (reached : Reached)
      (within : at + reached.count ≤ s.read) (reaches : Reaches G a p haystack at reached) where
    read_within : s.read ≤ length haystack
    read_within = covers.covered.given.within

    -- what counts and ends where the walk ended
    abbrev Last : List Occurrence
    Last = ending_with s.words p haystack (at + reached.count)

    -- nothing ends before
    none_ends : (k : ℕ) → at < k → k ≤ at + (reached.count - 1) → ending_with s.words p haystack k ≡ []
    none_ends k low high =
        let (sid, stands, nothing) = reaches.plain k low (omega (arith, high, told-counted reached)) in
        counted-none s.words haystack (occurrences_ending p haystack 0 k) (sym (listed-here k sid stands) ∙ ap (map (ended (G.lengths a) k)) nothing)

    none_last : first_listed Last ≡ None → (k : ℕ) → at < k → k ≤ at + reached.count → ending_with s.words p haystack k ≡ []
    none_last none k low high = elim (cases_lt k (at + reached.count)) [
      | inl before ↦ none_ends k low (omega (arith, before))
      | inr last ↦ (let place : at + reached.count ≡ k = omega (arith, last, high) in subst (λ (n : ℕ). ending_with s.words p haystack n ≡ []) place (none-listed Last none))
    ]

    -- so the cover has come as far as nothing ends that counts
    has-moved : (count : ℕ) → count ≤ reached.count → ((k : ℕ) → at < k → k ≤ at + count → ending_with s.words p haystack k ≡ []) → HasCovered rule (record s { sid = reached.sid }) (at + count) p haystack written
    has-moved count few none =
        let has = covers.covered in
        record {
          given = record { within = has.given.within; last = has.given.last; whole = has.given.whole };
          walked_within = omega (arith, few, within);
          far = has.far;
          since_clear = λ m occurs later. has.since_clear m occurs (omega arith);
          runs = still-runs p haystack count at s.words none ∙ has.runs;
          settled = λ x there m occurs later. has.settled x there m occurs (omega arith);
          before = has.before;
          clear = λ m occurs later. has.clear m occurs (omega arith);
          fed_clear = λ m occurs later. has.fed_clear m occurs (omega arith);
          written_is = has.written_is;
        }

    -- where nothing counts, the cover has come as far as the walk
    pub moved-all : first_listed Last ≡ None → CoversOn G a rule (record s { sid = reached.sid }) (at + reached.count) p haystack written
    moved-all none = record { of = covers.of; is_held = reaches.stands; covered = has-moved reached.count (omega arith) (none_last none) }

    module _ (m : Occurrence) (some : first_listed Last ≡ Some m) (full : 1 ≤ shortest (G.lengths a)) (further : 0 < reached.count) where
      last_found : ((others : List Occurrence) × (Last ≡ m ∷ others)) × (m.end ≡ at + reached.count) × (m.start < m.end) × Occurs p No haystack 0 (length haystack) m
      last_found = counted-some s.words (at + reached.count) m (omega (arith, within, read_within)) some full

      pub moved-end : m.end ≡ at + reached.count
      moved-end = last_found.1

      -- all but the last byte of the match was walked
      pub moved-before : HasCovered rule (record s { sid = reached.sid }) (m.end - 1) p haystack written
      moved-before =
          let place : at + (reached.count - 1) ≡ m.end - 1 = omega (arith, moved-end, further) in
          subst (λ (n : ℕ). HasCovered rule (record s { sid = reached.sid }) n p haystack written) place (has-moved (reached.count - 1) (omega arith) none_ends)

      -- it is the longest that counts and ends there
      pub moved-found : ((others : List Occurrence) × (ending_with s.words p haystack m.end ≡ m ∷ others)) × (m.start < m.end) × Occurs p No haystack 0 (length haystack) m
      moved-found =
          (subst (λ (k : ℕ). (others : List Occurrence) × (ending_with s.words p haystack k ≡ m ∷ others)) (sym moved-end) last_found.0, last_found.2, last_found.3)

      -- so it begins behind all that is settled
      pub moved-behind : max s.copied (open_place (record s { sid = reached.sid }) (m.end - 1)) ≤ m.start
      moved-behind =
          let later : m.end - 1 < m.end = omega (arith, moved-found.1) in
          omega (arith, moved-before.clear m moved-found.2 later, has-open p haystack rule (record s { sid = reached.sid }) (m.end - 1) written moved-before m moved-found.2 later)

      -- and behind what was fed
      pub moved-unfed : s.fed ≤ m.start
      moved-unfed = (let later : m.end - 1 < m.end = omega (arith, moved-found.1) in moved-before.fed_clear m moved-found.2 later)

      pub moved-next : EndsNext rule (record s { sid = reached.sid }) m p haystack written × (G.is_of a p × StandsIn G a p haystack reached.sid m.end)
      moved-next = ((moved-before, moved-found.0), (covers.of, subst (λ (k : ℕ). StandsIn G a p haystack reached.sid k) (sym moved-end) reaches.stands))
