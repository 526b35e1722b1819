-- Bytes that are passed over: the state is a start, and nothing that occurs begins there.
use Rattle.std.proofs.Common.{◌≡◌, ℕ, ◌+◌, ◌-◌, ◌<◌, ◌≤◌, inl, inr, Bool, true, false, List, [], length, map, sym, ◌∙◌, ap, subst, arith}
use Rattle.std.specs.Prelude.{Option, Some, None, if◌then◌else◌, slice_range}
use Rattle.std.proofs.lemmas.Bool.{cases_lt}
use Rattle.aho_core.specs.Laws.{Reads, shortest}
use Rattle.aho_core.specs.Occurs.{Occurs}
use Rattle.aho_core.specs.Overlapping.{occurrences_ending}
use Rattle.aho_core.specs.Patterns.{Patterns}
use Rattle.aho_core.specs.declared.search.Anchored.TheVariants.{No}
use Rattle.aho_prefilter.specs.Candidate.{NoneStartsBefore}
use Rattle.aho_prefilter.specs.declared.prefilter.Searcher.{Searcher}
use Rattle.aho_automaton.specs.declared.automaton.Automaton.{Ghosts as Automata}
use Rattle.aho_automaton.proofs.Endings.{nothing_ends}
use Rattle.aho_automaton.proofs.Places.{into_part, length_part, moved_back, no_part}
use Rattle.aho_stream.specs.After.{kept_for}
use Rattle.aho_stream.proofs.PatternLengths.{occurs_short, occurs_some}
use Rattle.aho_cover.specs.declared.progress.CoverProgress.{CoverProgress}
use Rattle.aho_cover.specs.Counting.{Output}
use Rattle.aho_cover.specs.Steps.{CoversOn}
use Rattle.aho_cover.specs.Pieces.{PieceRule}
use Rattle.aho_cover.specs.Walks.{NoneReaches, StandsIn}
use Rattle.aho_cover.specs.Words.{ending_with}
use Rattle.aho_cover.proofs.Chosen.{counted-none, kept-enough}
use Rattle.aho_cover.proofs.Covered.{still-runs}
use Rattle.aho_cover.proofs.Further.{clear-start}

-- a prefilter for streams is the one that is held, where streams skip
pub own-held : (skips : Bool) (held : Option Searcher) (searcher : Searcher) → Some searcher ≡ (if skips then held else None) → held ≡ Some searcher
own-held true held searcher same = sym same
own-held false held searcher same = cc

module _ {A : Type 0} (G : Automata A) (a : A) (p : Patterns) (haystack : List ℕ) (laws : Reads p (G.kind a) (G.lengths a) (G.held a p) (G.list a) (G.dead a) (G.starts a)) (no_empty : 1 ≤ shortest (G.lengths a))
    (rule : PieceRule) (s : CoverProgress) (at count : ℕ) (written : Output) (covers : CoversOn G a rule s at p haystack written) (start : G.starts a s.sid ≡ true)
    (end : ℕ) (ends : end ≤ s.read) (on : at ≤ end)
    (none : NoneStartsBefore p (slice_range haystack at end) 0 (length (slice_range haystack at end)) count) (few : count ≤ length (slice_range haystack at end) - s.buffer.least) where
  read_within : s.read ≤ length haystack
  read_within = covers.covered.given.within

  long : length (slice_range haystack at end) ≡ end - at
  long = length_part haystack at end (omega (arith, ends, read_within))

  least : kept_for (G.lengths a) ≤ s.buffer.least
  least = omega (arith, covers.covered.far, (kept-enough s.words (map length p.words)).1, ap kept_for laws.lengths_are)

  passed_within : at + count ≤ end
  passed_within = omega (arith, few, long, on)

  -- what ends later begins behind the bytes
  begins_later : NoneReaches p haystack at (at + count)
  begins_later m occurs ends = elim (cases_lt m.start (at + count)) [
    | inl early ↦
        (let late : at ≤ m.start = clear-start G a p haystack laws at s.sid covers.is_held start m occurs ends in
        let near : m.end ≤ end = omega (arith, early, late, few, long, least, on, occurs_short p (G.lengths a) laws.lengths_are m occurs) in
        let here : Occurs p No haystack at end m = record { numbered = occurs.numbered; after_start = late; before_end = near; sized = occurs.sized; same = occurs.same; admitted = λ e. cc } in
        let there = subst (λ (x : ℕ). Occurs p No (slice_range haystack at end) 0 x (moved_back at m)) (sym long) (into_part p No haystack at end m here) in
        omega (arith, none (moved_back at m) there, late))
    | inr ge ↦ ge
  ]

  -- so nothing ends in them
  none_ends : (k : ℕ) → at < k → k ≤ at + count → ending_with s.words p haystack k ≡ []
  none_ends k low high =
      counted-none s.words haystack (occurrences_ending p haystack 0 k)
      (nothing_ends p haystack 0 k (length haystack) (omega (arith, high, passed_within, ends, read_within)) (omega (arith, high, passed_within, ends, read_within))
      (λ m occurs ends. omega (arith, ends, low, high, begins_later m occurs (omega (arith, ends, low)), occurs_some p (G.lengths a) laws.lengths_are m occurs no_empty)))

  -- and the start may as well be held behind them
  stands_behind : 0 < count → StandsIn G a p haystack s.sid (at + count)
  stands_behind some = record {
    origin = at + count;
    after_start = omega arith;
    before_place = omega arith;
    in_span = omega (arith, passed_within, ends, read_within);
    from_start = λ e. cc;
    apart = λ m occurs early. elim (cases_lt at m.end) [
      | inl later ↦ absurd (omega (arith, early, begins_later m occurs later))
      | inr before ↦ omega (arith, before, some)
    ];
    is_state = tt;
    is_held = subst (λ (w : List ℕ). G.held a p No w s.sid) (sym (no_part haystack (at + count))) (laws.start_again (slice_range haystack covers.is_held.origin at) s.sid covers.is_held.is_held start);
  }

  stands_there : StandsIn G a p haystack s.sid (at + count)
  stands_there = elim (cases_lt 0 count) [
    | inl some ↦ stands_behind some
    | inr few ↦ (let place : at ≡ at + count = omega (arith, few) in subst (λ (k : ℕ). StandsIn G a p haystack s.sid k) place covers.is_held)
  ]

  pub passed-over : CoversOn G a rule (record s { since = at + count }) (at + count) p haystack written
  passed-over =
      let has = covers.covered in
      record {
        of = covers.of;
        is_held = stands_there;
        covered = record {
          given = record { within = has.given.within; last = has.given.last; whole = has.given.whole };
          walked_within = omega (arith, passed_within, ends);
          far = has.far;
          since_clear = λ m occurs later. begins_later m occurs (omega (arith, later));
          runs = still-runs p haystack count at s.words none_ends ∙ has.runs;
          settled = λ x there m occurs later. has.settled x there m occurs (omega (arith, later));
          before = has.before;
          clear = λ m occurs later. has.clear m occurs (omega (arith, later));
          fed_clear = λ m occurs later. has.fed_clear m occurs (omega (arith, later));
          written_is = has.written_is;
        };
      }
