-- What the states of a block tell, and what is written for it.
use Rattle.std.proofs.Common.{◌≡◌, ◌⊎◌, inl, inr, ℕ, ◌+◌, ◌-◌, ◌<◌, ◌≤◌, Bool, true, false, nat_lt, if◌then◌else◌, List, [], ◌∷◌, ◌++◌, length, drop, reverse, take, Option, Some, None, refl, sym, ◌∙◌, ap, subst, arith, append_assoc, append-nil}
use Rattle.std.specs.Prelude.{slice_index, slice_range}
use Rattle.std.specs.Io.{StartsWith}
use Rattle.std.specs.Io.KnownBytes.{Appends}
use Rattle.std.proofs.KnownBytes.{Appends-nil, Appends-trans}
use Rattle.std.proofs.lemmas.Bool.{le-ltb, lt-ltb}
use Rattle.std.proofs.lemmas.List.{drop_all, take-append-drop, take_all, take_at}
use Rattle.std.proofs.lemmas.List.Folds.{drop_split}
use Rattle.aho_core.specs.declared.search.Anchored.TheVariants.{No, Yes}
use Rattle.aho_core.specs.Best.{IsBest, IsBestOrNone}
use Rattle.aho_core.specs.Failure.{is_leftmost}
use Rattle.aho_core.specs.Iteration.{AreFinds}
use Rattle.aho_core.specs.Laws.{Reads, longest}
use Rattle.aho_core.specs.Occurrence.{Occurrence, occurrence}
use Rattle.aho_core.specs.Occurs.{Occurs}
use Rattle.aho_core.specs.Patterns.{Patterns}
use Rattle.aho_core.specs.Replacement.{replaced, replaced_from}
use Rattle.aho_laws.specs.CutLaws.{NoneIsEmpty, span_search}
use Rattle.aho_laws.proofs.ClearCuts.{Occurs-full, Occurs-in, best-find, find-best}
use Rattle.aho_automaton.specs.declared.automaton.Automaton.{Ghosts as Automata}
use Rattle.aho_automaton.proofs.NextFinds.{finds-next, finds-none}
use Rattle.aho_automaton.proofs.Places.{no_part, part_join, part_of_part}
use Rattle.aho_devices.specs.Counts.{AppendsBeginning}
use Rattle.aho_devices.specs.declared.device.Sink.{Ghosts as SinkGhosts}
use Rattle.aho_stream.specs.Replacing.{piece_for, replaced_up_to}
use Rattle.aho_backward.specs.Backward.{IsTurnedFrom, TellsAt, told_back}
use Rattle.aho_backward.specs.Streams.{AreHeldAt, IsBlockOf, StandsBefore, WritesMore, WritesSome}
use Rattle.aho_backward.specs.Turned.{turned}
use Rattle.aho_backward.proofs.BlockStates.{part-rest}
use Rattle.aho_backward.proofs.Passing.{begins-cases, starts-before, unanchored}
use Rattle.aho_backward.proofs.Telling.{tells}

-- the state that is kept at a place of a block tells what begins there in each text whose block it is
pub block-tells-at : {A : Type 0} (G : Automata A) (a : A) (given bytes states : List ℕ) (behind : ℕ) (p : Patterns) (text : List ℕ) (first place : ℕ)
    → Reads (turned p given) (G.kind a) (G.lengths a) (G.held a (turned p given)) (G.list a) (G.dead a) (G.starts a)
    → AreHeldAt G a bytes states → IsBlockOf G a given bytes behind p text first → place + behind < length bytes → TellsAt G a given p text (first + place) (slice_index states place)
block-tells-at G a given bytes states behind p text first place laws held block before =
    let seen = first + length bytes in
    let sid = slice_index states place in
    let from = block.turned_from in
    let here : first + place - first ≡ place = omega arith in
    let rest : drop place bytes ≡ slice_range text (first + place) seen =
    ap (drop place) (sym block.part) ∙ ap (λ (k : ℕ). drop k (slice_range text first seen)) (sym here) ∙ part-rest text first (first + place) seen (omega arith) (omega arith) in
    let far : (seen ≡ length text) ⊎ (first + place + longest (G.lengths a) ≤ seen) = elim block.far [ inl last ↦ inl last | inr short ↦ inr (omega arith) ] in
    let inside : place < length bytes = omega arith in
    tells G a given p from laws text (first + place) seen (omega arith) block.within far sid (held.valid place inside)
    (subst (λ (w : List ℕ). G.held a (turned p given) No (reverse w) sid) rest (held.held (turned p given) from.of place inside))

-- the bytes as a text of their own
pub block-itself : {A : Type 0} (G : Automata A) (a : A) (given bytes : List ℕ) (behind : ℕ) (p : Patterns) → IsTurnedFrom G a given p → IsBlockOf G a given bytes behind p bytes 0
block-itself G a given bytes behind p from = record {
  turned_from = from;
  within = omega arith;
  part = let all : 0 + length bytes - 0 ≡ length bytes = omega arith in ap (λ (k : ℕ). take k bytes) all ∙ take_all (length bytes) bytes (omega arith);
  far = inl (omega arith);
}

-- further on in a text, so is what a list tells
pub told-moved : (given lengths list : List ℕ) (first place : ℕ) (m : Occurrence) → Some m ≡ told_back given lengths place list
    → told_back given lengths (first + place) list ≡ Some (occurrence (first + m.start) (first + m.end) m.pattern)
told-moved given lengths [] first place m is = cc
told-moved given lengths (k ∷ ks) first place m is =
    let n = slice_index lengths k in
    let same : m ≡ occurrence place (place + n) (slice_index given k) = cc in
    let start : m.start ≡ place = ap (λ (o : Occurrence). o.start) same in
    let end : m.end ≡ place + n = ap (λ (o : Occurrence). o.end) same in
    let pattern : m.pattern ≡ slice_index given k = ap (λ (o : Occurrence). o.pattern) same in
    let further : first + place + n ≡ first + m.end = omega arith in
    ap (λ (x : ℕ). Some (occurrence (first + place) x (slice_index given k))) further
    ∙ ap (λ (x : ℕ). Some (occurrence (first + x) (first + m.end) (slice_index given k))) (sym start)
    ∙ ap (λ (x : ℕ). Some (occurrence (first + m.start) (first + m.end) x)) (sym pattern)

pub told-none : (given lengths list : List ℕ) (first place : ℕ) → None ≡ told_back given lengths place list → told_back given lengths (first + place) list ≡ None
told-none given lengths [] first place is = refl
told-none given lengths (k ∷ ks) first place is = cc

-- whatever occurs from one place on starts at another or later
abbrev pub IsClearFrom : Patterns → List ℕ → ℕ → ℕ → Type 0
IsClearFrom p text from place = (m : Occurrence) → Occurs p No text from (length text) m → place ≤ m.start

module _ (p : Patterns) (text : List ℕ) where
  pub clear-here : (from : ℕ) → IsClearFrom p text from from
  clear-here from m o = o.after_start

  -- nothing begins at the place
  pub clear-next : (full : NoneIsEmpty p) (from place : ℕ) → IsBestOrNone p.kind (Occurs p Yes text place (length text)) None → IsClearFrom p text from place → IsClearFrom p text from (place + 1)
  clear-next full from place none clear m o =
      elim (begins-cases p full text place m (Occurs-in p text from (length text) place (length text) m (clear m o) o.before_end o)) [
        | inl here ↦ absurd (none m here)
        | inr past ↦ omega (arith, past)
      ]

  -- the best that begins at the place is the best of all from there on
  pub clear-best : (full : NoneIsEmpty p) (from place : ℕ) (m : Occurrence) → is_leftmost p.kind ≡ true → from ≤ place → IsClearFrom p text from place → IsBest p.kind (Occurs p Yes text place (length text)) m
      → IsBest p.kind (Occurs p No text from (length text)) m
  clear-best full from place m leftmost ordered clear best =
      let start : m.start ≡ place = best.0.admitted refl in
      let here = unanchored p full text place m best.0 in (
        Occurs-in p text place (length text) from (length text) m (omega arith) here.before_end here,
        λ other o.
            let later = Occurs-in p text from (length text) place (length text) other (clear other o) o.before_end o in
            elim (begins-cases p full text place other later) [
              | inl begins ↦ best.1 other begins
              | inr past ↦ inr (starts-before p.kind m other leftmost (omega (arith, past, start)))
            ],
      )

-- bytes begin with their front
begins : (front more whole : List ℕ) → whole ≡ front ++ more → StartsWith whole front
begins front more whole e = ap (take (length front)) e ∙ take_at front more (length front) refl

-- both ways of a test begin with the same
if_front : (b : Bool) (front x y x' y' : List ℕ) → x ≡ front ++ x' → y ≡ front ++ y' → (if b then x else y) ≡ front ++ (if b then x' else y')
if_front true front x y x' y' e f = e
if_front false front x y x' y' e f = f

module _ (p : Patterns) (full : NoneIsEmpty p) (pieces : List (List ℕ)) (text : List ℕ) (finds : List Occurrence) where
  abbrev Stands : ℕ → List ℕ → Type 0
  Stands = StandsBefore p pieces text finds

  abbrev piece : Occurrence → List ℕ
  piece = piece_for pieces

  abbrev Are : ℕ → Option ℕ → List Occurrence → Type 0
  Are from last ms = AreFinds p (span_search text from (length text)) last ms

  -- the finds from a place on are those from a later one, where nothing starts in between
  later-finds : (from place : ℕ) (last : Option ℕ) (ms : List Occurrence) → from ≤ place → IsClearFrom p text from place → Are from last ms → Are place last ms
  later-finds from place last [] ordered clear are =
      best-find p full text place (length text) last None
      (λ other o. find-best p full text from (length text) last None are other (Occurs-in p text place (length text) from (length text) other (omega (arith, o.after_start)) o.before_end o))
  later-finds from place last (m ∷ ms) ordered clear are =
      let best = find-best p full text from (length text) last (Some m) are.0 in (
        best-find p full text place (length text) last (Some m) (
          Occurs-in p text from (length text) place (length text) m (clear m best.0) best.0.before_end best.0,
          λ other o. best.1 other (Occurs-in p text place (length text) from (length text) other (omega (arith, o.after_start)) o.before_end o),
        ),
        are.1,
      )

  module _ (from place : ℕ) (ordered : from ≤ place) (clear : IsClearFrom p text from place) where
    abbrev gap : List ℕ
    gap = slice_range text from place

    behind : (last : Option ℕ) (m : Occurrence) (ms : List Occurrence) → Are from last (m ∷ ms) → place ≤ m.start
    behind last m ms are = clear m (find-best p full text from (length text) last (Some m) are.0).0

    whole-plain : (last : Option ℕ) (ms : List Occurrence) → Are from last ms → replaced_from text from ms piece ≡ gap ++ replaced_from text place ms piece
    whole-plain last [] are = drop_split text from place ordered
    whole-plain last (m ∷ ms) are =
        ap (λ (xs : List ℕ). xs ++ (piece m ++ replaced_from text m.end ms piece)) (part_join text from place m.start ordered (behind last m ms are))
        ∙ append_assoc gap (slice_range text place m.start) (piece m ++ replaced_from text m.end ms piece)

    up_to-plain : (last : Option ℕ) (ms : List Occurrence) (further : ℕ) → place ≤ further → Are from last ms
        → replaced_up_to text further from ms piece ≡ gap ++ replaced_up_to text further place ms piece
    up_to-plain last [] further after are = part_join text from place further ordered after
    up_to-plain last (m ∷ ms) further after are =
        let rest = piece m ++ replaced_up_to text further m.end ms piece in
        if_front (nat_lt m.start further) gap (slice_range text from m.start ++ rest) (slice_range text from further) (slice_range text place m.start ++ rest) (slice_range text place further)
        (ap (λ (xs : List ℕ). xs ++ rest) (part_join text from place m.start ordered (behind last m ms are)) ∙ append_assoc gap (slice_range text place m.start) rest)
        (part_join text from place further ordered after)

    -- the bytes up to a place were written, and no match starts before it
    pub stands-plain : (written : List ℕ) → Stands from written → Stands place (written ++ gap)
    stands-plain written s = record {
      last = s.last;
      rest = s.rest;
      are = later-finds from place s.last s.rest ordered clear s.are;
      whole = s.whole ∙ ap (λ (xs : List ℕ). written ++ xs) (whole-plain s.last s.rest s.are) ∙ sym (append_assoc written gap (replaced_from text place s.rest piece));
      up_to = λ further after. s.up_to further (omega arith)
          ∙ ap (λ (xs : List ℕ). written ++ xs) (up_to-plain s.last s.rest further after s.are)
          ∙ sym (append_assoc written gap (replaced_up_to text further place s.rest piece));
    }

  module _ (place : ℕ) (m : Occurrence) (leftmost : is_leftmost p.kind ≡ true) (best : IsBest p.kind (Occurs p Yes text place (length text)) m) where
    starts : m.start ≡ place
    starts = best.0.admitted refl

    some : m.start < m.end
    some = Occurs-full p full text place (length text) m (unanchored p full text place m best.0)

    no_gap : slice_range text place m.start ≡ []
    no_gap = ap (λ (k : ℕ). slice_range text place k) starts ∙ no_part text place

    whole-match : (ms : List Occurrence) → replaced_from text place (m ∷ ms) piece ≡ piece m ++ replaced_from text m.end ms piece
    whole-match ms = ap (λ (xs : List ℕ). xs ++ (piece m ++ replaced_from text m.end ms piece)) no_gap

    up_to-match : (ms : List Occurrence) (further : ℕ) → m.end ≤ further → replaced_up_to text further place (m ∷ ms) piece ≡ piece m ++ replaced_up_to text further m.end ms piece
    up_to-match ms further after =
        let rest = piece m ++ replaced_up_to text further m.end ms piece in
        ap (λ (b : Bool). if b then slice_range text place m.start ++ rest else slice_range text place further) (lt-ltb m.start further (omega (arith, some)))
        ∙ ap (λ (xs : List ℕ). xs ++ rest) no_gap

    -- the piece of the best that begins there was written
    pub stands-match : (written : List ℕ) → Stands place written → Stands m.end (written ++ piece m)
    stands-match written s =
        let next = best-find p full text place (length text) s.last (Some m) (clear-best p text full place place m leftmost (omega arith) (clear-here p text place) best) in
        let (rest, same, are) = finds-next p (span_search text place (length text)) s.last m s.rest (omega arith) s.are next in
        record {
          last = Some m.end;
          rest = rest;
          are = are;
          whole = s.whole ∙ ap (λ (ns : List Occurrence). written ++ replaced_from text place ns piece) same
              ∙ ap (λ (xs : List ℕ). written ++ xs) (whole-match rest) ∙ sym (append_assoc written (piece m) (replaced_from text m.end rest piece));
          up_to = λ further after. s.up_to further (omega (arith, some, starts))
              ∙ ap (λ (ns : List Occurrence). written ++ replaced_up_to text further place ns piece) same
              ∙ ap (λ (xs : List ℕ). written ++ xs) (up_to-match rest further after) ∙ sym (append_assoc written (piece m) (replaced_up_to text further m.end rest piece));
        }

  -- the front of what stands for all before a place is a beginning of the whole
  pub stands-begins : (place : ℕ) (front more : List ℕ) → Stands place (front ++ more) → StartsWith (replaced text finds pieces) front
  stands-begins place front more s =
      begins front (more ++ replaced_from text place s.rest piece) (replaced text finds pieces) (s.whole ∙ append_assoc front more (replaced_from text place s.rest piece))

  -- at the end it is the whole
  pub stands-whole : (written : List ℕ) → Stands (length text) written → replaced text finds pieces ≡ written
  stands-whole written s =
      let none = best-find p full text (length text) (length text) s.last None (λ other o. omega (arith, Occurs-full p full text (length text) (length text) other o, o.after_start, o.before_end)) in
      let over = finds-none p (span_search text (length text) (length text)) s.last s.rest s.are none in
      s.whole ∙ ap (λ (ns : List Occurrence). written ++ replaced_from text (length text) ns piece) over
      ∙ ap (λ (xs : List ℕ). written ++ xs) (drop_all (length text) text (omega arith)) ∙ append-nil written

  nothing-up_to : (place : ℕ) (last : Option ℕ) (ms : List Occurrence) → Are place last ms → replaced_up_to text place place ms piece ≡ []
  nothing-up_to place last [] are = no_part text place
  nothing-up_to place last (m ∷ ms) are =
      let after = (find-best p full text place (length text) last (Some m) are.0).0.after_start in
      ap (λ (b : Bool). if b then slice_range text place m.start ++ (piece m ++ replaced_up_to text place m.end ms piece) else slice_range text place place) (le-ltb m.start place after)
      ∙ no_part text place

  -- it is the whole up to the place
  pub stands-up_to : (place : ℕ) (written : List ℕ) → Stands place written → replaced_up_to text place 0 finds piece ≡ written
  stands-up_to place written s = s.up_to place (omega arith) ∙ ap (λ (xs : List ℕ). written ++ xs) (nothing-up_to place s.last s.rest s.are) ∙ append-nil written

  -- before the first byte
  pub stands-first : Are 0 None finds → Stands 0 []
  stands-first are = record { last = None; rest = finds; are = are; whole = refl; up_to = λ further after. refl }

regroup : (a b c d : List ℕ) → (a ++ b) ++ (c ++ d) ≡ (a ++ (b ++ c)) ++ d
regroup a b c d = simp append_assoc

-- so much of a block was written: it stands for the bytes up to a place, and nothing starts between that and another
pub record Wrote {A W : Type 0} (G : Automata A) (K : SinkGhosts W) (a : A) (given bytes : List ℕ) (behind : ℕ) (pieces : List (List ℕ)) (sink sink' : W) (copied at : ℕ) : Type 0 where
  pub on : WritesMore G K a given bytes behind pieces sink sink' copied
  pub clear : (p : Patterns) (text : List ℕ) (first : ℕ) → IsBlockOf G a given bytes behind p text first → IsClearFrom p text (first + copied) (first + at)

module _ {A W : Type 0} (G : Automata A) (K : SinkGhosts W) (a : A) (given bytes : List ℕ) (behind : ℕ) (pieces : List (List ℕ)) (sink : W) where
  abbrev Holds : W → ℕ → ℕ → Type 0
  Holds = Wrote G K a given bytes behind pieces sink

  -- nothing yet
  pub wrote-first : Holds sink 0 0
  wrote-first = record {
    on = record {
      chunk = [];
      writes = Appends-nil (K.taken sink);
      stands = λ p text first finds written block stands.
          let here : first ≡ first + 0 = omega arith in
          subst (λ (xs : List ℕ). StandsBefore p pieces text finds (first + 0) xs) (sym (append-nil written)) (subst (λ (k : ℕ). StandsBefore p pieces text finds k written) here stands);
    };
    clear = λ p text first block. clear-here p text (first + 0);
  }

  module _ (sink' : W) (copied at : ℕ) (ordered : copied ≤ at) (within : at ≤ length bytes) (wrote : Holds sink' copied at) where
    -- the bytes between two places of a block are those of the text
    same-gap : (p : Patterns) (text : List ℕ) (first : ℕ) → IsBlockOf G a given bytes behind p text first → slice_range text (first + copied) (first + at) ≡ slice_range bytes copied at
    same-gap p text first block =
        sym (part_of_part text first (first + length bytes) copied at (first + copied) (first + at) refl refl ordered (omega arith))
        ∙ ap (λ (xs : List ℕ). slice_range xs copied at) block.part

    -- no match begins there
    pub wrote-none : (at' : ℕ) → at' ≡ at + 1
        → ((p : Patterns) (text : List ℕ) (first : ℕ) → IsBlockOf G a given bytes behind p text first → IsBestOrNone p.kind (Occurs p Yes text (first + at) (length text)) None)
        → Holds sink' copied at'
    wrote-none at' is none = record {
      on = wrote.on;
      clear = λ p text first block.
          let here : first + at + 1 ≡ first + at' = omega (arith, is) in
          subst (IsClearFrom p text (first + copied)) here (clear-next p text block.turned_from.full (first + copied) (first + at) (none p text first block) (wrote.clear p text first block));
    }

    -- the bytes up to there were written
    pub wrote-plain : (sink'' : W) → Appends (K.taken sink') (K.taken sink'') (slice_range bytes copied at) → WritesMore G K a given bytes behind pieces sink sink'' at
    wrote-plain sink'' appends = record {
      chunk = wrote.on.chunk ++ slice_range bytes copied at;
      writes = Appends-trans (K.taken sink) (K.taken sink') (K.taken sink'') wrote.on.chunk (slice_range bytes copied at) wrote.on.writes appends;
      stands = λ p text first finds written block stands.
          let before = wrote.on.stands p text first finds written block stands in
          let now = stands-plain p block.turned_from.full pieces text finds (first + copied) (first + at) (omega arith) (wrote.clear p text first block) (written ++ wrote.on.chunk) before in
          subst (StandsBefore p pieces text finds (first + at)) (append_assoc written wrote.on.chunk (slice_range bytes copied at))
          (subst (λ (xs : List ℕ). StandsBefore p pieces text finds (first + at) ((written ++ wrote.on.chunk) ++ xs)) (same-gap p text first block) now);
    }

    -- or a beginning of them
    pub wrote-plain-some : (sink'' : W) → AppendsBeginning (K.taken sink') (K.taken sink'') (slice_range bytes copied at) → WritesSome G K a given bytes behind pieces sink sink''
    wrote-plain-some sink'' (count, short, appends) =
        let part = slice_range bytes copied at in
        record {
          chunk = wrote.on.chunk ++ take count part;
          writes = Appends-trans (K.taken sink) (K.taken sink') (K.taken sink'') wrote.on.chunk (take count part) wrote.on.writes appends;
          begins = λ p text first finds written block stands.
              let before = wrote.on.stands p text first finds written block stands in
              let now = stands-plain p block.turned_from.full pieces text finds (first + copied) (first + at) (omega arith) (wrote.clear p text first block) (written ++ wrote.on.chunk) before in
              let split : (written ++ wrote.on.chunk) ++ slice_range text (first + copied) (first + at) ≡ (written ++ (wrote.on.chunk ++ take count part)) ++ drop count part =
              ap (λ (xs : List ℕ). (written ++ wrote.on.chunk) ++ xs) (same-gap p text first block ∙ sym (take-append-drop count part)) ∙ regroup written wrote.on.chunk (take count part) (drop count part) in
              stands-begins p block.turned_from.full pieces text finds (first + at) (written ++ (wrote.on.chunk ++ take count part)) (drop count part)
              (subst (StandsBefore p pieces text finds (first + at)) split now);
        }

    module _ (m : Occurrence)
        (best : (p : Patterns) (text : List ℕ) (first : ℕ) → IsBlockOf G a given bytes behind p text first
        → IsBest p.kind (Occurs p Yes text (first + at) (length text)) (occurrence (first + m.start) (first + m.end) m.pattern)) where
      abbrev further : ℕ → Occurrence
      further first = occurrence (first + m.start) (first + m.end) m.pattern

      abbrev stands_for : List ℕ
      stands_for = piece_for pieces m

      stands-find : (p : Patterns) (text : List ℕ) (first : ℕ) (finds : List Occurrence) (written : List ℕ) → IsBlockOf G a given bytes behind p text first → StandsBefore p pieces text finds first written
          → StandsBefore p pieces text finds (first + m.end) (((written ++ wrote.on.chunk) ++ slice_range bytes copied at) ++ stands_for)
      stands-find p text first finds written block stands =
          let before = wrote.on.stands p text first finds written block stands in
          let plain = stands-plain p block.turned_from.full pieces text finds (first + copied) (first + at) (omega arith) (wrote.clear p text first block) (written ++ wrote.on.chunk) before in
          let now = stands-match p block.turned_from.full pieces text finds (first + at) (further first) block.turned_from.leftmost (best p text first block)
          ((written ++ wrote.on.chunk) ++ slice_range text (first + copied) (first + at)) plain in
          subst (λ (xs : List ℕ). StandsBefore p pieces text finds (first + m.end) (((written ++ wrote.on.chunk) ++ xs) ++ stands_for)) (same-gap p text first block) now

      abbrev whole_part : List ℕ
      whole_part = slice_range bytes copied at ++ stands_for

      -- these bytes and what stands for the match were written
      pub wrote-find : (sink'' : W) (at' : ℕ) → at' ≡ m.end → Appends (K.taken sink') (K.taken sink'') whole_part → Holds sink'' at' at'
      wrote-find sink'' at' is appends =
          let done : WritesMore G K a given bytes behind pieces sink sink'' m.end = record {
            chunk = wrote.on.chunk ++ whole_part;
            writes = Appends-trans (K.taken sink) (K.taken sink') (K.taken sink'') wrote.on.chunk whole_part wrote.on.writes appends;
            stands = λ p text first finds written block stands.
                subst (StandsBefore p pieces text finds (first + m.end)) (append_assoc (written ++ wrote.on.chunk) (slice_range bytes copied at) stands_for ∙ append_assoc written wrote.on.chunk whole_part)
                (stands-find p text first finds written block stands);
          } in
          record {
            on = subst (WritesMore G K a given bytes behind pieces sink sink'') (sym is) done;
            clear = λ p text first block. clear-here p text (first + at');
          }

      -- or a beginning
      pub wrote-find-some : (sink'' : W) → AppendsBeginning (K.taken sink') (K.taken sink'') whole_part → WritesSome G K a given bytes behind pieces sink sink''
      wrote-find-some sink'' (count, short, appends) = record {
        chunk = wrote.on.chunk ++ take count whole_part;
        writes = Appends-trans (K.taken sink) (K.taken sink') (K.taken sink'') wrote.on.chunk (take count whole_part) wrote.on.writes appends;
        begins = λ p text first finds written block stands.
            let split : ((written ++ wrote.on.chunk) ++ slice_range bytes copied at) ++ stands_for ≡ (written ++ (wrote.on.chunk ++ take count whole_part)) ++ drop count whole_part =
            append_assoc (written ++ wrote.on.chunk) (slice_range bytes copied at) stands_for
            ∙ ap (λ (xs : List ℕ). (written ++ wrote.on.chunk) ++ xs) (sym (take-append-drop count whole_part)) ∙ regroup written wrote.on.chunk (take count whole_part) (drop count whole_part) in
            stands-begins p block.turned_from.full pieces text finds (first + m.end) (written ++ (wrote.on.chunk ++ take count whole_part)) (drop count whole_part)
            (subst (StandsBefore p pieces text finds (first + m.end)) split (stands-find p text first finds written block stands));
      }
