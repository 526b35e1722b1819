-- How far a replacement of a stream by blocks has come, from one read to the next.
use Rattle.std.proofs.Common.{◌≡◌, ◌⊎◌, inl, inr, ℕ, suc, ◌+◌, ◌-◌, ◌*◌, ◌<◌, ◌≤◌, Bool, true, false, List, [], ◌∷◌, ◌++◌, length, drop, map, take, refl, sym, ◌∙◌, ap, subst, arith, append_assoc, append-nil}
use Rattle.std.specs.Prelude.{IsErrAnd, None, Result, Ok, Err, slice_index, slice_range}
use Rattle.std.specs.Io.KnownBytes.{Appends, Consumes, Keeps}
use Rattle.std.proofs.KnownBytes.{Appends-kept, Appends-nil, Appends-trans, Consumes-nil, Consumes-trans}
use Rattle.std.proofs.lemmas.List.{drop-append-le, drop-drop, length-append, length-drop, length-map, take_all, take-append-le}
use Rattle.aho_core.specs.declared.error.stream.StreamError.{StreamError}
use Rattle.aho_core.specs.declared.error.stream.StreamError.TheVariants.{Match as Refused, Read, Write, WriteZero, Memory, PositionLimit}
use Rattle.aho_core.specs.Iteration.{AreFinds}
use Rattle.aho_core.specs.Laws.{Reads, longest}
use Rattle.aho_core.specs.Occurrence.{Occurrence}
use Rattle.aho_core.specs.Patterns.{Patterns}
use Rattle.aho_core.specs.Search.{plain_search}
use Rattle.aho_automaton.specs.declared.automaton.Automaton.{Ghosts as Automata}
use Rattle.aho_devices.specs.Buffer.{Buffered, Gains}
use Rattle.aho_devices.specs.Counts.{counted}
use Rattle.aho_devices.specs.Refusals.{IsWriteRefusal}
use Rattle.aho_devices.specs.declared.device.Sink.{Ghosts as SinkGhosts}
use Rattle.aho_devices.specs.declared.device.Source.{Ghosts as SourceGhosts}
use Rattle.aho_stream.specs.After.{MayFollow, greatest_position}
use Rattle.aho_stream.specs.Refills.{is_limit}
use Rattle.aho_stream.specs.Replacing.{BeginsReplacing, GaveAsMany, MayBe, ReplacesStream, SourceGave}
use Rattle.aho_stream.proofs.PatternLengths.{longest_bounds}
use Rattle.aho_backward.specs.Backward.{IsTurnedFrom}
use Rattle.aho_backward.specs.Streams.{FourAByte, IsBlockOf, LeavesByBlocks, ReplacesAllBut, SettlesTo, StandsBefore, WritesMore, WritesSome, held_back}
use Rattle.aho_backward.specs.Turned.{size_of, turned}
use Rattle.aho_backward.proofs.TurnedWords.{length-turned, lengths-turned}
use Rattle.aho_backward.proofs.Writing.{stands-begins, stands-first, stands-up_to, stands-whole, wrote-first}

-- what is no greater than a bound, each for itself
longest-upto : (ns : List ℕ) (bound : ℕ) → ((i : ℕ) → i < length ns → slice_index ns i ≤ bound) → longest ns ≤ bound
longest-upto [] bound each = omega arith
longest-upto (n ∷ ns) bound each =
    let first : n ≤ bound = each 0 (omega arith) in
    let rest = longest-upto ns bound (λ i lt. each (suc i) (omega arith)) in
    omega (arith, first, rest)

-- the patterns that lead are no longer than all
pub longest-leading : {A : Type 0} (G : Automata A) (a : A) (given : List ℕ) (p : Patterns) → IsTurnedFrom G a given p
    → Reads (turned p given) (G.kind a) (G.lengths a) (G.held a (turned p given)) (G.list a) (G.dead a) (G.starts a) → longest (G.lengths a) ≤ longest (map length p.words)
longest-leading G a given p from laws =
    longest-upto (G.lengths a) (longest (map length p.words))
    (λ i lt.
    let count : length given ≡ length (G.lengths a) = sym (length-turned p given) ∙ sym (length-map (turned p given).words length) ∙ ap length (sym laws.lengths_are) in
    let inside : i < length given = omega arith in
    let size : slice_index (G.lengths a) i ≡ size_of p (slice_index given i) = ap (λ (lengths : List ℕ). slice_index lengths i) laws.lengths_are ∙ lengths-turned p given i inside in
    let bound = longest_bounds p.words (slice_index given i) (from.leading.each i inside).0 in
    omega (arith, size, bound))

-- the bytes of what was given from a place on are those of each text that goes on from it
part-ahead : (given more : List ℕ) (place : ℕ) → place ≤ length given → slice_range (given ++ more) place (place + length (drop place given)) ≡ drop place given
part-ahead given more place within =
    let count : place + length (drop place given) - place ≡ length (drop place given) = omega arith in
    ap (λ (n : ℕ). take n (drop place (given ++ more))) count
    ∙ ap (take (length (drop place given))) (drop-append-le place given more within)
    ∙ take-append-le (length (drop place given)) (drop place given) more (omega arith)
    ∙ take_all (length (drop place given)) (drop place given) (omega arith)

-- what may be later may be now
might-be : (given bytes text : List ℕ) (ended : Bool) → MayBe (given ++ bytes) ended text → MayBe given false text
might-be given bytes text ended (more, is, may) = (bytes ++ more, is ∙ append_assoc given bytes more, tt)

module _ {A R W : Type 0} (G : Automata A) (S : SourceGhosts R) (K : SinkGhosts W) (a : A) (numbers : List ℕ) (pieces : List (List ℕ)) (first : R) (begun : W) (paid₀ : ℕ) where
  abbrev IsOf : Patterns → Type 0
  IsOf p = IsTurnedFrom G a numbers p

  -- so much was given, what was written stands for all before a place, and these bytes are left behind it
  pub record GoneTo (source : R) (sink : W) (lookups : ℕ) (ended : Bool) (ahead : List ℕ) (room : ℕ) : Type 0 where
    pub given : List ℕ
    pub written : List ℕ
    pub place : ℕ
    pub gives : SourceGave S first source given ended
    pub writes : Appends (K.taken begun) (K.taken sink) written
    pub within : place ≤ length given
    pub left : drop place given ≡ ahead
    pub count : length given + room ≡ greatest_position
    pub stands : (p : Patterns) (text : List ℕ) (finds : List Occurrence) → IsOf p → MayBe given ended text → AreFinds p (plain_search text) None finds → StandsBefore p pieces text finds place written
    pub paid : lookups ≤ paid₀ + 4 * place

  -- nothing yet
  pub gone-first : GoneTo first begun paid₀ false [] greatest_position
  gone-first = record {
    given = [];
    written = [];
    place = 0;
    gives = record { bytes = Consumes-nil (S.remaining first); end = refl };
    writes = Appends-nil (K.taken begun);
    within = omega arith;
    left = refl;
    count = omega arith;
    stands = λ p text finds of may are. stands-first p of.full pieces text finds are;
    paid = omega arith;
  }

  -- the sink was flushed
  pub gone-flushed : (source : R) (sink sink' : W) (lookups : ℕ) (ahead : List ℕ) (room : ℕ) → GoneTo source sink lookups false ahead room → Keeps (K.taken sink) (K.taken sink') → GoneTo source sink' lookups false ahead room
  gone-flushed source sink sink' lookups ahead room gone kept = record {
    given = gone.given;
    written = gone.written;
    place = gone.place;
    gives = gone.gives;
    writes = Appends-kept (K.taken begun) (K.taken sink) (K.taken sink') gone.written gone.writes kept;
    within = gone.within;
    left = gone.left;
    count = gone.count;
    stands = gone.stands;
    paid = gone.paid;
  }

  -- bytes were read, none where the end was seen
  pub gone-read : (source source' : R) (sink : W) (lookups : ℕ) (ahead bytes : List ℕ) (room room' : ℕ) (ended : Bool) → GoneTo source sink lookups false ahead room
      → Consumes (S.remaining source) (S.remaining source') bytes → S.empty_reads source' ≡ counted ended (S.empty_reads source) → room' + length bytes ≡ room
      → GoneTo source' sink lookups ended (ahead ++ bytes) room'
  gone-read source source' sink lookups ahead bytes room room' ended gone read end less = record {
    given = gone.given ++ bytes;
    written = gone.written;
    place = gone.place;
    gives = record { bytes = Consumes-trans (S.remaining first) (S.remaining source) (S.remaining source') gone.given bytes gone.gives.bytes read; end = end ∙ ap (counted ended) gone.gives.end };
    writes = gone.writes;
    within = omega (arith, gone.within, length-append gone.given bytes);
    left = drop-append-le gone.place gone.given bytes gone.within ∙ ap (λ (xs : List ℕ). xs ++ bytes) gone.left;
    count = omega (arith, gone.count, length-append gone.given bytes);
    stands = λ p text finds of may are. gone.stands p text finds of (might-be gone.given bytes text ended may) are;
    paid = gone.paid;
  }

  -- as a buffer holds them behind what was written before
  pub gone-filled : (source source' : R) (sink : W) (lookups : ℕ) (old new : Buffered) (passed room room' : ℕ) (ended : Bool) → GoneTo source sink lookups false (drop passed old.bytes) room
      → passed ≤ length old.bytes → Gains old new (S.remaining source) (S.remaining source') → S.empty_reads source' ≡ counted ended (S.empty_reads source)
      → room' + (length new.bytes - length old.bytes) ≡ room → GoneTo source' sink lookups ended (drop passed new.bytes) room'
  gone-filled source source' sink lookups old new passed room room' ended gone within gains end less =
      let same : drop passed old.bytes ++ gains.bytes ≡ drop passed new.bytes = sym (drop-append-le passed old.bytes gains.bytes within) ∙ ap (drop passed) (sym gains.held) in
      let long : length new.bytes ≡ length old.bytes + length gains.bytes = ap length gains.held ∙ length-append old.bytes gains.bytes in
      subst (λ (xs : List ℕ). GoneTo source' sink lookups ended xs room') same
      (gone-read source source' sink lookups (drop passed old.bytes) gains.bytes room room' ended gone gains.given end (omega (arith, long, less)))

  module _ (source : R) (sink : W) (lookups : ℕ) (ended : Bool) (ahead : List ℕ) (room : ℕ) (gone : GoneTo source sink lookups ended ahead room) where
    ahead-long : gone.place + length ahead ≡ length gone.given
    ahead-long = omega (arith, gone.within, length-drop gone.place gone.given, ap length gone.left)

    pub lookups-bounded : lookups + 4 * (length ahead + room) ≤ paid₀ + 4 * greatest_position
    lookups-bounded = omega (arith, gone.paid, gone.count, ahead-long)

    -- what is left is a block of each text that may be
    block-ahead : (behind : ℕ) (p : Patterns) (text : List ℕ) → IsOf p → MayBe gone.given ended text → (ended ≡ true) ⊎ (longest (G.lengths a) ≤ behind + 1)
        → IsBlockOf G a numbers ahead behind p text gone.place
    block-ahead behind p text of (more, is, may) far = record {
      turned_from = of;
      within = omega (arith, ahead-long, ap length is, length-append gone.given more);
      part =
          ap (λ (xs : List ℕ). slice_range xs gone.place (gone.place + length ahead)) is
          ∙ subst (λ (xs : List ℕ). slice_range (gone.given ++ more) gone.place (gone.place + length xs) ≡ xs) gone.left (part-ahead gone.given more gone.place gone.within);
      far = elim far [
        | inl over ↦ inl (let none : more ≡ [] = subst (λ (b : Bool). MayFollow b more) over may in omega (arith, ahead-long, ap length is, length-append gone.given more, ap length none))
        | inr short ↦ inr short
      ];
    }

    -- a beginning of the whole was written
    pub begins-here : BeginsReplacing S K IsOf pieces first source begun sink
    begins-here = record {
      given = gone.given;
      ended = ended;
      gives = gone.gives;
      written = gone.written;
      writes = gone.writes;
      beginning = λ p text finds of may are.
          stands-begins p of.full pieces text finds gone.place gone.written []
          (subst (StandsBefore p pieces text finds gone.place) (sym (append-nil gone.written)) (gone.stands p text finds of may are));
    }

    -- and some of what is left
    pub begins-some : (behind : ℕ) (sink' : W) → (ended ≡ true) ⊎ (longest (G.lengths a) ≤ behind + 1) → WritesSome G K a numbers ahead behind pieces sink sink' → BeginsReplacing S K IsOf pieces first source begun sink'
    begins-some behind sink' far wrote = record {
      given = gone.given;
      ended = ended;
      gives = gone.gives;
      written = gone.written ++ wrote.chunk;
      writes = Appends-trans (K.taken begun) (K.taken sink) (K.taken sink') gone.written wrote.chunk gone.writes wrote.writes;
      beginning = λ p text finds of may are. wrote.begins p text gone.place finds gone.written (block-ahead behind p text of may far) (gone.stands p text finds of may are);
    }

    -- as many were given as may be
    pub gave-all : ended ≡ false → room ≡ 0 → GaveAsMany S first source greatest_position
    gave-all unended none = (gone.given, subst (λ (b : Bool). SourceGave S first source gone.given b) unended gone.gives, omega (arith, gone.count, none))

    -- the look-ups are paid for, those of a walk over all that is left too
    pub four-here : (lookups' : ℕ) → lookups' ≤ lookups + 2 * length ahead → FourAByte S first source paid₀ lookups'
    four-here lookups' cost = record { given = gone.given; ended = ended; gives = gone.gives; at_most = omega (arith, cost, gone.paid, ahead-long) }

    -- all was written up to a place near the end
    pub all-but : (most : ℕ) → ((p : Patterns) → IsOf p → most ≤ held_back (map length p.words)) → length ahead ≤ most → ReplacesAllBut S K IsOf pieces first source begun sink
    all-but most bound few = record {
      given = gone.given;
      ended = ended;
      gives = gone.gives;
      place = gone.place;
      within = gone.within;
      near = λ p of. omega (arith, ahead-long, few, bound p of);
      writes = λ p text finds of may are.
          subst (Appends (K.taken begun) (K.taken sink)) (sym (stands-up_to p of.full pieces text finds gone.place gone.written (gone.stands p text finds of may are))) gone.writes;
    }

  -- a block was written
  pub gone-settled : (source : R) (sink sink' : W) (lookups lookups' behind : ℕ) (ahead ahead' : List ℕ) (room : ℕ) → GoneTo source sink lookups false ahead room → longest (G.lengths a) ≤ behind + 1
      → SettlesTo G K a numbers behind pieces ahead ahead' sink sink' lookups lookups' → GoneTo source sink' lookups' false ahead' room
  gone-settled source sink sink' lookups lookups' behind ahead ahead' room gone far settles =
      let long = ahead-long source sink lookups false ahead room gone in
      record {
        given = gone.given;
        written = gone.written ++ settles.on.chunk;
        place = gone.place + settles.count;
        gives = gone.gives;
        writes = Appends-trans (K.taken begun) (K.taken sink) (K.taken sink') gone.written settles.on.chunk gone.writes settles.on.writes;
        within = omega (arith, long, settles.within);
        left = sym (drop-drop settles.count gone.place gone.given) ∙ ap (drop settles.count) gone.left ∙ sym settles.left;
        count = gone.count;
        stands = λ p text finds of may are.
            settles.on.stands p text gone.place finds gone.written (block-ahead source sink lookups false ahead room gone behind p text of may (inr far)) (gone.stands p text finds of may are);
        paid = omega (arith, gone.paid, settles.paid);
      }

  -- at the end all was written
  pub all-written : (source : R) (sink sink' : W) (lookups count : ℕ) (ahead : List ℕ) (room : ℕ) → GoneTo source sink lookups true ahead room → count ≡ length ahead
      → WritesMore G K a numbers ahead 0 pieces sink sink' count → ReplacesStream S K IsOf pieces first source begun sink'
  all-written source sink sink' lookups count ahead room gone all on =
      let long = ahead-long source sink lookups true ahead room gone in
      record {
        given = gone.given;
        gives = gone.gives;
        writes = λ p finds of are.
            let may : MayBe gone.given true gone.given = ([], sym (append-nil gone.given), refl) in
            let here : gone.place + count ≡ length gone.given = omega (arith, long, all) in
            let stands = on.stands p gone.given gone.place finds gone.written (block-ahead source sink lookups true ahead room gone 0 p gone.given of may (inl refl)) (gone.stands p gone.given finds of may are) in
            let whole = stands-whole p of.full pieces gone.given finds (gone.written ++ on.chunk) (subst (λ (k : ℕ). StandsBefore p pieces gone.given finds k (gone.written ++ on.chunk)) here stands) in
            subst (Appends (K.taken begun) (K.taken sink')) (sym whole) (Appends-trans (K.taken begun) (K.taken sink) (K.taken sink') gone.written on.chunk gone.writes on.writes);
      }

-- the error of a call that is passed on
pub err-given : {X E : Type 0} (result : Result X E) (error : E) → IsErrAnd result (λ e. e ≡ error) → result ≡ Err error
err-given (Ok x) error is = absurd is
err-given (Err e) error is = ap Err is

-- what is left, by how it ended
module _ {R W : Type 0} (S : SourceGhosts R) (K : SinkGhosts W) (AreSearched : Patterns → Type 0) (pieces : List (List ℕ)) (source source' : R) (sink sink' : W) (most : ℕ) where
  abbrev Leaves : Result (Unit {0}) StreamError → Type 0
  Leaves = LeavesByBlocks S K AreSearched pieces source source' sink sink' most

  pub leaves-whole : ReplacesStream S K AreSearched pieces source source' sink sink' → Leaves (Ok tt)
  leaves-whole whole = record { replaced_all = whole; begun = tt; near = tt; limit = λ met. cc }

  -- where the reading stopped
  pub leaves-most : (error : StreamError) → BeginsReplacing S K AreSearched pieces source source' sink sink' → ReplacesAllBut S K AreSearched pieces source source' sink sink'
      → (is_limit {A = Unit {0}} (Err error) ≡ true → GaveAsMany S source source' most) → Leaves (Err error)
  leaves-most error some near limit = record { replaced_all = tt; begun = some; near = λ fills. near; limit = limit }

  -- where a write was refused
  pub leaves-some : (error : StreamError) → IsWriteRefusal error → BeginsReplacing S K AreSearched pieces source source' sink sink' → Leaves (Err error)
  leaves-some (Refused cause) only some = absurd only
  leaves-some (Read fault) only some = absurd only
  leaves-some (Write fault) only some = record { replaced_all = tt; begun = some; near = λ fills. absurd fills; limit = λ met. cc }
  leaves-some WriteZero only some = record { replaced_all = tt; begun = some; near = λ fills. absurd fills; limit = λ met. cc }
  leaves-some Memory only some = absurd only
  leaves-some PositionLimit only some = absurd only

-- where memory ran out at the start
pub leaves-none : {R W : Type 0} (S : SourceGhosts R) (K : SinkGhosts W) (AreSearched : Patterns → Type 0) (pieces : List (List ℕ)) (source : R) (sink : W) (most : ℕ)
    → LeavesByBlocks S K AreSearched pieces source source sink sink most (Err Memory)
leaves-none S K AreSearched pieces source sink most = record {
  replaced_all = tt;
  begun = record {
    given = [];
    ended = false;
    gives = record { bytes = Consumes-nil (S.remaining source); end = refl };
    written = [];
    writes = Appends-nil (K.taken sink);
    beginning = λ p bytes ms of may finds. refl;
  };
  near = λ fills. absurd fills;
  limit = λ met. cc;
}

pub four-none : {R : Type 0} (S : SourceGhosts R) (source : R) (lookups : ℕ) → FourAByte S source source lookups lookups
four-none S source lookups = record { given = []; ended = false; gives = record { bytes = Consumes-nil (S.remaining source); end = refl }; at_most = omega arith }

-- it is the limit's alone where that was met
pub limit-is : (error : StreamError) → is_limit {A = Unit {0}} (Err error) ≡ true → error ≡ PositionLimit
limit-is (Refused cause) met = cc
limit-is (Read fault) met = cc
limit-is (Write fault) met = cc
limit-is WriteZero met = cc
limit-is Memory met = cc
limit-is PositionLimit met = refl

-- too few bytes for a block: nothing is written
pub settles-none : {A W : Type 0} (G : Automata A) (K : SinkGhosts W) (a : A) (given : List ℕ) (behind : ℕ) (pieces : List (List ℕ)) (ahead : List ℕ) (sink : W) (lookups : ℕ) → length ahead ≤ 2 * behind
    → SettlesTo G K a given behind pieces ahead ahead sink sink lookups lookups
settles-none G K a given behind pieces ahead sink lookups few = record {
  count = 0;
  within = omega arith;
  on = (wrote-first G K a given ahead behind pieces sink).on;
  left = refl;
  few = few;
  paid = omega arith;
}

-- what is said of some patterns is said of those that are among them
pub leaves-through : {R W : Type 0} (S : SourceGhosts R) (K : SinkGhosts W) (P Q : Patterns → Type 0) (through : (p : Patterns) → Q p → P p) (pieces : List (List ℕ)) (source source' : R) (sink sink' : W) (most : ℕ)
    (result : Result (Unit {0}) StreamError) → LeavesByBlocks S K P pieces source source' sink sink' most result → LeavesByBlocks S K Q pieces source source' sink sink' most result
leaves-through S K P Q through pieces source source' sink sink' most (Ok x) leaves = record {
  replaced_all = record {
    given = leaves.replaced_all.given;
    gives = leaves.replaced_all.gives;
    writes = λ p finds of are. leaves.replaced_all.writes p finds (through p of) are;
  };
  begun = tt;
  near = tt;
  limit = leaves.limit;
}
leaves-through S K P Q through pieces source source' sink sink' most (Err error) leaves = record {
  replaced_all = tt;
  begun = record {
    given = leaves.begun.given;
    ended = leaves.begun.ended;
    gives = leaves.begun.gives;
    written = leaves.begun.written;
    writes = leaves.begun.writes;
    beginning = λ p text finds of may are. leaves.begun.beginning p text finds (through p of) may are;
  };
  near = λ fills.
      let near = leaves.near fills in
      record {
        given = near.given;
        ended = near.ended;
        gives = near.gives;
        place = near.place;
        within = near.within;
        near = λ p of. near.near p (through p of);
        writes = λ p text finds of may are. near.writes p text finds (through p of) may are;
      };
  limit = leaves.limit;
}
