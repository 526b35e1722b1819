-- A count of all matches of a stream, from one chunk lent to the next.
use Rattle.std.proofs.Common.{◌≡◌, ℕ, inl, inr, append-nil, ◌+◌, ◌-◌, ◌≤◌, ◌<◌, ◌^◌, Bool, true, false, List, [], ◌++◌, ◌∙◌, length, map, refl, sym, ap, subst, arith, append_assoc}
use Rattle.std.specs.Prelude.{Err, ◌||◌, Option, Some, None, Result, Ok}
use Rattle.std.proofs.KnownBytes.{Consumes-nil, Consumes-trans}
use Rattle.aho_core.specs.Answer.{IsAnswer}
use Rattle.aho_core.specs.Iteration.{AreFinds}
use Rattle.aho_core.specs.Laws.{shortest}
use Rattle.aho_core.specs.Occurrence.{Occurrence}
use Rattle.aho_core.specs.Patterns.{Patterns}
use Rattle.aho_core.specs.Search.{plain_search}
use Rattle.aho_automaton.proofs.NextFinds.{finds-next, finds-none}
use Rattle.aho_automaton.specs.declared.automaton.Automaton.{Ghosts}
use Rattle.aho_stream.specs.After.{IsAfter, MayFollow, search_from}
use Rattle.aho_devices.specs.declared.device.Source.{Ghosts as SourceGhosts}
use Rattle.aho_stream.specs.Chunks.{Advances, ReadsOn, AnswerTells, TellsEnd, TellsMatch, TellsPlain, tells_limit}
use Rattle.aho_stream.specs.Counting.{CountsAll}
use Rattle.aho_stream.specs.Iterators.{CanGoOn, HasGiven, IsFresh, Lends, automaton_of, lookups_of, told_lent}
use Rattle.aho_stream.specs.declared.chunks.StreamChunkIter.{StreamChunkIter}
use Rattle.aho_stream.specs.declared.chunks.StreamChunk.{StreamChunk}
use Rattle.aho_stream.specs.declared.chunks.StreamChunk.TheVariants.{NonMatch, Match}
use Rattle.aho_core.specs.declared.error.stream.StreamError.{StreamError}
use Rattle.aho_stream.specs.declared.progress.StreamPiece.{StreamPiece}
use Rattle.aho_stream.proofs.PatternLengths.{occurs_some}
use Rattle.aho_stream.proofs.StreamFinds.{find_of_answer}
use Rattle.std.specs.Borrow.{Bor}

-- nothing may always follow
may_none : (ended : Bool) → MayFollow ended []
may_none true = refl
may_none false = tt

-- what is read and then what may follow may follow together
may_join : (e e' : Bool) (bytes more : List ℕ) → (e ≡ true → bytes ≡ []) → (e ≡ true → e' ≡ true) → MayFollow e' more → MayFollow e (bytes ++ more)
may_join true true bytes more closed stays follows = ap (λ (xs : List ℕ). xs ++ more) (closed refl) ∙ follows
may_join true false bytes more closed stays follows = let impossible = stays refl in cc
may_join false e' bytes more closed stays follows = tt

-- the finds of these bytes, so many of which were counted: the rest begins at a place
pub record Uncounted (p : Patterns) (bytes : List ℕ) (ms : List Occurrence) (from count : ℕ) : Type 0 where
  pub last : Option ℕ
  pub rest : List Occurrence
  pub finds : AreFinds p (search_from from bytes) last rest
  pub are_all : length ms ≡ count + length rest

module _ (p : Patterns) (lengths : List ℕ) (are : lengths ≡ map length p.words) (no_empty : 1 ≤ shortest lengths) (bytes : List ℕ) (ms : List Occurrence) (from count : ℕ) where
  counted_match : (m : Occurrence) → IsAnswer p (search_from from bytes) (Some m) → Uncounted p bytes ms from count → Uncounted p bytes ms m.end (count + 1)
  counted_match m answer left =
      let next = find_of_answer p lengths are no_empty bytes from left.last (Some m) answer in
      let (rest, same, finds) = finds-next p (search_from from bytes) left.last m left.rest (omega arith) left.finds next in
      record { last = Some m.end; rest = rest; finds = finds; are_all = omega (arith, left.are_all, ap length same) }

  counted_none : IsAnswer p (search_from from bytes) None → Uncounted p bytes ms from count → count ≡ length ms
  counted_none none left =
      let over : left.rest ≡ [] = finds-none p (search_from from bytes) left.last left.rest left.finds (find_of_answer p lengths are no_empty bytes from left.last None none) in
      omega (arith, left.are_all, ap length over)

-- so many matches were counted, since a fresh iterator was called
pub record Going {A R : Type 0} (G : Ghosts A) (S : SourceGhosts R) (first it : StreamChunkIter A R) (count : ℕ) : Type 0 where
  pub same : automaton_of it ≡ automaton_of first
  pub limit : it.progress.limit ≡ first.progress.limit
  pub refused : it.progress.refused ≡ false
  pub stays : first.progress.ended ≡ true → it.progress.ended ≡ true
  pub few : count ≤ it.progress.reported
  pub read : ReadsOn G (automaton_of first) (lookups_of first) (lookups_of it) first.progress it.progress (S.remaining first.source.now) (S.remaining it.source.now)
  pub counted : (p : Patterns) → G.is_of (automaton_of first) p → HasGiven G first p [] → (more : List ℕ) → MayFollow it.progress.ended more
      → (ms : List Occurrence) → AreFinds p (plain_search (read.bytes ++ more)) None ms → Uncounted p (read.bytes ++ more) ms it.progress.from count

pub going_first : {A R : Type 0} (G : Ghosts A) (S : SourceGhosts R) (it : StreamChunkIter A R) → it.progress.refused ≡ false → Going G S it it 0
going_first G S it unrefused = record {
  same = refl;
  limit = refl;
  refused = unrefused;
  stays = λ e. e;
  few = omega arith;
  read = record { bytes = []; read = Consumes-nil (S.remaining it.source.now); closed = λ e. refl; is_after = λ p given of a. subst (HasGiven G it p) (sym (append-nil given)) a };
  counted = λ p of a more follows ms finds.
      let first : it.progress.from ≡ 0 = omega (arith, a.from_reported, a.reported_walked, a.walked_read, a.count) in
      subst (λ (from : ℕ). Uncounted p more ms from 0) (sym first) (record { last = None; rest = ms; finds = finds; are_all = omega arith });
}

-- it may be called again
pub goes_on : {A R : Type 0} (G : Ghosts A) (S : SourceGhosts R) (first it : StreamChunkIter A R) (count : ℕ) → Going G S first it count → IsFresh G first → CanGoOn G it
goes_on {A = A} G S first it count going (p, of, a) = (
  p,
  going.read.bytes,
  subst (λ (automaton : A). G.is_of automaton p) (sym going.same) of,
  subst (λ (automaton : A). IsAfter G automaton p (lookups_of it) it.progress going.read.bytes) (sym going.same) (going.read.is_after p [] of a),
)

-- one call more
module _ {A R : Type 0} (G : Ghosts A) (S : SourceGhosts R) (are : (automaton : A) (p : Patterns) → G.is_of automaton p → G.lengths automaton ≡ map length p.words) (first it it' : StreamChunkIter A R)
    (answer : Option (Result StreamChunk (Bor StreamError))) (count : ℕ) (going : Going G S first it count) (h : Lends G S it it' answer) where
  abbrev advances : Advances G (automaton_of first) (lookups_of it) (lookups_of it') it.progress it'.progress (S.remaining it.source.now) (S.remaining it'.source.now) (told_lent answer)
  advances = subst (λ (automaton : A). Advances G automaton (lookups_of it) (lookups_of it') it.progress it'.progress (S.remaining it.source.now) (S.remaining it'.source.now) (told_lent answer)) going.same h.advances

  abbrev bytes : List ℕ
  bytes = going.read.bytes ++ advances.reads.bytes

  abbrev IsOf : Patterns → Type 0
  IsOf = G.is_of (automaton_of first)

  abbrev Begins : Patterns → Type 0
  Begins p = HasGiven G first p []

  abbrev TellsThis : Patterns → Option (Result StreamPiece StreamError) → Type 0
  TellsThis p told = AnswerTells p it.progress it'.progress bytes told

  -- what both calls read
  pub read_then : ReadsOn G (automaton_of first) (lookups_of first) (lookups_of it') first.progress it'.progress (S.remaining first.source.now) (S.remaining it'.source.now)
  read_then = record {
    bytes = bytes;
    read = Consumes-trans (S.remaining first.source.now) (S.remaining it.source.now) (S.remaining it'.source.now) going.read.bytes advances.reads.bytes going.read.read advances.reads.read;
    closed = λ e. ap (λ (xs : List ℕ). xs ++ advances.reads.bytes) (going.read.closed e) ∙ advances.reads.closed (going.stays e);
    is_after = λ p given of is. subst (IsAfter G (automaton_of first) p (lookups_of it') it'.progress) (append_assoc given going.read.bytes advances.reads.bytes)
        (advances.reads.is_after p (given ++ going.read.bytes) of (going.read.is_after p given of is));
  }

  -- what it tells
  told : (p : Patterns) → IsOf p → Begins p → TellsThis p (told_lent answer)
  told p of a = advances.tells p going.read.bytes of (going.read.is_after p [] of a)

  -- the finds that were left before the call, of all that was read with it
  still : (p : Patterns) → IsOf p → Begins p → (more : List ℕ) → MayFollow it'.progress.ended more → (ms : List Occurrence)
      → AreFinds p (plain_search (bytes ++ more)) None ms → Uncounted p (bytes ++ more) ms it.progress.from count
  still p of a more follows ms finds =
      let same = append_assoc going.read.bytes advances.reads.bytes more in
      subst (λ (bytes : List ℕ). Uncounted p bytes ms it.progress.from count) (sym same)
      (going.counted p of a (advances.reads.bytes ++ more) (may_join it.progress.ended it'.progress.ended advances.reads.bytes more advances.reads.closed h.call.stays_ended follows) ms
      (subst (λ (bytes : List ℕ). AreFinds p (plain_search bytes) None ms) same finds))

  -- less is left to report
  below_limit : (p : Patterns) → IsOf p → Begins p → it'.progress.reported ≤ first.progress.limit
  below_limit p of a = let now = advances.reads.is_after p going.read.bytes of (going.read.is_after p [] of a) in omega (arith, now.reported_walked, now.walked_read, now.limited, h.call.limit, going.limit)

  pub smaller : IsFresh G first → it.progress.reported + 1 ≤ it'.progress.reported → first.progress.limit - it'.progress.reported < first.progress.limit - it.progress.reported
  smaller (p, of, a) more = omega (arith, more, below_limit p of a)

  -- and no more is counted than was reported
  pub small : IsFresh G first → it.progress.reported + 1 ≤ it'.progress.reported → count + 1 < 2 ^ 64
  small (p, of, a) more = omega (arith, more, below_limit p of a, going.few, a.bounded)

  unrefused : tells_limit (told_lent answer) ≡ false → it'.progress.refused ≡ false
  unrefused is = h.call.refused ∙ ap (λ (b : Bool). it.progress.refused || b) is ∙ ap (λ (b : Bool). b || false) going.refused

  module _ (lent : Bor (List ℕ)) (is : answer ≡ Some (Ok (NonMatch lent))) where
    plain : (p : Patterns) → IsOf p → Begins p → TellsPlain p it.progress it'.progress bytes
    plain p of a = subst (λ (r : Option (Result StreamChunk (Bor StreamError))). TellsThis p (told_lent r)) is (told p of a)

    pub plain_more : IsFresh G first → it.progress.reported + 1 ≤ it'.progress.reported
    plain_more (p, of, a) = (plain p of a).some

    pub go_plain : IsFresh G first → Going G S first it' count
    unfolding read_then
    go_plain fresh = record {
      same = h.call.same ∙ going.same;
      limit = h.call.limit ∙ going.limit;
      refused = unrefused (ap (λ (r : Option (Result StreamChunk (Bor StreamError))). tells_limit (told_lent r)) is);
      stays = λ e. h.call.stays_ended (going.stays e);
      few = omega (arith, going.few, plain_more fresh);
      read = read_then;
      counted = λ p of a more follows ms finds. subst (λ (from : ℕ). Uncounted p (bytes ++ more) ms from count) (sym (plain p of a).from) (still p of a more follows ms finds);
    }

  module _ (lent : Bor (List ℕ)) (m : Bor Occurrence) (is : answer ≡ Some (Ok (Match lent m))) where
    matched : (p : Patterns) → IsOf p → Begins p → TellsMatch p it.progress it'.progress bytes m.now
    matched p of a = subst (λ (r : Option (Result StreamChunk (Bor StreamError))). TellsThis p (told_lent r)) is (told p of a)

    pub match_more : IsFresh G first → it.progress.reported + 1 ≤ it'.progress.reported
    match_more (p, of, a) =
        let tells = matched p of a in
        let some = occurs_some p (G.lengths (automaton_of first)) (are (automaton_of first) p of) m.now (tells.answer [] (may_none it'.progress.ended)).0 a.no_empty in
        omega (arith, some, tells.starts, tells.reported)

    pub go_match : IsFresh G first → Going G S first it' (count + 1)
    unfolding read_then
    go_match fresh = record {
      same = h.call.same ∙ going.same;
      limit = h.call.limit ∙ going.limit;
      refused = unrefused (ap (λ (r : Option (Result StreamChunk (Bor StreamError))). tells_limit (told_lent r)) is);
      stays = λ e. h.call.stays_ended (going.stays e);
      few = omega (arith, going.few, match_more fresh);
      read = read_then;
      counted = λ p of a more follows ms finds.
          let tells = matched p of a in
          subst (λ (from : ℕ). Uncounted p (bytes ++ more) ms from (count + 1)) (sym tells.from)
          (counted_match p (G.lengths (automaton_of first)) (are (automaton_of first) p of) a.no_empty (bytes ++ more) ms it.progress.from count m.now (tells.answer more follows) (still p of a more follows ms finds));
    }

  -- an error says nothing of the count
  pub counts_error : (error : StreamError) → CountsAll G S first it' (Err error)
  counts_error error = record { bytes = read_then.bytes; read = read_then.read; ended = tt; counts = tt }

  -- at the end all are counted
  module _ (is : answer ≡ None) where
    ended_tells : (p : Patterns) → IsOf p → Begins p → TellsEnd p it.progress it'.progress bytes
    ended_tells p of a = subst (λ (r : Option (Result StreamChunk (Bor StreamError))). TellsThis p (told_lent r)) is (told p of a)

    is_end : (p : Patterns) → IsOf p → Begins p → it'.progress.ended ≡ true
    is_end p of a = elim (ended_tells p of a).over [ inl over ↦ over.0 | inr refused ↦ let never = going.refused in cc ]

    is_all : (p : Patterns) → IsOf p → Begins p → (ms : List Occurrence) → AreFinds p (plain_search bytes) None ms → count ≡ length ms
    is_all p of a ms finds =
        let tells = ended_tells p of a in
        let none = subst (λ (from : ℕ). IsAnswer p (search_from from bytes) None) tells.still.from (tells.none (inr (is_end p of a))) in
        let left = still p of a [] (may_none it'.progress.ended) ms (subst (λ (xs : List ℕ). AreFinds p (plain_search xs) None ms) (sym (append-nil bytes)) finds) in
        counted_none p (G.lengths (automaton_of first)) (are (automaton_of first) p of) a.no_empty bytes ms it.progress.from count none (subst (λ (xs : List ℕ). Uncounted p xs ms it.progress.from count) (append-nil bytes) left)

    pub counts_all : IsFresh G first → CountsAll G S first it' (Ok count)
    unfolding read_then
    counts_all (p, of, a) = record { bytes = read_then.bytes; read = read_then.read; ended = is_end p of a; counts = λ p of a ms finds. is_all p of a ms finds }
