-- How far a replacement of a stream has come, from one chunk told to the next.
use Rattle.std.proofs.Common.{◌≡◌, ℕ, ◌+◌, ◌-◌, ◌<◌, ◌≤◌, Bool, true, false, List, [], ◌++◌, length, drop, take, map, refl, sym, ◌∙◌, ap, subst, arith, append_assoc, append-nil, inl, inr}
use Rattle.std.specs.Prelude.{IsErrAnd, Option, Some, None, Result, Ok, Err, slice_range}
use Rattle.std.specs.Io.KnownBytes.{Appends, Consumes, Keeps}
use Rattle.std.proofs.KnownBytes.{Appends-kept, Appends-nil, Appends-trans, Consumes-nil, Consumes-trans}
use Rattle.std.proofs.lemmas.List.{take-append-drop}
use Rattle.aho_core.specs.declared.error.stream.StreamError.{StreamError}
use Rattle.aho_core.specs.declared.error.stream.StreamError.TheVariants.{Match as Refused, Read, Write, WriteZero, Memory, PositionLimit}
use Rattle.aho_core.specs.Answer.{IsAnswer}
use Rattle.aho_core.specs.Iteration.{AreFinds}
use Rattle.aho_core.specs.Occurrence.{Occurrence}
use Rattle.aho_core.specs.Patterns.{Patterns}
use Rattle.aho_core.specs.Search.{plain_search}
use Rattle.aho_devices.specs.Counts.{AppendsBeginning, counted}
use Rattle.aho_devices.specs.Errors.{CountsErrors}
use Rattle.aho_devices.specs.Refusals.{IsFillRefusal, IsWriteRefusal, is_read_fault, is_write_fault, is_write_of_nothing}
use Rattle.aho_devices.specs.declared.device.Sink.{Ghosts as SinkGhosts}
use Rattle.aho_devices.specs.declared.device.Source.{Ghosts as SourceGhosts}
use Rattle.aho_automaton.specs.declared.automaton.Automaton.{Ghosts}
use Rattle.aho_stream.specs.After.{IsAfter, MayFollow, kept_for, search_from}
use Rattle.aho_stream.specs.Chunks.{Advances, ReadsOn, AnswerTells, TellsEnd, TellsError, TellsFault, ends_between}
use Rattle.aho_stream.specs.Refills.{is_limit}
use Rattle.aho_stream.specs.Replacing.{BeginsReplacing, GaveAsMany, IsMakingRefusal, LeavesReplaced, MayBe, ReplacesStream, ReplacesStreamUpTo, SourceGave, chunk_bytes, piece_for}
use Rattle.aho_stream.specs.declared.progress.StreamProgress.{StreamProgress}
use Rattle.aho_stream.specs.declared.progress.StreamPiece.{StreamPiece}
use Rattle.aho_stream.specs.declared.progress.StreamPiece.TheVariants.{NonMatch, Match}
use Rattle.aho_stream.proofs.GivenBytes.{part_stays}
use Rattle.aho_stream.proofs.NextMatches.{MayFollow-nothing}
use Rattle.aho_stream.proofs.PatternLengths.{occurs_some}
use Rattle.aho_stream.proofs.StreamFinds.{Left, left_begins, left_first, left_match, left_none, left_plain, left_up_to}

-- the error of a call that is passed on
pub err_given : {X E : Type 0} (result : Result X E) (error : E) → IsErrAnd result (λ e. e ≡ error) → result ≡ Err error
err_given (Ok x) error is = absurd is
err_given (Err e) error is = ap Err is

-- each error of a call leaves all as it was
pub fault_told : (p : Patterns) (s s' : StreamProgress) (given : List ℕ) (error : StreamError) → TellsError p s s' given error → TellsFault s s' given
fault_told p s s' given (Refused cause) tells = absurd tells
fault_told p s s' given (Read fault) tells = tells
fault_told p s s' given (Write fault) tells = absurd tells
fault_told p s s' given WriteZero tells = absurd tells
fault_told p s s' given Memory tells = absurd tells
fault_told p s s' given PositionLimit tells = tells.fault

-- an error that is told is one that a fill can give
pub fills_told : (p : Patterns) (s s' : StreamProgress) (given : List ℕ) (error : StreamError) → TellsError p s s' given error → IsFillRefusal error
fills_told p s s' given (Refused cause) tells = absurd tells
fills_told p s s' given (Read fault) tells = tt
fills_told p s s' given (Write fault) tells = absurd tells
fills_told p s s' given WriteZero tells = absurd tells
fills_told p s s' given Memory tells = absurd tells
fills_told p s s' given PositionLimit tells = tt

-- the limit is answered where as many bytes were given
pub limit_told : (p : Patterns) (s s' : StreamProgress) (given : List ℕ) (error : StreamError) → TellsError p s s' given error → is_limit {A = Unit {0}} (Err error) ≡ true → length given ≡ s.limit
limit_told p s s' given (Refused cause) tells met = absurd tells
limit_told p s s' given (Read fault) tells met = cc
limit_told p s s' given (Write fault) tells met = absurd tells
limit_told p s s' given WriteZero tells met = absurd tells
limit_told p s s' given Memory tells met = absurd tells
limit_told p s s' given PositionLimit tells met = tells.reached

-- it is remembered
pub refused_told : (p : Patterns) (s s' : StreamProgress) (given : List ℕ) (error : StreamError) → TellsError p s s' given error → is_limit {A = Unit {0}} (Err error) ≡ true → s'.refused ≡ true
refused_told p s s' given (Refused cause) tells met = absurd tells
refused_told p s s' given (Read fault) tells met = cc
refused_told p s s' given (Write fault) tells met = absurd tells
refused_told p s s' given WriteZero tells met = absurd tells
refused_told p s s' given Memory tells met = absurd tells
refused_told p s s' given PositionLimit tells met = tells.refused

-- the end of a stream that was not refused
pub all_told : (p : Patterns) (s s' : StreamProgress) (given : List ℕ) → s.refused ≡ false → TellsEnd p s s' given → (s'.ended ≡ true) × (s'.reported ≡ length given)
all_told p s s' given below tells = elim tells.over [ inl all ↦ all | inr refused ↦ cc ]

-- a count that rises once, where the end is seen
count_on : (before after : Bool) (reads : ℕ) → (before ≡ true → after ≡ true) → counted (ends_between before after) (counted before reads) ≡ counted after reads
count_on true true reads stays = refl
count_on true false reads stays = let clash : false ≡ true = stays refl in cc
count_on false true reads stays = refl
count_on false false reads stays = refl

-- what may follow later may follow now, behind what was given in between
pub may_follow : (before after : Bool) (bytes more : List ℕ) → (before ≡ true → bytes ≡ []) → (before ≡ true → after ≡ true) → MayFollow after more → MayFollow before (bytes ++ more)
may_follow false after bytes more closed stays follows = tt
may_follow true true bytes more closed stays follows = ap (λ (xs : List ℕ). xs ++ more) (closed refl) ∙ follows
may_follow true false bytes more closed stays follows = let clash : false ≡ true = stays refl in cc

-- a source gave more
pub gives_on : {R : Type 0} (S : SourceGhosts R) (first source source' : R) (given bytes : List ℕ) (before after : Bool) → SourceGave S first source given before
    → Consumes (S.remaining source) (S.remaining source') bytes → S.empty_reads source' ≡ counted (ends_between before after) (S.empty_reads source)
    → (before ≡ true → after ≡ true) → SourceGave S first source' (given ++ bytes) after
gives_on S first source source' given bytes before after gives read counts stays = record {
  bytes = Consumes-trans (S.remaining first) (S.remaining source) (S.remaining source') given bytes gives.bytes read;
  end = counts ∙ ap (counted (ends_between before after)) gives.end ∙ count_on before after (S.empty_reads first) stays;
}

-- nothing was given yet
pub gives_nothing : {R : Type 0} (S : SourceGhosts R) (source : R) (ended : Bool) → ended ≡ false → SourceGave S source source [] ended
gives_nothing S source ended not_ended = record { bytes = Consumes-nil (S.remaining source); end = ap (λ (b : Bool). counted b (S.empty_reads source)) (sym not_ended) }

-- what a stream may be later it may be now
pub might_be : (given bytes all : List ℕ) (before after : Bool) → (before ≡ true → bytes ≡ []) → (before ≡ true → after ≡ true) → MayBe (given ++ bytes) after all → MayBe given before all
might_be given bytes all before after closed stays may = (
  bytes ++ may.0,
  may.1 ∙ append_assoc given bytes may.0,
  may_follow before after bytes may.0 closed stays may.2,
)

-- each chunk leaves less room under the limit
module _ {A : Type 0} (G : Ghosts A) (automaton : A) (p : Patterns) (lookups : ℕ) (s s' : StreamProgress) (given : List ℕ) where
  some_told : (piece : StreamPiece) → G.lengths automaton ≡ map length p.words → IsAfter G automaton p lookups s' given → AnswerTells p s s' given (Some (Ok piece)) → s.reported + 1 ≤ s'.reported
  some_told NonMatch are after tells = tells.some
  some_told (Match m) are after tells =
      omega (arith, occurs_some p (G.lengths automaton) are m ((tells.answer [] (MayFollow-nothing s'.ended)).0) after.no_empty, tells.starts, tells.reported)

  pub less_left : (piece : StreamPiece) → G.lengths automaton ≡ map length p.words → IsAfter G automaton p lookups s' given → AnswerTells p s s' given (Some (Ok piece))
      → s'.limit ≡ s.limit → s'.limit - s'.reported < s.limit - s.reported
  less_left piece are after tells same = omega (arith, some_told piece are after tells, after.reported_walked, after.walked_read, after.limited, same)

-- nothing was given and nothing was written
pub begins_nothing : {R W : Type 0} (S : SourceGhosts R) (K : SinkGhosts W) (AreSearched : Patterns → Type 0) (pieces : List (List ℕ)) (source : R) (sink : W)
    → BeginsReplacing S K AreSearched pieces source source sink sink
begins_nothing S K AreSearched pieces source sink = record {
  given = [];
  ended = false;
  gives = gives_nothing S source false refl;
  written = [];
  writes = Appends-nil (K.taken sink);
  beginning = λ p bytes ms of may finds. refl;
}

-- what is left, by how it ended
module _ {R W : Type 0} (S : SourceGhosts R) (K : SinkGhosts W) (AreSearched : Patterns → Type 0) (pieces : List (List ℕ)) (source source' : R) (sink sink' : W) (most : ℕ) where
  abbrev Leaves : Result (Unit {0}) StreamError → Type 0
  Leaves = LeavesReplaced S K AreSearched pieces source source' sink sink' most

  -- at the end
  pub leaves_whole : ReplacesStream S K AreSearched pieces source source' sink sink' → Leaves (Ok tt)
  leaves_whole whole = record { replaced = whole; begun = tt; near = tt; limit = λ met. cc }

  -- where the reading stopped
  pub leaves_most : (error : StreamError) → BeginsReplacing S K AreSearched pieces source source' sink sink' → ReplacesStreamUpTo S K AreSearched pieces source source' sink sink'
      → (is_limit {A = Unit {0}} (Err error) ≡ true → GaveAsMany S source source' most) → Leaves (Err error)
  leaves_most error some near limit = record { replaced = tt; begun = some; near = λ fills. near; limit = limit }

  -- where a write was refused
  pub leaves_some : (error : StreamError) → IsWriteRefusal error → BeginsReplacing S K AreSearched pieces source source' sink sink' → Leaves (Err error)
  leaves_some (Refused cause) only some = absurd only
  leaves_some (Read fault) only some = absurd only
  leaves_some (Write fault) only some = record { replaced = tt; begun = some; near = λ fills. absurd fills; limit = λ met. cc }
  leaves_some WriteZero only some = record { replaced = tt; begun = some; near = λ fills. absurd fills; limit = λ met. cc }
  leaves_some Memory only some = absurd only
  leaves_some PositionLimit only some = absurd only

-- nothing is left where it was refused before it was begun
module _ {R W : Type 0} (S : SourceGhosts R) (K : SinkGhosts W) (source : R) (sink : W) where
  pub leaves_none : (AreSearched : Patterns → Type 0) (pieces : List (List ℕ)) (most : ℕ) (error : StreamError) → IsMakingRefusal error → LeavesReplaced S K AreSearched pieces source source sink sink most (Err error)
  leaves_none AreSearched pieces most (Refused cause) only = record { replaced = tt; begun = begins_nothing S K AreSearched pieces source sink; near = λ fills. absurd fills; limit = λ met. cc }
  leaves_none AreSearched pieces most (Read fault) only = absurd only
  leaves_none AreSearched pieces most (Write fault) only = absurd only
  leaves_none AreSearched pieces most WriteZero only = absurd only
  leaves_none AreSearched pieces most Memory only = record { replaced = tt; begun = begins_nothing S K AreSearched pieces source sink; near = λ fills. absurd fills; limit = λ met. cc }
  leaves_none AreSearched pieces most PositionLimit only = absurd only

  pub counts_none : (error : StreamError) → IsMakingRefusal error → CountsErrors {A = Unit {0}} S K source source sink sink (Err error)
  counts_none (Refused cause) only = record { read_failed = refl; write_failed = refl; took_nothing = refl }
  counts_none (Read fault) only = absurd only
  counts_none (Write fault) only = absurd only
  counts_none WriteZero only = absurd only
  counts_none Memory only = record { read_failed = refl; write_failed = refl; took_nothing = refl }
  counts_none PositionLimit only = absurd only

-- which calls an error tells of
module _ {R W : Type 0} (S : SourceGhosts R) (K : SinkGhosts W) (source source' : R) (sink sink' : W) where
  -- one of a write
  pub counts_write : (error : StreamError) → IsWriteRefusal error → S.failures source' ≡ S.failures source → K.failures sink' ≡ counted (is_write_fault {A = Unit {0}} (Err error)) (K.failures sink)
      → K.empty_writes sink' ≡ counted (is_write_of_nothing {A = Unit {0}} (Err error)) (K.empty_writes sink) → CountsErrors {A = Unit {0}} S K source source' sink sink' (Err error)
  counts_write (Refused cause) only reads writes nothing = absurd only
  counts_write (Read fault) only reads writes nothing = absurd only
  counts_write (Write fault) only reads writes nothing = record { read_failed = reads; write_failed = writes; took_nothing = nothing }
  counts_write WriteZero only reads writes nothing = record { read_failed = reads; write_failed = writes; took_nothing = nothing }
  counts_write Memory only reads writes nothing = absurd only
  counts_write PositionLimit only reads writes nothing = absurd only

  -- one of a read
  pub counts_read : (error : StreamError) → IsFillRefusal error → S.failures source' ≡ counted (is_read_fault {A = Unit {0}} (Err error)) (S.failures source) → K.failures sink' ≡ K.failures sink
      → K.empty_writes sink' ≡ K.empty_writes sink → CountsErrors {A = Unit {0}} S K source source' sink sink' (Err error)
  counts_read (Refused cause) only reads writes nothing = absurd only
  counts_read (Read fault) only reads writes nothing = record { read_failed = reads; write_failed = writes; took_nothing = nothing }
  counts_read (Write fault) only reads writes nothing = absurd only
  counts_read WriteZero only reads writes nothing = absurd only
  counts_read Memory only reads writes nothing = absurd only
  counts_read PositionLimit only reads writes nothing = record { read_failed = reads; write_failed = writes; took_nothing = nothing }

module _ {A R W : Type 0} (G : Ghosts A) (S : SourceGhosts R) (K : SinkGhosts W) (automaton : A) (pieces : List (List ℕ)) (first : R) (begun : W) where
  abbrev IsOf : Patterns → Type 0
  IsOf = G.is_of automaton

  abbrev lengths : List ℕ
  lengths = G.lengths automaton

  abbrev pub After : Patterns → ℕ → StreamProgress → List ℕ → Type 0
  After = IsAfter G automaton

  -- so much was given and written, and what is left goes on to the whole
  pub record Going (lookups : ℕ) (s : StreamProgress) (source : R) (sink : W) : Type 0 where
    pub given : List ℕ
    pub written : List ℕ
    pub gives : SourceGave S first source given s.ended
    pub writes : Appends (K.taken begun) (K.taken sink) written
    pub after : (p : Patterns) → IsOf p → After p lookups s given
    pub rest : (p : Patterns) (bytes : List ℕ) (ms : List Occurrence) → IsOf p → MayBe given s.ended bytes → AreFinds p (plain_search bytes) None ms
        → Left p (piece_for pieces) bytes ms s.from s.reported written

  pub going_first : (lookups : ℕ) (s : StreamProgress) → s.ended ≡ false → s.from ≡ 0 → s.reported ≡ 0
      → ((p : Patterns) → IsOf p → After p lookups s []) → Going lookups s first begun
  going_first lookups s not_ended from reported after = record {
    given = [];
    written = [];
    gives = gives_nothing S first s.ended not_ended;
    writes = Appends-nil (K.taken begun);
    after = after;
    rest = λ p bytes ms of may finds.
        subst (λ (k : ℕ). Left p (piece_for pieces) bytes ms k s.reported []) (sym from)
        (subst (λ (k : ℕ). Left p (piece_for pieces) bytes ms 0 k []) (sym reported)
        (left_first p (piece_for pieces) bytes ms finds));
  }

  -- the sink was flushed
  pub going_kept : (lookups : ℕ) (s : StreamProgress) (source : R) (sink sink' : W) → Going lookups s source sink → Keeps (K.taken sink) (K.taken sink') → Going lookups s source sink'
  going_kept lookups s source sink sink' going kept = record {
    given = going.given;
    written = going.written;
    gives = going.gives;
    writes = Appends-kept (K.taken begun) (K.taken sink) (K.taken sink') going.written going.writes kept;
    after = going.after;
    rest = going.rest;
  }

  -- some bytes were read, and nothing was told of them: a beginning was written
  pub begins_ahead : ((p : Patterns) → IsOf p → lengths ≡ map length p.words) → (lookups lookups' : ℕ) (s s' : StreamProgress) (source source' : R) (sink : W)
      → Going lookups s source sink → ReadsOn G automaton lookups lookups' s s' (S.remaining source) (S.remaining source')
      → S.empty_reads source' ≡ counted (ends_between s.ended s'.ended) (S.empty_reads source) → (s.ended ≡ true → s'.ended ≡ true)
      → BeginsReplacing S K IsOf pieces first source' begun sink
  begins_ahead are lookups lookups' s s' source source' sink going reads counts stays = record {
    given = going.given ++ reads.bytes;
    ended = s'.ended;
    gives = gives_on S first source source' going.given reads.bytes s.ended s'.ended going.gives reads.read counts stays;
    written = going.written;
    writes = going.writes;
    beginning = λ p bytes ms of may finds.
        left_begins p (piece_for pieces) bytes ms lengths (are p of) ((going.after p of).no_empty) s.from s.reported going.written []
        (subst (λ (xs : List ℕ). Left p (piece_for pieces) bytes ms s.from s.reported xs) (sym (append-nil going.written))
        (going.rest p bytes ms of (might_be going.given reads.bytes bytes s.ended s'.ended reads.closed stays may) finds));
  }

  module _ (are : (p : Patterns) → IsOf p → lengths ≡ map length p.words) (lookups lookups' : ℕ) (s s' : StreamProgress) (source source' : R) (sink : W) (answer : Option (Result StreamPiece StreamError))
      (going : Going lookups s source sink) (advance : Advances G automaton lookups lookups' s s' (S.remaining source) (S.remaining source') answer)
      (counts : S.empty_reads source' ≡ counted (ends_between s.ended s'.ended) (S.empty_reads source)) (stays : s.ended ≡ true → s'.ended ≡ true) where
    abbrev pub given : List ℕ
    given = going.given ++ advance.reads.bytes

    abbrev pub now_after : (p : Patterns) → IsOf p → After p lookups' s' given
    now_after p of = advance.reads.is_after p going.given of (going.after p of)

    pub now_gives : SourceGave S first source' given s'.ended
    now_gives = gives_on S first source source' going.given advance.reads.bytes s.ended s'.ended going.gives advance.reads.read counts stays

    module _ (p : Patterns) (of : IsOf p) (bytes : List ℕ) (ms : List Occurrence) (may : MayBe given s'.ended bytes) (finds : AreFinds p (plain_search bytes) None ms) where
      abbrev IsLeft : ℕ → ℕ → List ℕ → Type 0
      IsLeft = Left p (piece_for pieces) bytes ms

      was_left : IsLeft s.from s.reported going.written
      was_left = going.rest p bytes ms of (might_be going.given advance.reads.bytes bytes s.ended s'.ended advance.reads.closed stays may) finds

      left_chunk : (piece : StreamPiece) → AnswerTells p s s' given (Some (Ok piece)) → IsLeft s'.from s'.reported (going.written ++ chunk_bytes piece (slice_range given s'.told s'.reported) pieces)
      left_chunk NonMatch tells =
          let clear = λ (m : Occurrence) (answer : IsAnswer p (search_from s.from bytes) (Some m)).
          tells.clear may.0 m may.2 (subst (λ (xs : List ℕ). IsAnswer p (search_from s.from xs) (Some m)) may.1 answer) in
          let told = left_plain p (piece_for pieces) bytes ms lengths (are p of) ((now_after p of).no_empty) s.from s.reported s'.reported (omega (arith, tells.some)) clear going.written was_left in
          let part : slice_range bytes s.reported s'.reported ≡ slice_range given s'.told s'.reported =
          ap (λ (xs : List ℕ). slice_range xs s.reported s'.reported) may.1
          ∙ part_stays given may.0 s.reported s'.reported (omega (arith, tells.some)) tells.read
          ∙ ap (λ (k : ℕ). slice_range given k s'.reported) (sym tells.told) in
          subst (λ (k : ℕ). IsLeft k s'.reported (going.written ++ slice_range given s'.told s'.reported)) (sym tells.from)
          (subst (λ (xs : List ℕ). IsLeft s.from s'.reported (going.written ++ xs)) part told)
      left_chunk (Match m) tells =
          let answer : IsAnswer p (search_from s.from bytes) (Some m) = subst (λ (xs : List ℕ). IsAnswer p (search_from s.from xs) (Some m)) (sym may.1) (tells.answer may.0 may.2) in
          let told = left_match p (piece_for pieces) bytes ms lengths (are p of) ((now_after p of).no_empty) s.from s.reported m answer tells.starts going.written was_left in
          subst (λ (k : ℕ). IsLeft k s'.reported (going.written ++ piece_for pieces m)) (sym tells.from)
          (subst (λ (k : ℕ). IsLeft m.end k (going.written ++ piece_for pieces m)) (sym tells.reported) told)

    module _ (piece : StreamPiece) (is : answer ≡ Some (Ok piece)) where
      abbrev pub chunk : List ℕ
      chunk = chunk_bytes piece (slice_range given s'.told s'.reported) pieces

      tells_piece : (p : Patterns) → IsOf p → AnswerTells p s s' given (Some (Ok piece))
      tells_piece p of = subst (AnswerTells p s s' given) is (advance.tells p going.given of (going.after p of))

      -- a chunk was written
      pub going_on : (sink' : W) → Appends (K.taken sink) (K.taken sink') chunk → Going lookups' s' source' sink'
      going_on sink' wrote = record {
        given = given;
        written = going.written ++ chunk;
        gives = now_gives;
        writes = Appends-trans (K.taken begun) (K.taken sink) (K.taken sink') going.written chunk going.writes wrote;
        after = now_after;
        rest = λ p bytes ms of may finds. left_chunk p of bytes ms may finds piece (tells_piece p of);
      }

      -- or a beginning of it
      pub begins_chunk : (sink' : W) → AppendsBeginning (K.taken sink) (K.taken sink') chunk → BeginsReplacing S K IsOf pieces first source' begun sink'
      begins_chunk sink' (count, within, wrote) = record {
        given = given;
        ended = s'.ended;
        gives = now_gives;
        written = going.written ++ take count chunk;
        writes = Appends-trans (K.taken begun) (K.taken sink) (K.taken sink') going.written (take count chunk) going.writes wrote;
        beginning = λ p bytes ms of may finds.
            left_begins p (piece_for pieces) bytes ms lengths (are p of) ((now_after p of).no_empty) s'.from s'.reported (going.written ++ take count chunk) (drop count chunk)
            (subst (λ (xs : List ℕ). IsLeft p of bytes ms may finds s'.from s'.reported xs)
            (ap (λ (xs : List ℕ). going.written ++ xs) (sym (take-append-drop count chunk)) ∙ sym (append_assoc going.written (take count chunk) (drop count chunk)))
            (left_chunk p of bytes ms may finds piece (tells_piece p of)));
      }

      pub less_room : (p : Patterns) → IsOf p → s'.limit ≡ s.limit → s'.limit - s'.reported < s.limit - s.reported
      less_room p of same = less_left G automaton p lookups' s s' given piece (are p of) (now_after p of) (tells_piece p of) same

    -- nothing was told, and nothing was written
    module _ (from_same : s'.from ≡ s.from) (reported_same : s'.reported ≡ s.reported) where
      still_left : (p : Patterns) (of : IsOf p) (bytes : List ℕ) (ms : List Occurrence) (may : MayBe given s'.ended bytes) (finds : AreFinds p (plain_search bytes) None ms)
          → IsLeft p of bytes ms may finds s'.from s'.reported going.written
      still_left p of bytes ms may finds =
          subst (λ (k : ℕ). IsLeft p of bytes ms may finds k s'.reported going.written) (sym from_same)
          (subst (λ (k : ℕ). IsLeft p of bytes ms may finds s.from k going.written) (sym reported_same) (was_left p of bytes ms may finds))

    -- an error was answered
    module _ (error : StreamError) (is : answer ≡ Some (Err error)) (p₀ : Patterns) (of₀ : IsOf p₀) where
      tells_error : TellsError p₀ s s' given error
      tells_error = subst (AnswerTells p₀ s s' given) is (advance.tells p₀ going.given of₀ (going.after p₀ of₀))

      fault : TellsFault s s' given
      fault = fault_told p₀ s s' given error tells_error

      pub error_fills : IsFillRefusal error
      error_fills = fills_told p₀ s s' given error tells_error

      error_left : (p : Patterns) (of : IsOf p) (bytes : List ℕ) (ms : List Occurrence) (may : MayBe given s'.ended bytes) (finds : AreFinds p (plain_search bytes) None ms)
          → IsLeft p of bytes ms may finds s'.from s'.reported going.written
      error_left = still_left fault.still.from fault.still.reported

      -- a beginning was written
      pub begins_still : BeginsReplacing S K IsOf pieces first source' begun sink
      begins_still = record {
        given = given;
        ended = s'.ended;
        gives = now_gives;
        written = going.written;
        writes = going.writes;
        beginning = λ p bytes ms of may finds.
            left_begins p (piece_for pieces) bytes ms lengths (are p of) ((now_after p of).no_empty) s'.from s'.reported going.written []
            (subst (λ (xs : List ℕ). IsLeft p of bytes ms may finds s'.from s'.reported xs) (sym (append-nil going.written)) (error_left p of bytes ms may finds));
      }

      -- up to what was reported
      pub up_to_still : ReplacesStreamUpTo S K IsOf pieces first source' begun sink
      up_to_still =
          let now = now_after p₀ of₀ in
          record {
            given = given;
            ended = s'.ended;
            gives = now_gives;
            place = s'.reported;
            within = omega (arith, now.reported_walked, now.walked_read, now.count);
            near = λ p of. subst (λ (ns : List ℕ). length given ≤ s'.reported + kept_for ns) (are p of) (omega (arith, fault.near, now.least));
            writes = λ p bytes ms of may finds.
                let clear = λ (m : Occurrence) (answer : IsAnswer p (search_from s'.from bytes) (Some m)).
                (now_after p of).clear may.0 m may.2 (subst (λ (xs : List ℕ). IsAnswer p (search_from s'.from xs) (Some m)) may.1 answer) in
                subst (Appends (K.taken begun) (K.taken sink))
                (sym (left_up_to p (piece_for pieces) bytes ms lengths (are p of) ((now_after p of).no_empty) s'.from s'.reported going.written (error_left p of bytes ms may finds) clear))
                going.writes;
          }

      -- at the limit the end was not seen
      not_ended : is_limit {A = Unit {0}} (Err error) ≡ true → s'.ended ≡ false
      not_ended met = ((now_after p₀ of₀).stopped (refused_told p₀ s s' given error tells_error met)).1

      -- and as many bytes were given
      pub limit_met : is_limit {A = Unit {0}} (Err error) ≡ true → GaveAsMany S first source' s.limit
      limit_met met = (given, subst (λ (b : Bool). SourceGave S first source' given b) (not_ended met) now_gives, limit_told p₀ s s' given error tells_error met)

    -- no more was answered
    module _ (is : answer ≡ None) (below : s.refused ≡ false) (p₀ : Patterns) (of₀ : IsOf p₀) where
      tells_end : (p : Patterns) → IsOf p → TellsEnd p s s' given
      tells_end p of = subst (AnswerTells p s s' given) is (advance.tells p going.given of (going.after p of))

      -- the whole was written
      pub replaces_all : ReplacesStream S K IsOf pieces first source' begun sink
      replaces_all =
          let tells = tells_end p₀ of₀ in
          let over = all_told p₀ s s' given below tells in
          record {
            given = given;
            gives = subst (λ (b : Bool). SourceGave S first source' given b) over.0 now_gives;
            writes = λ p ms of finds.
                let may : MayBe given s'.ended given = ([], sym (append-nil given), subst (λ (b : Bool). MayFollow b []) (sym over.0) refl) in
                subst (Appends (K.taken begun) (K.taken sink))
                (sym (left_none p (piece_for pieces) given ms lengths (are p of) ((now_after p of).no_empty) s'.from s'.reported going.written (still_left tells.still.from tells.still.reported p of given ms may finds) ((tells_end p of).none (inr over.0)) (sym over.1)))
                going.writes;
          }
