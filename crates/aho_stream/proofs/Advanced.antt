-- What a call has read, and what its answer tells.
use Rattle.std.proofs.Common.{◌≡◌, ◌≢◌, ℕ, ◌+◌, ◌≤◌, ◌⊎◌, ◌&&◌, ◌||◌, inl, inr, min, Bool, true, false, List, [], ◌∷◌, ◌++◌, length, refl, sym, ◌∙◌, ap, subst, arith, append_assoc, append-nil, length-append}
use Rattle.std.specs.Prelude.{OnErr, Option, Some, None, Result, Ok, Err, is_none, slice_range}
use Rattle.std.proofs.KnownBytes.{Consumes-nil, Consumes-trans}
use Rattle.aho_core.specs.Patterns.{Patterns}
use Rattle.aho_core.specs.declared.error.stream.StreamError.{StreamError}
use Rattle.aho_core.specs.declared.error.stream.StreamError.TheVariants.{Match as Refused, Read as ReadFault, Write, WriteZero, Memory, PositionLimit}
use Rattle.aho_core.specs.Answer.{IsAnswer}
use Rattle.aho_core.specs.Held.{held_after}
use Rattle.aho_core.specs.Laws.{BestAfter, Reads}
use Rattle.aho_core.specs.Occurrence.{Occurrence}
use Rattle.aho_core.specs.declared.search.Anchored.TheVariants.{No}
use Rattle.aho_core.specs.declared.search.MatchKind.{MatchKind}
use Rattle.aho_core.specs.declared.search.MatchKind.TheVariants.{Standard}
use Rattle.aho_devices.specs.Buffer.{Buffered}
use Rattle.aho_devices.specs.Counts.{counted}
use Rattle.aho_devices.specs.Refusals.{IsFillRefusal}
use Rattle.aho_automaton.proofs.Places.{moved_option}
use Rattle.aho_automaton.specs.declared.automaton.Automaton.{Ghosts}
use Rattle.aho_stream.specs.After.{IsAfter, is_settled, search_from, word_of}
use Rattle.aho_stream.specs.Chunks.{Advances, AllTold, DiesAt, FillsOnceTold, FillsNothing, NoneSettled, ReadsOn, AnswerTells, TellsEnd, TellsError, TellsFault, TellsNone, ends_between, tells_error}
use Rattle.aho_stream.specs.Refills.{Refills, is_limit}
use Rattle.aho_stream.specs.declared.progress.StreamProgress.{StreamProgress}
use Rattle.aho_stream.specs.declared.progress.StreamPiece.{StreamPiece}
use Rattle.aho_stream.proofs.Deaths.{lives}
use Rattle.aho_stream.proofs.NextMatches.{answer_sooner, found_at_end}
use Rattle.aho_stream.proofs.PassedOver.{held_apart}
use Rattle.aho_stream.proofs.Walks.{unsettled_none}

-- nothing was told since
pub record IsUntold (s t : StreamProgress) : Type 0 where
  pub told : t.told ≡ s.reported
  pub reported : t.reported ≡ s.reported
  pub from : t.from ≡ s.from
  pub limit : t.limit ≡ s.limit
  pub unrefused : s.refused ≡ false
  pub going : t.refused ≡ false

module _ {S : Type 0} (A : Ghosts S) (automaton : S) where
  abbrev IsOf : Patterns → Type 0
  IsOf = A.is_of automaton

  abbrev After : Patterns → ℕ → StreamProgress → List ℕ → Type 0
  After = IsAfter A automaton

  -- what was read so far, and that all that was settled was told before it was asked for
  pub record ReadsPromptly (lookups lookups' : ℕ) (s s' : StreamProgress) (before after : Option (List ℕ)) : Type 0 where
    pub reads : ReadsOn A automaton lookups lookups' s s' before after
    pub prompt : FillsNothing s s' reads.bytes false ⊎ FillsOnceTold A automaton lookups s s' reads.bytes false

  -- the same, where the source was asked
  pub record ReadsFilling (lookups lookups' : ℕ) (s s' : StreamProgress) (before after : Option (List ℕ)) (failed : Bool) : Type 0 where
    pub reads : ReadsOn A automaton lookups lookups' s s' before after
    pub fills : FillsOnceTold A automaton lookups s s' reads.bytes failed

  -- nothing was read
  pub read_none : (lookups lookups' : ℕ) (s s' : StreamProgress) (before : Option (List ℕ)) → s'.buffer ≡ s.buffer → s'.ended ≡ s.ended
      → ((p : Patterns) (given : List ℕ) → IsOf p → After p lookups s given → After p lookups' s' given) → ReadsPromptly lookups lookups' s s' before before
  read_none lookups lookups' s s' before buffer ended keeps = record {
    reads = record {
      bytes = [];
      read = Consumes-nil before;
      closed = λ e. refl;
      is_after = λ p given of a. subst (After p lookups' s') (sym (append-nil given)) (keeps p given of a);
    };
    prompt = inl (refl, buffer, ended, refl);
  }

  -- a fill stays the last one where the buffer stays
  fills_same : (lookups : ℕ) (s t s' : StreamProgress) (bytes : List ℕ) → s'.buffer ≡ t.buffer → s'.ended ≡ t.ended → FillsOnceTold A automaton lookups s t bytes false → FillsOnceTold A automaton lookups s s' bytes false
  fills_same lookups s t s' bytes buffer ended f = record {
    early = f.early;
    late = f.late;
    are_all = f.are_all;
    told = f.told;
    one_fill = subst (λ (b : Buffered). length b.bytes ≡ min b.least (s.read + length f.early) + length f.late) (sym buffer) f.one_fill;
    one_read = subst (λ (e : Bool). (e || false) ≡ true → f.late ≡ []) (sym ended) f.one_read;
  }

  -- nothing more was read
  pub read_same : (lookups mid lookups' : ℕ) (s t s' : StreamProgress) (before after : Option (List ℕ)) → s'.buffer ≡ t.buffer → s'.ended ≡ t.ended
      → ((p : Patterns) (given : List ℕ) → IsOf p → After p mid t given → After p lookups' s' given) → ReadsPromptly lookups mid s t before after → ReadsPromptly lookups lookups' s s' before after
  read_same lookups mid lookups' s t s' before after buffer ended keeps r = record {
    reads = record {
      bytes = r.reads.bytes;
      read = r.reads.read;
      closed = r.reads.closed;
      is_after = λ p given of a. keeps p (given ++ r.reads.bytes) of (r.reads.is_after p given of a);
    };
    prompt = elim r.prompt [ inl nothing ↦ inl (nothing.0, buffer ∙ nothing.1, ended ∙ nothing.2, nothing.3) | inr fills ↦ inr (fills_same lookups s t s' r.reads.bytes buffer ended fills) ];
  }

  -- how many bytes a roll keeps of those that were given
  kept_of : (p : Patterns) (lookups : ℕ) (s : StreamProgress) (given : List ℕ) → After p lookups s given → min s.buffer.least (length s.buffer.bytes) ≡ min s.buffer.least s.read
  kept_of p lookups s given a =
      let (gone, last) = a.last in
      omega (arith, a.enough, a.count, ap length last, length-append gone s.buffer.bytes)

  -- so many bytes more are none
  no_more : (bytes : List ℕ) (before after : ℕ) → after ≡ before + length bytes → after ≡ before → bytes ≡ []
  no_more [] before after count same = refl
  no_more (x ∷ bytes) before after count same = absurd (omega (arith, count, same))

  -- these bytes were read too, once all was told that was settled by those before
  pub read_more : (lookups mid lookups' : ℕ) (s t s' : StreamProgress) (before between after : Option (List ℕ)) (failed : Bool) (refills : Refills t s' between after)
      → ((s'.ended || failed) ≡ true → s'.read ≡ t.read)
      → s.ended ≡ false → t.reported ≡ s.reported → t.from ≡ s.from → ((p : Patterns) × (given : List ℕ) × IsOf p × After p lookups s given)
      → ((p : Patterns) (given : List ℕ) → IsOf p → After p mid t given → AllTold A automaton p t given)
      → ((p : Patterns) (given : List ℕ) → IsOf p → After p mid t given → After p lookups' s' (given ++ refills.bytes)) → ReadsPromptly lookups mid s t before between → ReadsFilling lookups lookups' s s' before after failed
  read_more lookups mid lookups' s t s' before between after failed refills one_read going reported from some all keeps r = record {
    reads = record {
      bytes = r.reads.bytes ++ refills.bytes;
      read = Consumes-trans before between after r.reads.bytes refills.bytes r.reads.read refills.given;
      closed = λ e. cc;
      is_after = λ p given of a. subst (After p lookups' s') (append_assoc given r.reads.bytes refills.bytes) (keeps p (given ++ r.reads.bytes) of (r.reads.is_after p given of a));
    };
    fills = record {
      early = r.reads.bytes;
      late = refills.bytes;
      are_all = refl;
      told = λ p given of a.
          let now = r.reads.is_after p given of a in
          let told = all p (given ++ r.reads.bytes) of now in
          let bytes = given ++ r.reads.bytes in
          record {
            settled = subst (NoneSettled p bytes) from told.settled;
            near = omega (arith, told.near, reported, a.least, now.least);
            start = let (sid, is_held, is_start) = told.start in (
              sid,
              subst (λ (x : ℕ). A.held automaton p No (slice_range bytes x (length bytes)) sid) from is_held,
              λ starts none. sym reported ∙ is_start starts (subst (λ (x : ℕ). IsAnswer p (search_from x bytes) None) (sym from) none),
            );
          };
      one_fill =
          let (p, given, of, a) = some in
          let now = r.reads.is_after p given of a in
          omega (arith, refills.kept, kept_of p mid t (given ++ r.reads.bytes) now, refills.least, now.count, a.count, length-append given r.reads.bytes);
      one_read = λ last. no_more refills.bytes t.read s'.read refills.count (one_read last);
    };
  }

  -- with what the answer tells of it
  pub advances : (lookups lookups' : ℕ) (s s' : StreamProgress) (before after : Option (List ℕ)) (answer : Option (Result StreamPiece StreamError)) → tells_error answer ≡ false → (r : ReadsPromptly lookups lookups' s s' before after)
      → ((p : Patterns) (given : List ℕ) → IsOf p → After p lookups' s' given → AnswerTells p s s' given answer)
      → Advances A automaton lookups lookups' s s' before after answer
  advances lookups lookups' s s' before after answer no_error r tells = record {
    reads = r.reads;
    tells = λ p given of a. tells p (given ++ r.reads.bytes) of (r.reads.is_after p given of a);
    prompt = subst (λ (failed : Bool). FillsNothing s s' r.reads.bytes failed ⊎ FillsOnceTold A automaton lookups s s' r.reads.bytes failed) (sym no_error) r.prompt;
  }

  pub advances_filling : (lookups lookups' : ℕ) (s s' : StreamProgress) (before after : Option (List ℕ)) (answer : Option (Result StreamPiece StreamError)) → (r : ReadsFilling lookups lookups' s s' before after (tells_error answer))
      → ((p : Patterns) (given : List ℕ) → IsOf p → After p lookups' s' given → AnswerTells p s s' given answer)
      → Advances A automaton lookups lookups' s s' before after answer
  advances_filling lookups lookups' s s' before after answer r tells = record {
    reads = r.reads;
    tells = λ p given of a. tells p (given ++ r.reads.bytes) of (r.reads.is_after p given of a);
    prompt = inr r.fills;
  }

  -- by how far it had come before
  pub advances_from : (lookups mid lookups' : ℕ) (s t s' : StreamProgress) (before after : Option (List ℕ)) (answer : Option (Result StreamPiece StreamError)) → tells_error answer ≡ false → s'.buffer ≡ t.buffer → s'.ended ≡ t.ended
      → (r : ReadsPromptly lookups mid s t before after)
      → ((p : Patterns) (given : List ℕ) → IsOf p → After p mid t given → After p lookups' s' given)
      → ((p : Patterns) (given : List ℕ) → IsOf p → After p mid t given → AnswerTells p s s' given answer)
      → Advances A automaton lookups lookups' s s' before after answer
  unfolding read_same
  advances_from lookups mid lookups' s t s' before after answer no_error buffer ended r keeps tells =
      let same = read_same lookups mid lookups' s t s' before after buffer ended keeps r in
      record {
        reads = same.reads;
        tells = λ p given of a. tells p (given ++ r.reads.bytes) of (r.reads.is_after p given of a);
        prompt = subst (λ (failed : Bool). FillsNothing s s' same.reads.bytes failed ⊎ FillsOnceTold A automaton lookups s s' same.reads.bytes failed) (sym no_error) same.prompt;
      }

-- where all was walked, the best of it is the answer from the end of the last match on
pub all_answered : {S : Type 0} (A : Ghosts S) (automaton : S) (p : Patterns) (lookups : ℕ) (s : StreamProgress) (given : List ℕ) → IsAfter A automaton p lookups s given → s.walked ≡ length given
    → (found : Option Occurrence) → BestAfter p No (word_of s given) found → IsAnswer p (search_from s.from given) (moved_option s.origin found)
all_answered A automaton p lookups s given a all found best =
    let same = append-nil given in
    subst (λ (bytes : List ℕ). IsAnswer p (search_from s.from bytes) (moved_option s.origin found)) same
    (answer_sooner p given [] s.from s.origin (moved_option s.origin found) a.from_origin a.apart
    (subst (λ (bytes : List ℕ). IsAnswer p (search_from s.origin bytes) (moved_option s.origin found)) (sym same) (found_at_end p given s.origin s.walked found a.origin_walked all best)))

-- where all was walked and no match in hand is settled, all was told that these bytes settle
pub all_told : {S : Type 0} (A : Ghosts S) (automaton : S) (p : Patterns) {kind : MatchKind} {lengths : List ℕ} {list : ℕ → List ℕ} {dead : ℕ → Bool} → Reads p kind lengths (A.held automaton p) list dead (A.starts automaton)
    → ((word other : List ℕ) (sid : ℕ) → A.held automaton p No word sid → held_after p No other ≡ held_after p No word → A.held automaton p No other sid)
    → (lookups : ℕ) (s : StreamProgress) (given : List ℕ) → IsAfter A automaton p lookups s given → is_settled kind (dead s.sid) s.in_hand ≡ false → s.walked ≡ s.read → s.read ≤ s.reported + s.buffer.least
    → ((is_none s.in_hand && A.starts automaton s.sid) ≡ true → s.read ≤ s.reported) → AllTold A automaton p s given
all_told A automaton p {kind} {lengths} {list} {dead} laws alike lookups s given a going walked near start = record {
  settled = record {
    none = λ standard. answer_none (unsettled_none kind (dead s.sid) s.in_hand going (laws.kind_is ∙ standard));
    alive = λ leftmost. lives laws given s.from s.origin s.walked s.sid a.from_origin a.apart leftmost a.held_is s.in_hand a.origin_walked going a.best_is all;
  };
  near = omega (arith, near, a.count);
  start = (
    s.sid,
    alike (word_of s given) (slice_range given s.from (length given)) s.sid a.held_is
        (held_apart p given s.from s.origin a.from_origin (omega (arith, a.origin_walked, all)) a.apart ∙ sym (ap (λ (end : ℕ). held_after p No (slice_range given s.origin end)) all)),
    λ is_start none. omega (arith, start (ap (λ (found : Option Occurrence). is_none found && A.starts automaton s.sid) (no_match s.in_hand a.best_is none) ∙ is_start), a.reported_walked, walked, a.count),
  );
}
  where
    all : s.walked ≡ length given
    all = walked ∙ a.count

    answer_none : s.in_hand ≡ None → IsAnswer p (search_from s.from given) None
    answer_none free = all_answered A automaton p lookups s given a all None (subst (BestAfter p No (word_of s given)) free a.best_is)

    no_match : (found : Option Occurrence) → BestAfter p No (word_of s given) found → IsAnswer p (search_from s.from given) None → found ≡ None
    no_match None best none = refl
    no_match (Some m) best none = let is = all_answered A automaton p lookups s given a all (Some m) best in absurd (none _ is.0)

-- nothing that is still to be told occurs in what was given, and all of it was walked
pub end_told : {S : Type 0} (A : Ghosts S) (automaton : S) (p : Patterns) (lookups : ℕ) (s s' : StreamProgress) (given : List ℕ)
    → IsAfter A automaton p lookups s' given → ((p.kind ≡ Standard) ⊎ (s'.ended ≡ true) → s'.in_hand ≡ None) → s'.walked ≡ s'.read → TellsNone s s'
    → ((s'.ended ≡ true) × (s'.read ≤ s'.reported)) ⊎ (s.refused ≡ true) → TellsEnd p s s' given
end_told A automaton p lookups s s' given a free walked still over = record {
  none = λ why. all_answered A automaton p lookups s' given a (walked ∙ a.count) None (subst (BestAfter p No (word_of s' given)) (free why) a.best_is);
  over = elim over [ inl (ended, all) ↦ inl (ended, omega (arith, all, a.reported_walked, a.walked_read, a.count)) | inr refused ↦ inr refused ];
  still = still;
}

-- a refill that was refused tells a fault, and nothing more
pub error_told : (p : Patterns) (s s' : StreamProgress) (given : List ℕ) (error : StreamError) → IsFillRefusal error → TellsFault s s' given
    → (is_limit {A = Unit {0}} (Err error) ≡ true → (length given ≡ s.limit) × (s'.refused ≡ true)) → s.refused ≡ false
    → (is_limit {A = Unit {0}} (Err error) ≡ true → p.kind ≢ Standard → (place : ℕ) → DiesAt p given s'.from place → ⊥) → TellsError p s s' given error
error_told p s s' given (Refused cause) only fault limit first lives = absurd only
error_told p s s' given (ReadFault reason) only fault limit first lives = fault
error_told p s s' given (Write reason) only fault limit first lives = absurd only
error_told p s s' given WriteZero only fault limit first lives = absurd only
error_told p s s' given Memory only fault limit first lives = absurd only
error_told p s s' given PositionLimit only fault limit first lives = record { fault = fault; unsettled = lives refl; reached = (limit refl).0; first = first; refused = (limit refl).1 }

-- the limit is a refusal
pub of_limit : {P : Type 0} (answer : Result (Unit {0}) StreamError) → OnErr answer P → is_limit answer ≡ true → P
of_limit (Ok x) says limit = cc
of_limit (Err error) says limit = says

-- no end was seen where it was seen before, or not since
pub counted_same : (ended : Bool) (count : ℕ) → count ≡ counted (ends_between ended ended) count
counted_same true count = refl
counted_same false count = refl

pub counted_once : (before after : Bool) (count mid : ℕ) → before ≡ false → mid ≡ counted (ends_between before false) count → counted after mid ≡ counted (ends_between before after) count
counted_once true after count mid going e = cc
counted_once false after count mid going e = ap (counted after) e

-- what nobody has said is false
pub not_before : (before : Bool) → (before ≡ true → false ≡ true) → before ≡ false
not_before true stays = let impossible = stays refl in cc
not_before false stays = refl

-- one of two is still true where the second follows
pub or_more : (ended failed refused : Bool) → (failed ≡ true → refused ≡ true) → (ended || failed) ≡ true → (ended || refused) ≡ true
or_more true failed refused then one = refl
or_more false failed refused then one = then one
