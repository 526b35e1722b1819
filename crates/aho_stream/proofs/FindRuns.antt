-- What calls of an iterator over a stream's matches find, one after another.
use Rattle.std.proofs.Common.{◌≡◌, ℕ, Bool, true, false, ◌||◌, List, [], ◌∷◌, ◌++◌, length, map, inl, inr, ◌≤◌, arith, refl, sym, ◌∙◌, ap, subst, append_assoc, append-nil}
use Rattle.std.specs.Prelude.{Option, Some, None, Result, Ok, Err}
use Rattle.std.specs.Iterator.{Yields, YieldsThen}
use Rattle.std.specs.Iterator.Runs.{Run, YieldsRun}
use Rattle.std.specs.Io.KnownBytes.{Consumes}
use Rattle.std.proofs.KnownBytes.{Consumes-nil, Consumes-trans}
use Rattle.std.proofs.Math.Bool.{or-false, or_assoc}
use Rattle.aho_core.specs.declared.error.stream.StreamError.{StreamError}
use Rattle.aho_core.specs.declared.error.stream.StreamError.TheVariants.{Match as Refused, Read as ReadFault, Write, WriteZero, Memory, PositionLimit}
use Rattle.aho_core.specs.Answer.{IsAnswer}
use Rattle.aho_core.specs.Iteration.{AreFinds, IsNextFind}
use Rattle.aho_core.specs.Laws.{shortest}
use Rattle.aho_core.specs.Occurrence.{Occurrence}
use Rattle.aho_core.specs.Patterns.{Patterns}
use Rattle.aho_core.specs.Search.{Search}
use Rattle.aho_devices.specs.Counts.{counted}
use Rattle.aho_devices.specs.declared.device.Source.{Ghosts as SourceGhosts}
use Rattle.aho_automaton.specs.Finding.{AreFirstFinds}
use Rattle.aho_automaton.specs.declared.automaton.Automaton.{Ghosts}
use Rattle.aho_stream.specs.After.{IsAfter, MayFollow, search_from}
use Rattle.aho_stream.specs.Chunks.{ends_between}
use Rattle.aho_stream.specs.FindRuns.{FindsAll, FindsAlong, FindsSoFar, is_limit_among, matches_among}
use Rattle.aho_stream.specs.Finds.{Finds, FindsError, FindsNextInStream}
use Rattle.aho_stream.specs.Iterators.{HasGiven, automaton_of, lookups_of}
use Rattle.aho_stream.specs.Refills.{is_limit}
use Rattle.aho_stream.specs.declared.chunks.StreamChunkIter.{StreamChunkIter}
use Rattle.aho_stream.specs.declared.finds.StreamFindIter.{StreamFindIter}
use Rattle.aho_stream.specs.declared.progress.StreamProgress.{StreamProgress}
use Rattle.aho_stream.proofs.Found.{counted_then}
use Rattle.aho_stream.proofs.Replacings.{may_follow}
use Rattle.aho_stream.proofs.StreamFinds.{find_of_answer}

-- what was read where the end was not seen may follow
may_follow_closed : (ended : Bool) (bytes : List ℕ) → (ended ≡ true → bytes ≡ []) → MayFollow ended bytes
may_follow_closed true bytes closed = closed refl
may_follow_closed false bytes closed = tt

-- the end is not seen where no call is made
none_between : (ended : Bool) (count : ℕ) → count ≡ counted (ends_between ended ended) count
none_between true count = refl
none_between false count = refl

-- an error leaves the end of the last match where it was
error_from : (p : Patterns) (s t : StreamProgress) (given : List ℕ) (error : StreamError) → FindsError p s t given error → t.from ≡ s.from
error_from p s t given (Refused cause) says = absurd says
error_from p s t given (ReadFault fault) says = says.from
error_from p s t given (Write fault) says = absurd says
error_from p s t given WriteZero says = absurd says
error_from p s t given Memory says = absurd says
error_from p s t given PositionLimit says = says.fault.from

module _ (p : Patterns) (lengths : List ℕ) (are : lengths ≡ map length p.words) (no_empty : 1 ≤ shortest lengths)
    -- what is said of a list of finds, where a next find may stand before them
    (P : Search → Option ℕ → List Occurrence → Type 0)
    (before : (search : Search) (last : Option ℕ) (m : Occurrence) (ms : List Occurrence) → IsNextFind p search last (Some m) → P (record search { start = m.end }) (Some m.end) ms → P search last (m ∷ ms)) where
  -- one answer before others
  pub answer_on : (s t : StreamProgress) (given bytes more : List ℕ) (item : Result Occurrence StreamError) (items : List (Result Occurrence StreamError))
      → MayFollow t.ended more → bytes ≡ given ++ more → Finds p s t given (Some item)
      → ((last : Option ℕ) → P (search_from t.from bytes) last (matches_among items)) → (last : Option ℕ) → P (search_from s.from bytes) last (matches_among (item ∷ items))
  answer_on s t given bytes more (Ok m) items follows are_these says then last =
      let answer : IsAnswer p (search_from s.from bytes) (Some m) = subst (λ (xs : List ℕ). IsAnswer p (search_from s.from xs) (Some m)) (sym are_these) (says.answer more follows) in
      before (search_from s.from bytes) last m (matches_among items) (find_of_answer p lengths are no_empty bytes s.from last (Some m) answer)
      (subst (λ (k : ℕ). P (search_from k bytes) (Some m.end) (matches_among items)) says.from (then (Some m.end)))
  answer_on s t given bytes more (Err error) items follows are_these says then last =
      subst (λ (k : ℕ). P (search_from k bytes) last (matches_among items)) (error_from p s t given error says) (then last)

-- a call of `next`
abbrev pub find_steps : {A R : Type 0} → Ghosts A → SourceGhosts R → StreamFindIter A R → Option (Result Occurrence StreamError) → StreamFindIter A R → Type 0
find_steps G S it found rest = FindsNextInStream G S it.chunks rest.chunks found

module _ {A R : Type 0} (G : Ghosts A) (S : SourceGhosts R) (are : (automaton : A) (p : Patterns) → G.is_of automaton p → G.lengths automaton ≡ map length p.words) (p : Patterns) where
  -- calls led from one iterator, once these bytes were given, to another, and answered so
  pub record Led (it rest : StreamChunkIter A R) (given : List ℕ) (items : List (Result Occurrence StreamError)) : Type 0 where
    pub bytes : List ℕ
    pub read : Consumes (S.remaining it.source.now) (S.remaining rest.source.now) bytes
    pub closed : it.progress.ended ≡ true → bytes ≡ []
    pub stays : it.progress.ended ≡ true → rest.progress.ended ≡ true
    pub ends : S.empty_reads rest.source.now ≡ counted (ends_between it.progress.ended rest.progress.ended) (S.empty_reads it.source.now)
    pub of : G.is_of (automaton_of rest) p
    pub after : HasGiven G rest p (given ++ bytes)
    pub refused : rest.progress.refused ≡ (it.progress.refused || is_limit_among items)
    -- whatever bytes may follow, the matches are the first finds from here on
    pub first : (more : List ℕ) → MayFollow rest.progress.ended more → (last : Option ℕ) → AreFirstFinds p (search_from it.progress.from ((given ++ bytes) ++ more)) last (matches_among items)
    -- and all of them, where no more comes after them
    pub all : (more : List ℕ) → MayFollow rest.progress.ended more → IsAnswer p (search_from rest.progress.from ((given ++ bytes) ++ more)) None
        → (last : Option ℕ) → AreFinds p (search_from it.progress.from ((given ++ bytes) ++ more)) last (matches_among items)

  -- no call
  led_nowhere : (it : StreamChunkIter A R) (given : List ℕ) → G.is_of (automaton_of it) p → HasGiven G it p given → Led it it given []
  led_nowhere it given of a = record {
    bytes = [];
    read = Consumes-nil (S.remaining it.source.now);
    closed = λ e. refl;
    stays = λ e. e;
    ends = none_between it.progress.ended (S.empty_reads it.source.now);
    of = of;
    after = subst (HasGiven G it p) (sym (append-nil given)) a;
    refused = sym (or-false it.progress.refused);
    first = λ more follows last. tt;
    all = λ more follows none last. find_of_answer p (G.lengths (automaton_of it)) (are (automaton_of it) p of) a.no_empty ((given ++ []) ++ more) it.progress.from last None none;
  }

  module _ (it mid rest : StreamChunkIter A R) (given : List ℕ) (item : Result Occurrence StreamError) (items : List (Result Occurrence StreamError))
      (of : G.is_of (automaton_of it) p) (a : HasGiven G it p given) (step : FindsNextInStream G S it mid (Some item)) (then : Led mid rest (given ++ step.reads.bytes) items) where
    abbrev bytes : List ℕ
    bytes = step.reads.bytes ++ then.bytes

    same_bytes : (more : List ℕ) → (given ++ bytes) ++ more ≡ (given ++ step.reads.bytes) ++ (then.bytes ++ more)
    same_bytes more =
        ap (λ (xs : List ℕ). xs ++ more) (sym (append_assoc given step.reads.bytes then.bytes)) ∙ append_assoc (given ++ step.reads.bytes) then.bytes more

    follows_on : (more : List ℕ) → MayFollow rest.progress.ended more → MayFollow mid.progress.ended (then.bytes ++ more)
    follows_on more follows = may_follow mid.progress.ended rest.progress.ended then.bytes more then.closed then.stays follows

    abbrev joined : List ℕ → List ℕ
    joined more = ((given ++ step.reads.bytes) ++ then.bytes) ++ more

    same_joined : (more : List ℕ) → joined more ≡ (given ++ bytes) ++ more
    same_joined more = ap (λ (xs : List ℕ). xs ++ more) (append_assoc given step.reads.bytes then.bytes)

    -- one call before others
    led_on : Led it rest given (item ∷ items)
    led_on = record {
      bytes = bytes;
      read = Consumes-trans (S.remaining it.source.now) (S.remaining mid.source.now) (S.remaining rest.source.now) step.reads.bytes then.bytes step.reads.read then.read;
      closed = λ e. ap (λ (xs : List ℕ). xs ++ then.bytes) (step.reads.closed e) ∙ then.closed (step.call.stays_ended e);
      stays = λ e. then.stays (step.call.stays_ended e);
      ends = counted_then it.progress.ended mid.progress.ended rest.progress.ended _ _ _ step.call.stays_ended then.stays step.call.ended then.ends;
      of = then.of;
      after = subst (HasGiven G rest p) (append_assoc given step.reads.bytes then.bytes) then.after;
      refused = then.refused ∙ ap (λ (b : Bool). b || is_limit_among items) step.call.refused ∙ or_assoc it.progress.refused (is_limit item) (is_limit_among items);
      first = λ more follows last.
          answer_on p (G.lengths (automaton_of it)) (are (automaton_of it) p of) a.no_empty (AreFirstFinds p) (λ search last m ms next ok. (next, ok))
          it.progress mid.progress (given ++ step.reads.bytes) ((given ++ bytes) ++ more) (then.bytes ++ more) item items (follows_on more follows) (same_bytes more) (step.finds p given of a)
          (λ last. subst (λ (xs : List ℕ). AreFirstFinds p (search_from mid.progress.from xs) last (matches_among items)) (same_joined more) (then.first more follows last)) last;
      all = λ more follows none last.
          answer_on p (G.lengths (automaton_of it)) (are (automaton_of it) p of) a.no_empty (AreFinds p) (λ search last m ms next ok. (next, ok))
          it.progress mid.progress (given ++ step.reads.bytes) ((given ++ bytes) ++ more) (then.bytes ++ more) item items (follows_on more follows) (same_bytes more) (step.finds p given of a)
          (λ last. subst (λ (xs : List ℕ). AreFinds p (search_from mid.progress.from xs) last (matches_among items)) (same_joined more)
          (then.all more follows (subst (λ (xs : List ℕ). IsAnswer p (search_from rest.progress.from xs) None) (sym (same_joined more)) none) last)) last;
    }

  pub led : (items : List (Result Occurrence StreamError)) (it rest : StreamFindIter A R) (given : List ℕ) → G.is_of (automaton_of it.chunks) p → HasGiven G it.chunks p given
      → Yields (find_steps G S) it items rest → Led it.chunks rest.chunks given items
  led [] it rest given of a same = subst (λ (x : StreamFindIter A R). Led it.chunks x.chunks given []) same (led_nowhere it.chunks given of a)
  led (item ∷ items) it rest given of a yields =
      let step = yields.1 in
      let of' = subst (λ (x : A). G.is_of x p) (sym step.call.same) of in
      let after : HasGiven G yields.0.chunks p (given ++ step.reads.bytes) =
      subst (λ (x : A). IsAfter G x p (lookups_of yields.0.chunks) yields.0.chunks.progress (given ++ step.reads.bytes)) (sym step.call.same) (step.reads.is_after p given of a) in
      led_on it.chunks yields.0.chunks rest.chunks given item items of a step (led items yields.0 rest (given ++ step.reads.bytes) of' after yields.2)

  -- since a search began
  module _ (it rest : StreamFindIter A R) (items : List (Result Occurrence StreamError)) (of : G.is_of (automaton_of it.chunks) p) (a : HasGiven G it.chunks p [])
      (unended : it.chunks.progress.ended ≡ false) where
    begins_at : it.chunks.progress.from ≡ 0
    begins_at = omega (arith, a.from_reported, a.reported_walked, a.walked_read, a.count)

    pub finds_so_far : Yields (find_steps G S) it items rest → FindsSoFar S p it.chunks.source.now rest.chunks.source.now items
    finds_so_far yields =
        let l = led items it rest [] of a yields in
        record {
          given = l.bytes;
          ended = rest.chunks.progress.ended;
          gives = record { bytes = l.read; end = l.ends ∙ ap (λ (b : Bool). counted (ends_between b rest.chunks.progress.ended) (S.empty_reads it.chunks.source.now)) unended };
          first = λ more follows. subst (λ (k : ℕ). AreFirstFinds p (search_from k (l.bytes ++ more)) None (matches_among items)) begins_at (l.first more follows None);
        }

    pub finds_all : YieldsThen (find_steps G S) it items None rest → it.chunks.progress.refused ≡ false → is_limit_among items ≡ false → FindsAll S p it.chunks.source.now rest.chunks.source.now items
    finds_all (mid, yields, step) below unlimited =
        let l = led items it mid [] of a yields in
        let says = step.finds p l.bytes l.of l.after in
        let ended : rest.chunks.progress.ended ≡ true =
        elim says.over [ inl over ↦ over.0 | inr refused ↦ (let never : false ≡ true = sym (l.refused ∙ ap (λ (b : Bool). b || is_limit_among items) below ∙ unlimited) ∙ refused in cc) ] in
        let goes : it.chunks.progress.ended ≡ true → mid.chunks.progress.ended ≡ true = l.stays in
        let count = counted_then it.chunks.progress.ended mid.chunks.progress.ended rest.chunks.progress.ended _ _ _ goes step.call.stays_ended l.ends step.call.ended in
        let follows : MayFollow mid.chunks.progress.ended step.reads.bytes = may_follow_closed mid.chunks.progress.ended step.reads.bytes step.reads.closed in
        record {
          given = l.bytes ++ step.reads.bytes;
          gives = record {
            bytes = Consumes-trans (S.remaining it.chunks.source.now) (S.remaining mid.chunks.source.now) (S.remaining rest.chunks.source.now) l.bytes step.reads.bytes l.read step.reads.read;
            end = count ∙ ap (λ (b : Bool). counted (ends_between b rest.chunks.progress.ended) (S.empty_reads it.chunks.source.now)) unended
                ∙ ap (λ (b : Bool). counted b (S.empty_reads it.chunks.source.now)) ended;
          };
          all = subst (λ (k : ℕ). AreFinds p (search_from k (l.bytes ++ step.reads.bytes)) None (matches_among items)) begins_at
              (l.all step.reads.bytes follows (says.none (inr ended)) None);
        }

  module _ (it : StreamFindIter A R) (of : G.is_of (automaton_of it.chunks) p) (a : HasGiven G it.chunks p [])
      (unended : it.chunks.progress.ended ≡ false) (below : it.chunks.progress.refused ≡ false) where
    pub finds_along : FindsAlong S (find_steps G S) p it
    finds_along = record {
      so_far = λ items rest yields. finds_so_far it rest items of a unended yields;
      all = λ items rest yields unlimited. finds_all it rest items of a unended yields below unlimited;
    }

    -- and each run
    pub run_so_far : (run : Run (find_steps G S)) → run.from ≡ it → (left : R) × FindsSoFar S p it.chunks.source.now left run.items
    unfolding YieldsRun
    run_so_far run from =
        (run.gave.0.0.chunks.source.now, finds_along.so_far run.items run.gave.0.0 (subst (λ (x : StreamFindIter A R). Yields (find_steps G S) x run.items run.gave.0.0) from run.gave.0.1))

    pub run_all : (run : Run (find_steps G S)) → run.from ≡ it → run.whole ≡ true → is_limit_among run.items ≡ false → (left : R) × FindsAll S p it.chunks.source.now left run.items
    unfolding YieldsRun
    run_all run from whole unlimited =
        let then = run.gave.0.2 whole in (
          then.0.chunks.source.now,
          finds_along.all run.items then.0 (run.gave.0.0, subst (λ (x : StreamFindIter A R). Yields (find_steps G S) x run.items run.gave.0.0) from run.gave.0.1, then.1) unlimited,
        )
