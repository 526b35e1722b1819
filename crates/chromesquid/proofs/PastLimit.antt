-- What an iterator over the matches of a stream has answered, once the position limit is among its answers.
use Rattle.std.proofs.Common.{◌≡◌, ℕ, Bool, true, false, ◌||◌, List, [], ◌∷◌, ◌++◌, ◌≤◌, length, map, inl, arith, refl, sym, ◌∙◌, ap, subst, append_assoc, append-nil, length-append}
use Rattle.std.specs.Prelude.{Some, None, Result, Ok, Err}
use Rattle.std.specs.Iterator.{Yields}
use Rattle.std.specs.Iterator.Runs.{Run, YieldsRun}
use Rattle.std.proofs.KnownBytes.{Consumes-trans}
use Rattle.aho_core.specs.declared.error.stream.StreamError.{StreamError}
use Rattle.aho_core.specs.declared.error.stream.StreamError.TheVariants.{Match as Refused, Read as ReadFault, Write, WriteZero, Memory, PositionLimit}
use Rattle.aho_core.specs.Answer.{IsAnswer}
use Rattle.aho_core.specs.Iteration.{AreFinds}
use Rattle.aho_core.specs.Occurrence.{Occurrence}
use Rattle.aho_core.specs.Patterns.{Patterns}
use Rattle.aho_core.specs.Search.{plain_search}
use Rattle.aho_automaton.specs.Finding.{AreFirstFinds}
use Rattle.aho_automaton.specs.declared.automaton.Automaton.{Ghosts}
use Rattle.aho_devices.specs.Counts.{counted}
use Rattle.aho_devices.specs.declared.device.Source.{Ghosts as SourceGhosts}
use Rattle.aho_stream.specs.After.{IsAfter, MayFollow, greatest_position, search_from}
use Rattle.aho_stream.specs.Chunks.{DiesAt, ends_between}
use Rattle.aho_stream.specs.FindRuns.{is_limit_among, matches_among}
use Rattle.aho_stream.specs.Finds.{Finds, FindsEnd, FindsLimit, FindsNextInStream}
use Rattle.aho_stream.specs.Iterators.{HasGiven, automaton_of, lookups_of}
use Rattle.aho_stream.specs.declared.finds.StreamFindIter.{StreamFindIter}
use Rattle.aho_stream.specs.declared.progress.StreamProgress.{StreamProgress}
use Rattle.aho_stream.proofs.FindRuns.{find_steps, led}
use Rattle.chromesquid.specs.Streams.{FindsToLimit, end_of_last}

-- a call that leaves the end unseen saw none before
unseen_before : (before after : Bool) → (before ≡ true → after ≡ true) → after ≡ false → before ≡ false
unseen_before true after stays unseen = (let never : false ≡ true = sym unseen ∙ stays refl in cc)
unseen_before false after stays unseen = refl

-- and counts none
none_seen : (before after : Bool) (old new : ℕ) → before ≡ false → after ≡ false → new ≡ counted (ends_between before after) old → new ≡ old
none_seen true after old new unended unseen count = (let never : false ≡ true = sym unended in cc)
none_seen false true old new unended unseen count = (let never : false ≡ true = sym unseen in cc)
none_seen false false old new unended unseen count = count

-- no byte is in a list of no length
no_bytes : (bytes : List ℕ) → length bytes ≤ 0 → bytes ≡ []
no_bytes [] none = refl
no_bytes (byte ∷ bytes) none = absurd (omega (arith, none))

-- where the last match ends after an answer
end_after : (p : Patterns) (s t : StreamProgress) (given : List ℕ) (item : Result Occurrence StreamError) (items : List (Result Occurrence StreamError))
    → Finds p s t given (Some item) → end_of_last t.from (matches_among items) ≡ end_of_last s.from (matches_among (item ∷ items))
end_after p s t given (Ok m) items says = ap (λ (k : ℕ). end_of_last k (matches_among items)) says.from
end_after p s t given (Err (Refused cause)) items says = absurd says
end_after p s t given (Err (ReadFault fault)) items says = ap (λ (k : ℕ). end_of_last k (matches_among items)) says.from
end_after p s t given (Err (Write fault)) items says = absurd says
end_after p s t given (Err WriteZero) items says = absurd says
end_after p s t given (Err Memory) items says = absurd says
end_after p s t given (Err PositionLimit) items says = ap (λ (k : ℕ). end_of_last k (matches_among items)) says.fault.from

module _ {A R : Type 0} (G : Ghosts A) (S : SourceGhosts R) where
  -- after the limit was answered no call gives an item
  none_after : (items : List (Result Occurrence StreamError)) (mid rest : StreamFindIter A R) → mid.chunks.progress.refused ≡ true → Yields (find_steps G S) mid items rest
      → (items ≡ []) × (mid ≡ rest)
  none_after [] mid rest refused same = (refl, same)
  none_after (item ∷ items) mid rest refused yields = (let never : Some item ≡ None = yields.1.call.after_limit refused in cc)

  -- calls led up to the one that answered the limit, and no item came after it
  record UpToLimit (it rest : StreamFindIter A R) (items : List (Result Occurrence StreamError)) : Type 0 where
    pub before : List (Result Occurrence StreamError)
    pub mid : StreamFindIter A R
    pub yields : Yields (find_steps G S) it before mid
    pub at : FindsNextInStream G S mid.chunks rest.chunks (Some (Err PositionLimit))
    pub same : matches_among items ≡ matches_among before

  match_before : (m : Occurrence) (items : List (Result Occurrence StreamError)) (it next rest : StreamFindIter A R) → FindsNextInStream G S it.chunks next.chunks (Some (Ok m))
      → UpToLimit next rest items → UpToLimit it rest (Ok m ∷ items)
  match_before m items it next rest step more = record {
    before = Ok m ∷ more.before;
    mid = more.mid;
    yields = (next, step, more.yields);
    at = more.at;
    same = ap (λ (ms : List Occurrence). m ∷ ms) more.same;
  }

  error_before : (error : StreamError) (items : List (Result Occurrence StreamError)) (it next rest : StreamFindIter A R) → FindsNextInStream G S it.chunks next.chunks (Some (Err error))
      → UpToLimit next rest items → UpToLimit it rest (Err error ∷ items)
  error_before error items it next rest step more = record {
    before = Err error ∷ more.before;
    mid = more.mid;
    yields = (next, step, more.yields);
    at = more.at;
    same = more.same;
  }

  limit_here : (items : List (Result Occurrence StreamError)) (it next rest : StreamFindIter A R) → FindsNextInStream G S it.chunks next.chunks (Some (Err PositionLimit)) → (items ≡ []) × (next ≡ rest)
      → UpToLimit it rest (Err PositionLimit ∷ items)
  limit_here items it next rest step none = record {
    before = [];
    mid = it;
    yields = refl;
    at = subst (λ (x : StreamFindIter A R). FindsNextInStream G S it.chunks x.chunks (Some (Err PositionLimit))) none.1 step;
    same = ap matches_among none.0;
  }

  or_true : (b : Bool) → (b || true) ≡ true
  or_true true = refl
  or_true false = refl

  up_to_limit : (items : List (Result Occurrence StreamError)) (it rest : StreamFindIter A R) → Yields (find_steps G S) it items rest → is_limit_among items ≡ true → UpToLimit it rest items
  up_to_limit [] it rest yields limit = (let never : false ≡ true = limit in cc)
  up_to_limit (Ok m ∷ items) it rest yields limit = match_before m items it yields.0 rest yields.1 (up_to_limit items yields.0 rest yields.2 limit)
  up_to_limit (Err (Refused cause) ∷ items) it rest yields limit = error_before (Refused cause) items it yields.0 rest yields.1 (up_to_limit items yields.0 rest yields.2 limit)
  up_to_limit (Err (ReadFault fault) ∷ items) it rest yields limit = error_before (ReadFault fault) items it yields.0 rest yields.1 (up_to_limit items yields.0 rest yields.2 limit)
  up_to_limit (Err (Write fault) ∷ items) it rest yields limit = error_before (Write fault) items it yields.0 rest yields.1 (up_to_limit items yields.0 rest yields.2 limit)
  up_to_limit (Err WriteZero ∷ items) it rest yields limit = error_before WriteZero items it yields.0 rest yields.1 (up_to_limit items yields.0 rest yields.2 limit)
  up_to_limit (Err Memory ∷ items) it rest yields limit = error_before Memory items it yields.0 rest yields.1 (up_to_limit items yields.0 rest yields.2 limit)
  up_to_limit (Err PositionLimit ∷ items) it rest yields limit =
      limit_here items it yields.0 rest yields.1 (none_after items yields.0 rest (yields.1.call.refused ∙ or_true it.chunks.progress.refused) yields.2)

  module _ (are : (automaton : A) (p : Patterns) → G.is_of automaton p → G.lengths automaton ≡ map length p.words) (p : Patterns) where
    -- what calls lead to: the end of the last match, and the limit
    kept_by : (items : List (Result Occurrence StreamError)) (it rest : StreamFindIter A R) (given : List ℕ) → G.is_of (automaton_of it.chunks) p → HasGiven G it.chunks p given
        → Yields (find_steps G S) it items rest
        → (rest.chunks.progress.from ≡ end_of_last it.chunks.progress.from (matches_among items)) × (rest.chunks.progress.limit ≡ it.chunks.progress.limit)
    kept_by [] it rest given of a same = (ap (λ (x : StreamFindIter A R). x.chunks.progress.from) (sym same), ap (λ (x : StreamFindIter A R). x.chunks.progress.limit) (sym same))
    kept_by (item ∷ items) it rest given of a yields =
        let step = yields.1 in
        let of' = subst (λ (x : A). G.is_of x p) (sym step.call.same) of in
        let after : HasGiven G yields.0.chunks p (given ++ step.reads.bytes) =
        subst (λ (x : A). IsAfter G x p (lookups_of yields.0.chunks) yields.0.chunks.progress (given ++ step.reads.bytes)) (sym step.call.same) (step.reads.is_after p given of a) in
        let more = kept_by items yields.0 rest (given ++ step.reads.bytes) of' after yields.2 in (
          more.0 ∙ end_after p it.chunks.progress yields.0.chunks.progress (given ++ step.reads.bytes) item items (step.finds p given of a),
          more.1 ∙ step.call.limit,
        )

    module _ (it : StreamFindIter A R) (of : G.is_of (automaton_of it.chunks) p) (a : HasGiven G it.chunks p [])
        (unended : it.chunks.progress.ended ≡ false) (limited : it.chunks.progress.limit ≡ greatest_position) where
      begins_at : it.chunks.progress.from ≡ 0
      begins_at = omega (arith, a.from_reported, a.reported_walked, a.walked_read, a.count)

      to_limit : (items : List (Result Occurrence StreamError)) (rest : StreamFindIter A R) → Yields (find_steps G S) it items rest → is_limit_among items ≡ true
          → (whole : Bool) → (whole ≡ true → (then : StreamFindIter A R) × FindsNextInStream G S rest.chunks then.chunks None)
          → FindsToLimit S p it.chunks.source.now rest.chunks.source.now whole items
      to_limit items rest yields limit whole ends =
          let u = up_to_limit items it rest yields limit in
          let l = led G S are p u.before it u.mid [] of a u.yields in
          let kept = kept_by u.before it u.mid [] of a u.yields in
          let step = u.at in
          let given = l.bytes ++ step.reads.bytes in
          let says : FindsLimit p u.mid.chunks.progress rest.chunks.progress given = step.finds p l.bytes l.of l.after in
          let after = step.reads.is_after p l.bytes l.of l.after in
          let closed = (after.stopped says.refused).1 in
          let unseen = unseen_before u.mid.chunks.progress.ended rest.chunks.progress.ended step.call.stays_ended closed in
          let last : u.mid.chunks.progress.from ≡ end_of_last 0 (matches_among items) =
          kept.0 ∙ (ap (λ (k : ℕ). end_of_last k (matches_among u.before)) begins_at ∙ ap (end_of_last 0) (sym u.same)) in
          record {
            given = given;
            gives = record {
              bytes = Consumes-trans (S.remaining it.chunks.source.now) (S.remaining u.mid.chunks.source.now) (S.remaining rest.chunks.source.now) l.bytes step.reads.bytes l.read step.reads.read;
              end = none_seen _ _ _ _ unseen closed step.call.ended ∙ none_seen _ _ _ _ unended unseen l.ends;
            };
            full = says.reached ∙ (kept.1 ∙ limited);
            first = λ more.
                subst (λ (ms : List Occurrence). AreFirstFinds p (plain_search (given ++ more)) None ms) (sym u.same)
                (subst (λ (xs : List ℕ). AreFirstFinds p (plain_search xs) None (matches_among u.before)) (sym (append_assoc l.bytes step.reads.bytes more))
                (subst (λ (k : ℕ). AreFirstFinds p (search_from k (l.bytes ++ (step.reads.bytes ++ more))) None (matches_among u.before)) begins_at
                (l.first (step.reads.bytes ++ more) (subst (λ (b : Bool). MayFollow b (step.reads.bytes ++ more)) (sym unseen) tt) None)));
            all = λ is_whole standard.
                let none = ends is_whole in
                let of' = subst (λ (x : A). G.is_of x p) (sym step.call.same) l.of in
                let here : HasGiven G rest.chunks p given =
                subst (λ (x : A). IsAfter G x p (lookups_of rest.chunks) rest.chunks.progress given) (sym step.call.same) after in
                let end : FindsEnd p rest.chunks.progress none.0.chunks.progress (given ++ none.1.reads.bytes) = none.1.finds p given of' here in
                let later = none.1.reads.is_after p given of' here in
                let nothing : none.1.reads.bytes ≡ [] =
                no_bytes none.1.reads.bytes (omega (arith, later.count, later.limited, none.1.call.limit, step.call.limit, says.reached, length-append given none.1.reads.bytes)) in
                let over : IsAnswer p (search_from rest.chunks.progress.from given) None =
                subst (λ (xs : List ℕ). IsAnswer p (search_from rest.chunks.progress.from xs) None) (ap (λ (xs : List ℕ). given ++ xs) nothing ∙ append-nil given) (end.none (inl standard)) in
                let answer : IsAnswer p (search_from u.mid.chunks.progress.from given) None = subst (λ (k : ℕ). IsAnswer p (search_from k given) None) says.fault.from over in
                subst (λ (ms : List Occurrence). AreFinds p (plain_search given) None ms) (sym u.same)
                (subst (λ (k : ℕ). AreFinds p (search_from k given) None (matches_among u.before)) begins_at
                (l.all step.reads.bytes (subst (λ (b : Bool). MayFollow b step.reads.bytes) (sym unseen) tt) answer None));
            unsettled = λ leftmost place dies. says.unsettled leftmost place (subst (λ (k : ℕ). DiesAt p given k place) (sym last) dies);
          }

      pub run_to_limit : (run : Run (find_steps G S)) → run.from ≡ it → is_limit_among run.items ≡ true → (left : R) × FindsToLimit S p it.chunks.source.now left run.whole run.items
      unfolding YieldsRun
      run_to_limit run from limit = (
        run.gave.0.0.chunks.source.now,
        to_limit run.items run.gave.0.0 (subst (λ (x : StreamFindIter A R). Yields (find_steps G S) x run.items run.gave.0.0) from run.gave.0.1) limit run.whole
            (λ whole. let then = run.gave.0.2 whole in (then.0, then.1)),
      )
