-- What a search and a replacement of a stream are, of fewer patterns, and of the patterns that the searcher was built from.
use Rattle.std.proofs.Common.{◌≡◌, subst, sym, List, ℕ, Option, true, false}
use Rattle.std.specs.Borrow.{Bor, MutBor}
use Rattle.std.specs.Fn.{Mut}
use Rattle.std.specs.Iterator.Runs.{EachRunFrom}
use Rattle.std.specs.Prelude.{Result, IfErr, OnErr, OnOk}
use Rattle.std.proofs.lemmas.Result.{IfErr-weaker, on_err_weaker, on_ok_weaker}
use Rattle.aho_core.specs.Occurrence.{Occurrence}
use Rattle.aho_core.specs.Patterns.{Patterns}
use Rattle.aho_core.specs.declared.error.stream.StreamError.{StreamError}
use Rattle.aho_devices.specs.Refusals.{IsFillRefusal}
use Rattle.aho_devices.specs.declared.device.Sink.{Ghosts as SinkGhosts}
use Rattle.aho_devices.specs.declared.device.Source.{Ghosts as SourceGhosts}
use Rattle.aho_stream.specs.FindRuns.{RunFindsAll, RunFindsFirst, is_limit_among}
use Rattle.aho_stream.specs.Replacing.{BeginsReplacing, ReplacesStream, ReplacesStreamUpTo}
use Rattle.aho_stream.specs.StreamRun.{RunsOver}
use Rattle.aho_stream.specs.declared.finds.StreamFindIter.{StreamFindIter}
use Rattle.chromesquid.specs.Streams.{FindsBeginning, FindsWhole, IsReplaced, IsReplacedUpTo, IsReplacementBegun, IsStreamRun}

-- what is true of all patterns of some kind is true of fewer
module _ {R W : Type 0} (S : SourceGhosts R) (K : SinkGhosts W) (All Fewer : Patterns → Type 0) (among : (q : Patterns) → Fewer q → All q) where
  module _ (pieces : List (List ℕ)) (source source' : R) (sink sink' : W) where
    replaces_of : ReplacesStream S K All pieces source source' sink sink' → ReplacesStream S K Fewer pieces source source' sink sink'
    replaces_of whole = record { given = whole.given; gives = whole.gives; writes = λ q ms are finds. whole.writes q ms (among q are) finds }

    begins_of : BeginsReplacing S K All pieces source source' sink sink' → BeginsReplacing S K Fewer pieces source source' sink sink'
    begins_of begun = record {
      given = begun.given;
      ended = begun.ended;
      gives = begun.gives;
      written = begun.written;
      writes = begun.writes;
      beginning = λ q bytes ms are may finds. begun.beginning q bytes ms (among q are) may finds;
    }

    up_to_of : ReplacesStreamUpTo S K All pieces source source' sink sink' → ReplacesStreamUpTo S K Fewer pieces source source' sink sink'
    up_to_of upto = record {
      given = upto.given;
      ended = upto.ended;
      gives = upto.gives;
      place = upto.place;
      within = upto.within;
      near = λ q are. upto.near q (among q are);
      writes = λ q bytes ms are may finds. upto.writes q bytes ms (among q are) may finds;
    }

  runs_of : {F : Type 0} (calls : Mut F (Bor Occurrence × (Bor (List ℕ) × (MutBor W × Unit {0}))) (Result (Unit {0}) StreamError × (MutBor W × Unit {0})))
      (source source' : R) (closure : F) (sink : W) (result : Result (Unit {0}) StreamError) (sink' : W)
      → RunsOver S K All calls source source' closure sink result sink' → RunsOver S K Fewer calls source source' closure sink result sink'
  runs_of calls source source' closure sink result sink' over = record {
    given = over.given;
    ended = over.ended;
    stopped = over.stopped;
    gives = over.gives;
    whole = over.whole;
    read_failed = over.read_failed;
    limit = over.limit;
    run = λ q bytes ms are may finds. over.run q bytes ms (among q are) may finds;
    near = λ stopped.
        let near = over.near stopped in (
          near.0,
          near.1,
          λ q are. near.2 q (among q are),
          λ q bytes ms are may finds. near.3 q bytes ms (among q are) may finds,
        );
  }

-- of patterns of some kind, as an automaton is of them
module _ {R W : Type 0} (S : SourceGhosts R) (K : SinkGhosts W) (is_of : Patterns → Type 0) (p : Patterns) (of : is_of p) where
  among_them : (q : Patterns) → q ≡ p → is_of q
  among_them q same = subst is_of (sym same) of

  module _ (pieces : List (List ℕ)) (source source' : R) (sink sink' : W) (r : Result (Unit {0}) StreamError) where
    -- a whole replacement
    pub replaced_of : OnOk r (ReplacesStream S K is_of pieces source source' sink sink') → OnOk r (IsReplaced S K p pieces source source' sink sink')
    replaced_of = on_ok_weaker r (replaces_of S K is_of (λ q. q ≡ p) among_them pieces source source' sink sink')

    -- a beginning of one
    pub begun_of : OnErr r (BeginsReplacing S K is_of pieces source source' sink sink') → OnErr r (IsReplacementBegun S K p pieces source source' sink sink')
    begun_of = on_err_weaker r (begins_of S K is_of (λ q. q ≡ p) among_them pieces source source' sink sink')

    -- one up to a place
    pub near_of : IfErr r (λ error. IsFillRefusal error → ReplacesStreamUpTo S K is_of pieces source source' sink sink')
        → IfErr r (λ error. IsFillRefusal error → IsReplacedUpTo S K p pieces source source' sink sink')
    near_of =
        IfErr-weaker r _ _ (λ error so refusal. up_to_of S K is_of (λ q. q ≡ p) among_them pieces source source' sink sink' (so refusal))

  -- a run of a closure
  pub run_of : {F : Type 0} (calls : Mut F (Bor Occurrence × (Bor (List ℕ) × (MutBor W × Unit {0}))) (Result (Unit {0}) StreamError × (MutBor W × Unit {0})))
      (source source' : R) (closure : F) (sink : W) (result : Result (Unit {0}) StreamError) (sink' : W)
      → RunsOver S K is_of calls source source' closure sink result sink' → IsStreamRun S K p calls source source' closure sink result sink'
  run_of = runs_of S K is_of (λ q. q ≡ p) among_them

module _ {A R : Type 0} {steps : StreamFindIter A R → Option (Result Occurrence StreamError) → StreamFindIter A R → Type 0} (S : SourceGhosts R) (p : Patterns) (source : R)
    (it : StreamFindIter A R) where
  -- the first matches of a stream, and all of them
  pub first_of : EachRunFrom steps it (RunFindsFirst S p source) → EachRunFrom steps it (λ run. FindsBeginning S p source run.items)
  unfolding FindsBeginning
  first_of finds = λ run seen from. finds run seen from

  pub whole_of : EachRunFrom steps it (RunFindsAll S p source)
      → EachRunFrom steps it (λ run. run.whole ≡ true → is_limit_among run.items ≡ false → FindsWhole S p source run.items)
  unfolding FindsWhole
  whole_of finds = λ run seen from whole none. finds run seen from whole none
