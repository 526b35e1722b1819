-- An iterator of the searcher that holds one of two others does what that one does.
use Rattle.std.proofs.Common.{◌≡◌, ◌∙◌, ℕ, true, false, List, ◌++◌, Option, None, Result, Ok, Err, sym, subst, ap}
use Rattle.std.specs.Prelude.{IfOk, length, take}
use Rattle.std.specs.Iterator.{Count, UpTo}
use Rattle.aho_core.specs.Cover.{AreRuns}
use Rattle.aho_core.specs.Occurrence.{Occurrence}
use Rattle.aho_core.specs.Overlapping.{all_occurrences}
use Rattle.aho_core.specs.Patterns.{Patterns}
use Rattle.aho_core.specs.Search.{Search}
use Rattle.aho_core.specs.declared.error.stream.StreamError.{StreamError}
use Rattle.aho_automaton.specs.Covering.{GivesFirstRuns, GivesRuns}
use Rattle.aho_automaton.specs.Fused.{IsFused}
use Rattle.aho_automaton.specs.Overlaps.{ListsAll, ListsFirst}
use Rattle.aho_devices.specs.declared.device.Source.{Ghosts as SourceGhosts}
use Rattle.aho_stream.specs.FindRuns.{FindsAll, FindsSoFar, is_limit_among}
use Rattle.chromesquid.proofs.Sides.{HoldsLeft, HoldsRight, back_left, back_right, each_run, fused_back, held_steps, yields_back}
use Rattle.chromesquid.specs.Covers.{RunsFor}
use Rattle.chromesquid.specs.Found.{ListsFor, most_listed}
use Rattle.chromesquid.specs.Searcher.{ForItsPatterns, IsBuiltFromSome, Searcher}
use Rattle.chromesquid.specs.Streams.{FindsBeginning, FindsFor, FindsOnward, FindsToLimit, FindsWhole}
use Rattle.either.specs.Either.{MatchEither, either}
use Rattle.either.specs.declared.Either.{Either}
use Rattle.either.specs.declared.Either.TheVariants.{Left, Right}

-- in memory
module _ {I O : Type 0} (inner : I → Option Occurrence → I → Type 0) (outer : O → Option Occurrence → O → Type 0) (Holds : O → I → Type 0)
    (back : (s : O) (i : I) (o : Option Occurrence) (t : O) → Holds s i → outer s o t → (j : I) × inner i o j × Holds t j)
    (can : I → Type 0) (can' : O → Type 0) (left : I → Count) (left' : O → Count) (searcher : Searcher) (s : O) (i : I) (holds : Holds s i) (may : can i → can' s) (count : left' s ≡ left i) where
  lists_back : (search : Search) → ListsFor can inner left searcher search i → ListsFor can' outer left' searcher search s
  lists_back search has = record {
    ready = may has.ready;
    lists = λ p built. each_run inner outer Holds back (λ items whole len. whole ≡ true → items ≡ all_occurrences p search.haystack search.start search.end) s i holds (has.lists p built);
    first = λ p built. each_run inner outer Holds back (λ items whole len. items ≡ take len (all_occurrences p search.haystack search.start search.end)) s i holds (has.first p built);
    bound = subst (λ (c : Count). UpTo c (most_listed searcher search)) (sym count) has.bound;
    fused = fused_back inner outer Holds back s i holds has.fused;
  }

  runs_back : (haystack : List ℕ) → RunsFor can inner left searcher haystack i → RunsFor can' outer left' searcher haystack s
  runs_back haystack has = record {
    ready = may has.ready;
    runs = λ p built. each_run inner outer Holds back (λ items whole len. whole ≡ true → AreRuns p haystack items) s i holds (has.runs p built);
    first = λ p built. each_run inner outer Holds back (λ items whole len. (rest : List Occurrence) × AreRuns p haystack (items ++ rest)) s i holds (has.first p built);
    bound = subst (λ (c : Count). UpTo c (length haystack)) (sym count) has.bound;
    fused = fused_back inner outer Holds back s i holds has.fused;
  }

-- of a stream
module _ {I O R : Type 0} (S : SourceGhosts R) (inner : I → Option (Result Occurrence StreamError) → I → Type 0) (outer : O → Option (Result Occurrence StreamError) → O → Type 0) (Holds : O → I → Type 0)
    (back : (s : O) (i : I) (o : Option (Result Occurrence StreamError)) (t : O) → Holds s i → outer s o t → (j : I) × inner i o j × Holds t j)
    (source_in : I → R) (source_in' : O → R) (same : (s : O) (i : I) → Holds s i → source_in' s ≡ source_in i) where
  onward_back : (p : Patterns) (s : O) (i : I) → Holds s i → FindsOnward S source_in inner p i → FindsOnward S source_in' outer p s
  onward_back p s i holds has = record {
    so_far = λ items rest yields.
        let moved = yields_back inner outer Holds back items s rest i holds yields in
        subst (λ (x : R). FindsSoFar S p x (source_in' rest) items) (sym (same s i holds))
        (subst (λ (x : R). FindsSoFar S p (source_in i) x items) (sym (same rest moved.0 moved.2)) (has.so_far items moved.0 moved.1));
    all = λ items rest yields none.
        let moved = yields_back inner outer Holds back items s yields.0 i holds yields.1 in
        let end = back yields.0 moved.0 None rest moved.2 yields.2 in
        subst (λ (x : R). FindsAll S p x (source_in' rest) items) (sym (same s i holds))
        (subst (λ (x : R). FindsAll S p (source_in i) x items) (sym (same rest end.0 end.2)) (has.all items end.0 (moved.0, moved.1, end.1) none));
  }

  finds_back : (can : I → Type 0) (can' : O → Type 0) (searcher : Searcher) (source : R) (s : O) (i : I) → Holds s i → (can i → can' s)
      → FindsFor S source_in can inner searcher source i → FindsFor S source_in' can' outer searcher source s
  finds_back can can' searcher source s i holds may has = record {
    ready = may has.ready;
    first = λ p built. each_run inner outer Holds back (λ items whole len. FindsBeginning S p source items) s i holds (has.first p built);
    finds = λ p built. each_run inner outer Holds back (λ items whole len. whole ≡ true → is_limit_among items ≡ false → FindsWhole S p source items) s i holds (has.finds p built);
    limit = λ p built. each_run inner outer Holds back (λ items whole len. is_limit_among items ≡ true → (left : R) × FindsToLimit S p source left whole items) s i holds (has.limit p built);
    along = λ p built. onward_back p s i holds (has.along p built);
  }

-- the one on the left or on the right
module _ {L R O : Type 0} (lefts : L → Option Occurrence → L → Type 0) (rights : R → Option Occurrence → R → Type 0) (by : O → Either L R)
    (can_l : L → Type 0) (can_r : R → Type 0) (left_l : L → Count) (left_r : R → Count) (searcher : Searcher) (s : O) where
  abbrev pub may_call : O → Type 0
  may_call t = MatchEither (by t) can_l can_r

  abbrev pub left_of : O → Count
  left_of t = either left_l left_r (by t)

  module _ (i : L) (holds : by s ≡ Left i) where
    pub lists_left : (search : Search) → ListsFor can_l lefts left_l searcher search i → ListsFor may_call (held_steps lefts rights by) left_of searcher search s
    lists_left = lists_back lefts (held_steps lefts rights by) (HoldsLeft lefts rights by) (back_left lefts rights by) can_l may_call left_l left_of searcher s i holds
        (λ can. subst (λ (e : Either L R). MatchEither e can_l can_r) (sym holds) can) (ap (either left_l left_r) holds)

    pub runs_left : (haystack : List ℕ) → RunsFor can_l lefts left_l searcher haystack i → RunsFor may_call (held_steps lefts rights by) left_of searcher haystack s
    runs_left = runs_back lefts (held_steps lefts rights by) (HoldsLeft lefts rights by) (back_left lefts rights by) can_l may_call left_l left_of searcher s i holds
        (λ can. subst (λ (e : Either L R). MatchEither e can_l can_r) (sym holds) can) (ap (either left_l left_r) holds)

  module _ (i : R) (holds : by s ≡ Right i) where
    pub lists_right : (search : Search) → ListsFor can_r rights left_r searcher search i → ListsFor may_call (held_steps lefts rights by) left_of searcher search s
    lists_right = lists_back rights (held_steps lefts rights by) (HoldsRight lefts rights by) (back_right lefts rights by) can_r may_call left_r left_of searcher s i holds
        (λ can. subst (λ (e : Either L R). MatchEither e can_l can_r) (sym holds) can) (ap (either left_l left_r) holds)

    pub runs_right : (haystack : List ℕ) → RunsFor can_r rights left_r searcher haystack i → RunsFor may_call (held_steps lefts rights by) left_of searcher haystack s
    runs_right = runs_back rights (held_steps lefts rights by) (HoldsRight lefts rights by) (back_right lefts rights by) can_r may_call left_r left_of searcher s i holds
        (λ can. subst (λ (e : Either L R). MatchEither e can_l can_r) (sym holds) can) (ap (either left_l left_r) holds)

-- and so of a stream
module _ {L R O U : Type 0} (S : SourceGhosts U) (lefts : L → Option (Result Occurrence StreamError) → L → Type 0) (rights : R → Option (Result Occurrence StreamError) → R → Type 0) (by : O → Either L R)
    (source_l : L → U) (source_r : R → U) (source : O → U) (is_either : (t : O) → source t ≡ either source_l source_r (by t))
    (can_l : L → Type 0) (can_r : R → Type 0) (searcher : Searcher) (from : U) (s : O) where
  abbrev may_ask : O → Type 0
  may_ask t = MatchEither (by t) can_l can_r

  pub finds_left : (i : L) → by s ≡ Left i → FindsFor S source_l can_l lefts searcher from i → FindsFor S source may_ask (held_steps lefts rights by) searcher from s
  finds_left i holds = finds_back S lefts (held_steps lefts rights by) (HoldsLeft lefts rights by) (back_left lefts rights by) source_l source
      (λ t j here. is_either t ∙ ap (either source_l source_r) here) can_l may_ask searcher from s i holds (λ can. subst (λ (e : Either L R). MatchEither e can_l can_r) (sym holds) can)

  pub finds_right : (i : R) → by s ≡ Right i → FindsFor S source_r can_r rights searcher from i → FindsFor S source may_ask (held_steps lefts rights by) searcher from s
  finds_right i holds = finds_back S rights (held_steps lefts rights by) (HoldsRight lefts rights by) (back_right lefts rights by) source_r source
      (λ t j here. is_either t ∙ ap (either source_l source_r) here) can_r may_ask searcher from s i holds (λ can. subst (λ (e : Either L R). MatchEither e can_l can_r) (sym holds) can)

-- what an automaton's iterator gives, where it is of all patterns that the searcher was built from
module _ {I E : Type 0} (can : I → Type 0) (gives : I → Option Occurrence → I → Type 0) (left : I → Count) (searcher : Searcher) (is_of : Patterns → Type 0) (some : IsBuiltFromSome searcher)
    (of : ForItsPatterns searcher is_of) where
  pub runs_for : (haystack : List ℕ) (r : Result I E) → IfOk r can → ((p : Patterns) → is_of p → IfOk r (GivesRuns gives p haystack))
      → ((p : Patterns) → is_of p → IfOk r (GivesFirstRuns gives p haystack)) → IfOk r (λ it. UpTo (left it) (length haystack)) → IfOk r (IsFused gives)
      → IfOk r (RunsFor can gives left searcher haystack)
  runs_for haystack (Ok it) ready runs first bound fused = record {
    ready = ready;
    runs = λ p built. runs p (of p built);
    first = λ p built. first p (of p built);
    bound = bound;
    fused = fused;
  }
  runs_for haystack (Err error) ready runs first bound fused = tt

  pub lists_for : (search : Search) (most : ℕ) → most ≡ most_listed searcher search → (r : Result I E) → ((p : Patterns) → is_of p → IfOk r can)
      → ((p : Patterns) → is_of p → IfOk r (ListsAll gives p search)) → ((p : Patterns) → is_of p → IfOk r (ListsFirst gives p search))
      → IfOk r (λ it. UpTo (left it) most) → ((p : Patterns) → is_of p → IfOk r (IsFused gives)) → IfOk r (ListsFor can gives left searcher search)
  lists_for search most same (Ok it) ready lists first bound fused = record {
    ready = ready some.0 (of some.0 some.1);
    lists = λ p built. lists p (of p built);
    first = λ p built. first p (of p built);
    bound = subst (λ (n : ℕ). UpTo (left it) n) same bound;
    fused = fused some.0 (of some.0 some.1);
  }
  lists_for search most same (Err error) ready lists first bound fused = tt
