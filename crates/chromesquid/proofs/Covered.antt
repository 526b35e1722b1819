-- What the cover of a stream is, of the patterns that the searcher was built from, and when a searcher covers.
use Rattle.std.proofs.Common.{◌≡◌, ℕ, List, ap, sym, subst, ◌∙◌, arith}
use Rattle.std.proofs.lemmas.Bool.{cond-false, ne_eqb}
use Rattle.std.proofs.lemmas.Result.{IfErr-weaker, on_err_weaker, on_ok_weaker}
use Rattle.std.specs.Prelude.{Option, Some, None, Result, IfErr, OnErr, OnOk, nat_eq}
use Rattle.aho_core.specs.Laws.{shortest}
use Rattle.aho_core.specs.Patterns.{Patterns}
use Rattle.aho_core.specs.declared.error.MatchErrorKind.{MatchErrorKind}
use Rattle.aho_core.specs.declared.error.MatchErrorKind.TheVariants.{UnsupportedEmpty}
use Rattle.aho_core.specs.declared.error.stream.StreamError.{StreamError}
use Rattle.aho_core.specs.declared.search.Anchored.TheVariants.{No}
use Rattle.aho_core.specs.declared.search.MatchKind.{MatchKind}
use Rattle.aho_automaton.specs.CoverIters.{cover_refusal_of}
use Rattle.aho_automaton.specs.Covering.{cover_refusal, start_refusal}
use Rattle.aho_automaton.specs.declared.automaton.Automaton.{Ghosts as Automata}
use Rattle.aho_cover.specs.Covers.{BeginsCovering, CoversStream, CoversStreamUpTo, RefusesStreamCover}
use Rattle.aho_devices.specs.Refusals.{IsFillRefusal}
use Rattle.aho_devices.specs.declared.device.Sink.{Ghosts as SinkGhosts}
use Rattle.aho_devices.specs.declared.device.Source.{Ghosts as SourceGhosts}
use Rattle.chromesquid.specs.Covers.{CanCoverAll, IsCoverBegun, IsCoveredUpTo, IsStreamCovered, why_not_covered}
use Rattle.chromesquid.specs.Searcher.{IsBuiltFromSome, Searcher, StandsFor, lengths_of, match_kind_of, start_by}
use Rattle.chromesquid.proofs.Built.{start_of}

-- one that covers is not refused
pub none_refused : (searcher : Searcher) → IsBuiltFromSome searcher → CanCoverAll searcher → why_not_covered searcher ≡ None
none_refused searcher some can =
    let start = start_of No searcher some can.starts in
    ap (λ (kind : MatchKind). cover_refusal kind (lengths_of searcher) (start_by searcher No)) can.standard
    ∙ cond-false (nat_eq (shortest (lengths_of searcher)) 0) (Some UnsupportedEmpty) (start_refusal (start_by searcher No)) (ne_eqb (shortest (lengths_of searcher)) 0 (λ none. omega (arith, none, can.no_empty)))
    ∙ ap start_refusal start.1

-- so no reason is answered
pub not_refused : (searcher : Searcher) → IsBuiltFromSome searcher → CanCoverAll searcher → (reason : MatchErrorKind) → why_not_covered searcher ≡ Some reason → ⊥
not_refused searcher some can reason refused = let none : None ≡ Some reason = sym (none_refused searcher some can) ∙ refused in cc

-- an automaton that answers as the searcher does is refused for the same reason
pub refuses_as : {A T : Type 0} (G : Automata A) (automaton : A) (searcher : Searcher) → StandsFor G automaton searcher → (result : Result T StreamError)
    → RefusesStreamCover (cover_refusal_of G automaton) result → RefusesStreamCover (why_not_covered searcher) result
refuses_as G automaton searcher stands result =
    subst (λ (refusal : Option MatchErrorKind). RefusesStreamCover refusal result)
    (ap (λ (kind : MatchKind). cover_refusal kind (G.lengths automaton) (G.start automaton No)) stands.kind
    ∙ ap (λ (lengths : List ℕ). cover_refusal (match_kind_of searcher) lengths (G.start automaton No)) stands.lengths
    ∙ ap (λ (start : Result ℕ MatchErrorKind). cover_refusal (match_kind_of searcher) (lengths_of searcher) start) stands.start)

-- all patterns that an automaton is of, and one of them
module _ {R W : Type 0} (S : SourceGhosts R) (K : SinkGhosts W) (is_of : Patterns → Type 0) (p : Patterns) (of : is_of p) (pieces : List (List ℕ)) (source source' : R) (sink sink' : W) where
  of_one : (q : Patterns) → q ≡ p → is_of q
  of_one q same = subst is_of (sym same) of

  covers_of : CoversStream S K is_of pieces source source' sink sink' → IsStreamCovered S K p pieces source source' sink sink'
  covers_of whole = record {
    given = whole.given;
    gives = whole.gives;
    output = whole.output;
    writes = whole.writes;
    covers = λ q same. whole.covers q (of_one q same);
  }

  begins_of : BeginsCovering S K is_of pieces source source' sink sink' → IsCoverBegun S K p pieces source source' sink sink'
  begins_of begun = record {
    given = begun.given;
    ended = begun.ended;
    gives = begun.gives;
    written = begun.written;
    writes = begun.writes;
    beginning = λ q bytes output same may cover. begun.beginning q bytes output (of_one q same) may cover;
  }

  upto_of : CoversStreamUpTo S K is_of pieces source source' sink sink' → IsCoveredUpTo S K p pieces source source' sink sink'
  upto_of upto = record {
    given = upto.given;
    ended = upto.ended;
    gives = upto.gives;
    place = upto.place;
    within = upto.within;
    near = λ q at same. upto.near q at (of_one q same);
    prompt = λ q at same. upto.prompt q at (of_one q same);
    writes = λ q bytes runs same may are. upto.writes q bytes runs (of_one q same) may are;
  }

  module _ (r : Result (Unit {0}) StreamError) where
    pub covered_of : OnOk r (CoversStream S K is_of pieces source source' sink sink') → OnOk r (IsStreamCovered S K p pieces source source' sink sink')
    covered_of = on_ok_weaker r covers_of

    pub cover_begun_of : OnErr r (BeginsCovering S K is_of pieces source source' sink sink') → OnErr r (IsCoverBegun S K p pieces source source' sink sink')
    cover_begun_of = on_err_weaker r begins_of

    pub cover_near_of : IfErr r (λ error. IsFillRefusal error → CoversStreamUpTo S K is_of pieces source source' sink sink')
        → IfErr r (λ error. IsFillRefusal error → IsCoveredUpTo S K p pieces source source' sink sink')
    cover_near_of = IfErr-weaker r _ _ (λ error so refusal. upto_of (so refusal))
