-- What several calls of `advance` read and tell together, up to the next match.
use Rattle.std.proofs.Common.{◌≡◌, ℕ, ◌+◌, ◌⊎◌, ◌||◌, inl, inr, min, Bool, true, false, List, [], ◌++◌, length, refl, sym, ◌∙◌, ap, subst, arith, append_assoc, append-nil, length-append}
use Rattle.std.specs.Prelude.{Option, Some, None, Result, Ok, Err}
use Rattle.std.proofs.KnownBytes.{Consumes-nil, Consumes-trans}
use Rattle.aho_core.specs.Answer.{IsAnswer}
use Rattle.aho_core.specs.Occurrence.{Occurrence}
use Rattle.aho_core.specs.Patterns.{Patterns}
use Rattle.aho_core.specs.declared.error.stream.StreamError.{StreamError}
use Rattle.aho_core.specs.declared.error.stream.StreamError.TheVariants.{Match as Refused, Read as ReadFault, Write, WriteZero, Memory, PositionLimit}
use Rattle.aho_devices.specs.Buffer.{Buffered}
use Rattle.aho_devices.specs.Counts.{counted}
use Rattle.aho_devices.specs.Refusals.{is_read_fault}
use Rattle.aho_automaton.specs.declared.automaton.Automaton.{Ghosts}
use Rattle.aho_stream.specs.After.{IsAfter, search_from}
use Rattle.aho_stream.specs.Chunks.{Advances, DiesAt, FillsOnceTold, FillsNothing, NoneSettled, ReadsOn, AnswerTells, TellsError, TellsEnd, TellsMatch, TellsPlain, ends_between, match_told, tells_error, tells_limit}
use Rattle.aho_stream.specs.Finds.{FillsForMatch, Finds, FindsEnd, FindsError, FindsMatch}
use Rattle.aho_stream.specs.declared.progress.StreamProgress.{StreamProgress}
use Rattle.aho_stream.specs.declared.progress.StreamPiece.{StreamPiece}
use Rattle.aho_stream.specs.declared.progress.StreamPiece.TheVariants.{NonMatch, Match}

module _ {S : Type 0} (A : Ghosts S) (automaton : S) where
  abbrev IsOf : Patterns → Type 0
  IsOf = A.is_of automaton

  abbrev After : Patterns → ℕ → StreamProgress → List ℕ → Type 0
  After = IsAfter A automaton

  -- what was read since the last match, and that no match was settled before it was asked for
  pub record FindsReading (lookups lookups' : ℕ) (s s' : StreamProgress) (before after : Option (List ℕ)) (failed : Bool) : Type 0 where
    pub reads : ReadsOn A automaton lookups lookups' s s' before after
    pub prompt : FillsNothing s s' reads.bytes failed ⊎ FillsForMatch A automaton lookups s s' reads.bytes failed

  -- at first nothing was
  pub reading_none : (lookups : ℕ) (s : StreamProgress) (before : Option (List ℕ)) → FindsReading lookups lookups s s before before false
  reading_none lookups s before = record {
    reads = record {
      bytes = [];
      read = Consumes-nil before;
      closed = λ e. refl;
      is_after = λ p given of is. subst (After p lookups s) (sym (append-nil given)) is;
    };
    prompt = inl (refl, refl, refl, refl);
  }

  -- one call more
  read_then : (lookups mid lookups' : ℕ) (s t s' : StreamProgress) (before between after : Option (List ℕ)) (answer : Option (Result StreamPiece StreamError))
      → (s.ended ≡ true → t.ended ≡ true) → ReadsOn A automaton lookups mid s t before between → Advances A automaton mid lookups' t s' between after answer
      → ReadsOn A automaton lookups lookups' s s' before after
  read_then lookups mid lookups' s t s' before between after answer stays r a = record {
    bytes = r.bytes ++ a.reads.bytes;
    read = Consumes-trans before between after r.bytes a.reads.bytes r.read a.reads.read;
    closed = λ e. ap (λ (xs : List ℕ). xs ++ a.reads.bytes) (r.closed e) ∙ a.reads.closed (stays e);
    is_after = λ p given of is. subst (After p lookups' s') (append_assoc given r.bytes a.reads.bytes) (a.reads.is_after p (given ++ r.bytes) of (r.is_after p given of is));
  }

  -- its fill is the last one
  fill_now : (lookups mid lookups' : ℕ) (s t s' : StreamProgress) (before between : Option (List ℕ)) (late : List ℕ) (failed : Bool)
      → (r : ReadsOn A automaton lookups mid s t before between) → t.from ≡ s.from → ((p : Patterns) × (given : List ℕ) × IsOf p × After p lookups s given)
      → FillsOnceTold A automaton mid t s' late failed → FillsForMatch A automaton lookups s s' (r.bytes ++ late) failed
  fill_now lookups mid lookups' s t s' before between late failed r from some f = record {
    early = r.bytes ++ f.early;
    late = f.late;
    are_all = ap (λ (xs : List ℕ). r.bytes ++ xs) f.are_all ∙ sym (append_assoc r.bytes f.early f.late);
    told = λ p given of is. subst (λ (xs : List ℕ). NoneSettled p xs s.from) (append_assoc given r.bytes f.early)
        (subst (NoneSettled p ((given ++ r.bytes) ++ f.early)) from (f.told p (given ++ r.bytes) of (r.is_after p given of is)).settled);
    one_fill =
        let (p, given, of, is) = some in
        let now = r.is_after p given of is in
        omega (arith, f.one_fill, now.count, is.count, length-append given r.bytes, length-append r.bytes f.early);
    one_read = f.one_read;
  }

  -- where it read nothing, an earlier one stays the last
  fill_before : (lookups : ℕ) (s t s' : StreamProgress) (bytes late : List ℕ) (failed : Bool) → FillsNothing t s' late failed
      → FillsForMatch A automaton lookups s t bytes false → FillsForMatch A automaton lookups s s' (bytes ++ late) failed
  fill_before lookups s t s' bytes late failed nothing f = record {
    early = f.early;
    late = f.late;
    are_all = ap (λ (xs : List ℕ). bytes ++ xs) nothing.0 ∙ append-nil bytes ∙ f.are_all;
    told = f.told;
    one_fill = subst (λ (b : Buffered). length b.bytes ≡ min b.least (s.read + length f.early) + length f.late) (sym nothing.1) f.one_fill;
    one_read = subst (λ (failed : Bool). (s'.ended || failed) ≡ true → f.late ≡ []) (sym nothing.3)
        (subst (λ (ended : Bool). (ended || false) ≡ true → f.late ≡ []) (sym nothing.2) f.one_read);
  }

  -- and neither read anything
  fill_none : (s t s' : StreamProgress) (bytes late : List ℕ) (failed : Bool) → FillsNothing t s' late failed → FillsNothing s t bytes false → FillsNothing s s' (bytes ++ late) failed
  fill_none s t s' bytes late failed nothing before = (ap (λ (xs : List ℕ). xs ++ late) before.0 ∙ nothing.0, nothing.1 ∙ before.1, nothing.2 ∙ before.2, nothing.3)

  pub reading_then : (lookups mid lookups' : ℕ) (s t s' : StreamProgress) (before between after : Option (List ℕ)) (answer : Option (Result StreamPiece StreamError))
      → (s.ended ≡ true → t.ended ≡ true) → t.from ≡ s.from → ((p : Patterns) × (given : List ℕ) × IsOf p × After p lookups s given)
      → FindsReading lookups mid s t before between false → Advances A automaton mid lookups' t s' between after answer
      → FindsReading lookups lookups' s s' before after (tells_error answer)
  unfolding read_then
  reading_then lookups mid lookups' s t s' before between after answer stays from some r a = record {
    reads = read_then lookups mid lookups' s t s' before between after answer stays r.reads a;
    prompt = elim a.prompt [
      | inl nothing ↦ elim r.prompt [
        | inl none ↦ inl (fill_none s t s' r.reads.bytes a.reads.bytes (tells_error answer) nothing none)
        | inr fill ↦ inr (fill_before lookups s t s' r.reads.bytes a.reads.bytes (tells_error answer) nothing fill)
      ]
      | inr fill ↦ inr (fill_now lookups mid lookups' s t s' before between a.reads.bytes (tells_error answer) r.reads from some fill)
    ];
  }

  -- and then what its answer says of the match
  pub says_then : (lookups mid lookups' : ℕ) (s t s' : StreamProgress) (before between after : Option (List ℕ)) (answer : Option (Result StreamPiece StreamError)) (found : Option (Result Occurrence StreamError))
      (stays : s.ended ≡ true → t.ended ≡ true) (from : t.from ≡ s.from) (some : (p : Patterns) × (given : List ℕ) × IsOf p × After p lookups s given)
      (r : FindsReading lookups mid s t before between false) (a : Advances A automaton mid lookups' t s' between after answer)
      → ((p : Patterns) (given : List ℕ) → AnswerTells p t s' given answer → Finds p s s' given found)
      → (p : Patterns) (given : List ℕ) → IsOf p → After p lookups s given
      → Finds p s s' (given ++ (reading_then lookups mid lookups' s t s' before between after answer stays from some r a).reads.bytes) found
  unfolding read_then reading_then
  says_then lookups mid lookups' s t s' before between after answer found stays from some r a says p given of is =
      let bytes = r.reads.bytes in
      says p (given ++ (bytes ++ a.reads.bytes)) (subst (λ (xs : List ℕ). AnswerTells p t s' xs answer) (append_assoc given bytes a.reads.bytes) (a.tells p (given ++ bytes) of (r.reads.is_after p given of is)))

-- an answer's word on the match, by the end of the last match alone
pub match_found : (p : Patterns) (s t s' : StreamProgress) (given : List ℕ) (m : Occurrence) → t.from ≡ s.from → TellsMatch p t s' given m → FindsMatch p s s' given m
match_found p s t s' given m from tells = record {
  answer = λ more follows. subst (λ (x : ℕ). IsAnswer p (search_from x (given ++ more)) (Some m)) from (tells.answer more follows);
  settled = λ goes leftmost. subst (λ (x : ℕ). (place : ℕ) × DiesAt p given x place) from (tells.settled goes leftmost);
  read = tells.read;
  from = tells.from;
}

pub piece_found : (p : Patterns) (s t s' : StreamProgress) (given : List ℕ) (piece : StreamPiece) (m : Occurrence) → match_told piece ≡ Some m → t.from ≡ s.from → AnswerTells p t s' given (Some (Ok piece)) → Finds p s s' given (Some (Ok m))
piece_found p s t s' given NonMatch m e from tells = cc
piece_found p s t s' given (Match n) m e from tells = let same : n ≡ m = cc in subst (FindsMatch p s s' given) same (match_found p s t s' given n from tells)

-- a piece that tells no match tells bytes outside of every match
pub plain_told : (p : Patterns) (t s' : StreamProgress) (given : List ℕ) (piece : StreamPiece) → match_told piece ≡ None → AnswerTells p t s' given (Some (Ok piece)) → TellsPlain p t s' given
plain_told p t s' given NonMatch e tells = tells
plain_told p t s' given (Match m) e tells = cc

pub end_found : (p : Patterns) (s t s' : StreamProgress) (given : List ℕ) → t.from ≡ s.from → t.refused ≡ s.refused → TellsEnd p t s' given → FindsEnd p s s' given
end_found p s t s' given from refused tells = record {
  none = λ why. subst (λ (x : ℕ). IsAnswer p (search_from x given) None) (tells.still.from ∙ from) (tells.none why);
  over = elim tells.over [ inl both ↦ inl both | inr e ↦ inr (sym refused ∙ e) ];
  from = tells.still.from ∙ from;
}

pub error_found : (p : Patterns) (s t s' : StreamProgress) (given : List ℕ) (error : StreamError) → t.from ≡ s.from → t.refused ≡ s.refused → t.limit ≡ s.limit → TellsError p t s' given error → FindsError p s s' given error
error_found p s t s' given (Refused cause) from refused limit tells = tells
error_found p s t s' given (ReadFault reason) from refused limit tells = record { from = tells.still.from ∙ from; near = tells.near }
error_found p s t s' given (Write reason) from refused limit tells = tells
error_found p s t s' given WriteZero from refused limit tells = tells
error_found p s t s' given Memory from refused limit tells = tells
error_found p s t s' given PositionLimit from refused limit tells = record {
  fault = record { from = tells.fault.still.from ∙ from; near = tells.fault.near };
  unsettled = λ leftmost. subst (λ (x : ℕ). (place : ℕ) → DiesAt p given x place → ⊥) (tells.fault.still.from ∙ from) (tells.unsettled leftmost);
  reached = tells.reached ∙ limit;
  first = sym refused ∙ tells.first;
  refused = tells.refused;
}

-- whether an error is a failed read does not go by what is answered else
pub same_fault : (A B : Type 0) (error : StreamError) → is_read_fault {A = A} (Err error) ≡ is_read_fault {A = B} (Err error)
same_fault A B (Refused cause) = refl
same_fault A B (ReadFault reason) = refl
same_fault A B (Write reason) = refl
same_fault A B WriteZero = refl
same_fault A B Memory = refl
same_fault A B PositionLimit = refl

-- nor whether it is the limit
pub same_limit : (A B : Type 0) (error : StreamError) → tells_limit {A = A} (Some (Err error)) ≡ tells_limit {A = B} (Some (Err error))
same_limit A B (Refused cause) = refl
same_limit A B (ReadFault reason) = refl
same_limit A B (Write reason) = refl
same_limit A B WriteZero = refl
same_limit A B Memory = refl
same_limit A B PositionLimit = refl

-- the end is counted once
pub counted_then : (b m a : Bool) (first mid last : ℕ) → (b ≡ true → m ≡ true) → (m ≡ true → a ≡ true) → mid ≡ counted (ends_between b m) first → last ≡ counted (ends_between m a) mid → last ≡ counted (ends_between b a) first
counted_then true true true first mid last stays goes e f = f ∙ e
counted_then true true false first mid last stays goes e f = let impossible = goes refl in cc
counted_then true false a first mid last stays goes e f = let impossible = stays refl in cc
counted_then false true true first mid last stays goes e f = f ∙ e
counted_then false true false first mid last stays goes e f = let impossible = goes refl in cc
counted_then false false true first mid last stays goes e f = f ∙ ap (counted true) e
counted_then false false false first mid last stays goes e f = f ∙ e
