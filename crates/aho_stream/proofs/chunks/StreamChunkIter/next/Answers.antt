-- What each way out lends.
use Rattle.std.proofs.Common.{◌≡◌, ◌++◌, ◌∙◌, ◌⊎◌, List, ℕ, Option, Result, Some, None, Ok, Err, Bor, refl, sym, ap, subst}
use Rattle.std.specs.Prelude.{slice_range}
use Rattle.aho_core.specs.declared.error.stream.StreamError.{StreamError}
use Rattle.aho_core.specs.Occurrence.{Occurrence}
use Rattle.aho_core.specs.Patterns.{Patterns}
use Rattle.aho_devices.specs.declared.device.Source.{Ghosts as SourceGhosts}
use Rattle.aho_automaton.specs.declared.automaton.Automaton.{Ghosts}
use Rattle.aho_stream.specs.Chunks.{FillsOnceTold, FillsNothing, AnswerTells, match_told, piece_of, tells_error}
use Rattle.aho_stream.specs.Iterators.{Advanced, HasGiven, Lends, LendsThese, StreamCall, automaton_of, chunk_lent, lookups_of, told_lent}
use Rattle.aho_stream.specs.declared.chunks.StreamChunk.{StreamChunk}
use Rattle.aho_stream.specs.declared.chunks.StreamChunkIter.{StreamChunkIter}
use Rattle.aho_stream.specs.declared.progress.StreamPiece.{StreamPiece}
use Rattle.aho_stream.specs.declared.progress.StreamPiece.TheVariants.{NonMatch, Match}
use Rattle.aho_stream.proofs.chunks.StreamChunkIter.next.Goals as goal

-- a chunk is what its match tells
piece_of-told : (piece : StreamPiece) → piece_of (match_told piece) ≡ piece
piece_of-told NonMatch = refl
piece_of-told (Match m) = refl

-- an answer says all that the answer of `advance` said which it tells
says : {A R : Type 0} (G : Ghosts A) (S : SourceGhosts R) (it it' : StreamChunkIter A R) (found : Option Occurrence) (error : StreamError) (told : Option (Result StreamPiece StreamError)) (answer : Option (Result StreamChunk (Bor StreamError)))
    → told ≡ told_lent answer
    → (advances : Advanced G S it it' told)
    → ((p : Patterns) (given : List ℕ) → G.is_of (automaton_of it) p → HasGiven G it p given → LendsThese answer (slice_range (given ++ advances.reads.bytes) it'.progress.told it'.progress.reported))
    → StreamCall S it it' told
    → Lends G S it (record it' { found = found; error = error }) answer
says G S it it' found error told answer is advances lent call = record {
  advances = record {
    reads = advances.reads;
    tells = λ p given of a. subst (AnswerTells p it.progress it'.progress (given ++ advances.reads.bytes)) is (advances.tells p given of a);
    prompt = subst (λ (r : Option (Result StreamPiece StreamError)). FillsNothing it.progress it'.progress advances.reads.bytes (tells_error r)
        ⊎ FillsOnceTold G (automaton_of it) (lookups_of it) it.progress it'.progress advances.reads.bytes (tells_error r)) is advances.prompt;
  };
  lent = lent;
  call = let lends = subst (StreamCall S it it') is call in record {
    same = lends.same;
    same_source = lends.same_source;
    limit = lends.limit;
    ended = lends.ended;
    stays_ended = lends.stays_ended;
    after_end = lends.after_end;
    after_limit = lends.after_limit;
    refused = lends.refused;
    read_failed = lends.read_failed;
  };
}

pub returns-in-None : goal.returns-in-None
returns-in-None g c =
    let e = c.advance.ensures in (
      (
        refl,
        λ x. tt,
        says _ _ _ c.advance.new.self c.advance.new.self.found c.advance.new.self.error c.advance.result None c.in-None.is e.advances (λ p given of a. tt) e.call,
      ),
      record { lends = tt },
    )

pub returns-in-Some-Err : goal.returns-in-Some-Err
returns-in-Some-Err g c =
    let e = c.advance.ensures in
    let is : c.advance.result ≡ Some (Err c.in-Some-Err.error) = c.in-Some-Err.is ∙ ap (λ (r : Result StreamPiece StreamError). Some r) c.in-Some-Err.field-0-is in (
      (
        refl,
        λ x. tt,
        says _ _ _ c.advance.new.self c.advance.new.self.found c.in-Some-Err.error c.advance.result _ is e.advances (λ p given of a. tt) e.call,
      ),
      record { lends = tt },
    )

pub returns-in-Some-Ok : goal.returns-in-Some-Ok
returns-in-Some-Ok g c =
    let s' = c.advance.new.self.progress in
    let e = c.advance.ensures in
    let piece = c.in-Some-Ok.piece in
    let is : c.advance.result ≡ Some (Ok piece) = c.in-Some-Ok.is ∙ ap (λ (r : Result StreamPiece StreamError). Some r) c.in-Some-Ok.field-0-is in
    let lent : (p : Patterns) (given : List ℕ) → _ → _ → chunk_lent c.lent.result ≡ (match_told piece, slice_range (given ++ e.advances.reads.bytes) s'.told s'.reported) =
    λ p given of a. (rw e.call.same at c.lent.ensures.chunk) p (given ++ e.advances.reads.bytes) of (e.advances.reads.is_after p given of a)
    ∙ ap (λ (m : Option Occurrence). (m, slice_range (given ++ e.advances.reads.bytes) s'.told s'.reported)) c.found-self.ensures.found in
    let (p, given, of, a) = c.requires.some in
    let told : c.advance.result ≡ told_lent (Some (Ok c.lent.result)) =
    is ∙ ap (λ (chunk : StreamPiece). Some (Ok chunk)) (sym (ap (λ (told : Option Occurrence × List ℕ). piece_of told.0) (lent p given of a) ∙ piece_of-told piece)) in (
      (
        refl,
        λ x. tt,
        says _ _ _ c.advance.new.self c.found-self.result c.advance.new.self.error c.advance.result _ told e.advances (λ p given of a. ap (λ (told : Option Occurrence × List ℕ). told.1) (lent p given of a)) e.call,
      ),
      record { lends = tt },
    )
