-- What the replacement of a stream writes is what is asked for.
use Rattle.std.proofs.Common.{◌≡◌, ◌≢◌, ℕ, List, ◌++◌, Option, true, length, refl, sym, ap, subst, ◌∙◌, append-nil, le_refl, arith}
use Rattle.std.specs.Prelude.{None, Result, Ok, Err, OnOk}
use Rattle.std.specs.Io.{StartsWith}
use Rattle.std.specs.Io.KnownBytes.{Consumes, IsAtEnd, Keeps}
use Rattle.std.proofs.KnownBytes.{Appends-kept}
use Rattle.std.proofs.Math.Seq.{take-length}
use Rattle.aho_core.specs.Iteration.{AreFinds}
use Rattle.aho_core.specs.Patterns.{Patterns}
use Rattle.aho_core.specs.Replacement.{replaced}
use Rattle.aho_stream.specs.Refills.{is_limit}
use Rattle.aho_stream.specs.Replacing.{BeginsReplacing, ReplacesStream, ReplacesStreamUpTo}
use Rattle.aho_devices.specs.Counts.{counted}
use Rattle.aho_devices.specs.declared.device.Sink.{Ghosts as SinkGhosts}
use Rattle.aho_devices.specs.declared.device.Source.{Ghosts as SourceGhosts}
use Rattle.tool_parts.specs.Answers.{BeginsReplacement, WritesMost, WritesReplacement}
use Rattle.tool_parts.specs.Streams.{Contents}
use Rattle.aho_core.specs.declared.error.stream.StreamError.{StreamError}
use Rattle.aho_core.specs.declared.error.stream.StreamError.TheVariants.{Match, Read, Write, WriteZero, Memory, PositionLimit}
use Rattle.aho_core.specs.Search.{plain_search}
use Rattle.aho_laws.proofs.Iterations.{finds-exist, finds-unique}
use Rattle.aho_devices.specs.Refusals.{IsFillRefusal}
use Rattle.aho_stream.specs.Replacing.{IsMakingRefusal}
use Rattle.tool_parts.specs.Asked.{Replacing, patterns_to_replace}
use Rattle.tool_parts.specs.Failures.{IsOfWrite, LeavesReplacing, failure_of_stream}
use Rattle.tool_parts.specs.declared.failure.Failure.{Failure}
use Rattle.tool_parts.specs.declared.failure.Failure.TheVariants.{Usage, Build, Search, OutOfMemory, PositionLimit as LimitMet, Read as ReadFailed, Write as WriteFailed, WriteZero as TookNothing}

-- what was refused before the stream was begun leaves all untouched
pub leaves_stream : {untouched begun most given : Type 0} (error : StreamError) → (IsMakingRefusal error → untouched) → begun → (IsFillRefusal error → most) → (is_limit {A = Unit {0}} (Err error) ≡ true → given)
    → LeavesReplacing untouched begun most given (failure_of_stream error)
leaves_stream (Match cause) same some near full = same tt
leaves_stream (Read fault) same some near full = (some, near tt)
leaves_stream (Write fault) same some near full = some
leaves_stream WriteZero same some near full = some
leaves_stream Memory same some near full = same tt
leaves_stream PositionLimit same some near full = (some, near tt, full refl)

-- once the end was seen, what counted none before counts one
one_end : (reads reads' : ℕ) → reads ≡ 0 → reads' ≡ counted true reads → reads' ≢ 0
one_end reads reads' none rises zero = let one : reads' ≡ 1 = rises ∙ ap (counted true) none in omega (arith, one, zero)

-- the replacement of a stream, from a source that has so much left and has seen no end, is what was asked for
pub replaces_asked : {R W : Type 0} {S : SourceGhosts R} {K : SinkGhosts W} {AreSearched : Patterns → Type 0} {source source' : R} {sink sink' : W} (asked : Replacing)
    → ReplacesStream S K AreSearched asked.pieces source source' sink sink' → AreSearched (patterns_to_replace asked)
    → {before : Option (List ℕ)} → S.remaining source ≡ before → S.empty_reads source ≡ 0 → (S.empty_reads source' ≢ 0 → IsAtEnd (S.remaining source'))
    → WritesReplacement (record { left_before = before; left_after = S.remaining source'; held_before = K.taken sink; held_after = K.taken sink' }) asked
replaces_asked {S = S} {source = source} {source' = source'} asked whole of left none ends =
    let exist = finds-exist (patterns_to_replace asked) (plain_search whole.given) None (le_refl (length whole.given)) in
    record {
      text = whole.given;
      read = subst (λ bytes. Consumes bytes (S.remaining source') whole.given) left whole.gives.bytes;
      ended = ends (one_end (S.empty_reads source) (S.empty_reads source') none whole.gives.end);
      matches = exist.0;
      found = exist.1;
      written = whole.writes (patterns_to_replace asked) exist.0 of exist.1;
    }

pub begins_asked : {R W : Type 0} {S : SourceGhosts R} {K : SinkGhosts W} {AreSearched : Patterns → Type 0} {source source' : R} {sink sink' : W} (asked : Replacing)
    → BeginsReplacing S K AreSearched asked.pieces source source' sink sink' → AreSearched (patterns_to_replace asked)
    → {before : Option (List ℕ)} → S.remaining source ≡ before → S.empty_reads source ≡ 0 → (S.empty_reads source' ≢ 0 → IsAtEnd (S.remaining source'))
    → BeginsReplacement (record { left_before = before; left_after = S.remaining source'; held_before = K.taken sink; held_after = K.taken sink' }) asked
begins_asked {S = S} {source = source} {source' = source'} asked begun of left none ends = record {
  text = begun.given;
  read = subst (λ bytes. Consumes bytes (S.remaining source') begun.given) left begun.gives.bytes;
  ended = begun.ended;
  at_end = λ is. ends (one_end (S.empty_reads source) (S.empty_reads source') none (begun.gives.end ∙ ap (λ ended. counted ended (S.empty_reads source)) is));
  written = begun.written;
  grown = begun.writes;
  beginning = λ bytes ms may finds. begun.beginning (patterns_to_replace asked) bytes ms of may finds;
}

pub most_asked : {R W : Type 0} {S : SourceGhosts R} {K : SinkGhosts W} {AreSearched : Patterns → Type 0} {source source' : R} {sink sink' : W} (asked : Replacing)
    → ReplacesStreamUpTo S K AreSearched asked.pieces source source' sink sink' → AreSearched (patterns_to_replace asked)
    → {before : Option (List ℕ)} → S.remaining source ≡ before → S.empty_reads source ≡ 0 → (S.empty_reads source' ≢ 0 → IsAtEnd (S.remaining source'))
    → WritesMost (record { left_before = before; left_after = S.remaining source'; held_before = K.taken sink; held_after = K.taken sink' }) asked
most_asked {S = S} {source = source} {source' = source'} asked up of left none ends = record {
  text = up.given;
  read = subst (λ bytes. Consumes bytes (S.remaining source') up.given) left up.gives.bytes;
  ended = up.ended;
  at_end = λ is. ends (one_end (S.empty_reads source) (S.empty_reads source') none (up.gives.end ∙ ap (λ ended. counted ended (S.empty_reads source)) is));
  place = up.place;
  within = up.within;
  near = up.near (patterns_to_replace asked) of;
  written = λ bytes ms may finds. up.writes (patterns_to_replace asked) bytes ms of may finds;
}

-- what holds anyway holds at Ok
pub ok_given : {X E : Type 0} {holds : Type 0} (result : Result X E) → holds → OnOk result holds
ok_given (Ok x) given = given
ok_given (Err error) given = tt

-- a flush keeps what was written
pub replaces_kept : {asked : Replacing} (bytes : Contents) {kept_after : Option (List ℕ)} → WritesReplacement bytes asked → Keeps bytes.held_after kept_after → WritesReplacement (record bytes { held_after = kept_after }) asked
replaces_kept bytes {kept_after = new} whole kept = record {
  text = whole.text;
  read = whole.read;
  ended = whole.ended;
  matches = whole.matches;
  found = whole.found;
  written = Appends-kept bytes.held_before bytes.held_after new _ whole.written kept;
}

-- the whole is a beginning
pub begins_whole : {asked : Replacing} {bytes : Contents} → WritesReplacement bytes asked → BeginsReplacement bytes asked
begins_whole {asked} whole = record {
  text = whole.text;
  read = whole.read;
  ended = true;
  at_end = λ is. whole.ended;
  written = replaced whole.text whole.matches asked.pieces;
  grown = whole.written;
  beginning = λ bytes ms may finds.
      let same : bytes ≡ whole.text = may.1 ∙ ap (λ more. whole.text ++ more) may.2 ∙ append-nil whole.text in
      let found : AreFinds (patterns_to_replace asked) (plain_search whole.text) None ms = subst (λ given. AreFinds (patterns_to_replace asked) (plain_search given) None ms) same finds in
      let equal : replaced whole.text whole.matches asked.pieces ≡ replaced bytes ms asked.pieces =
      ap (λ l. replaced whole.text l asked.pieces) (finds-unique _ _ _ _ _ whole.found found) ∙ ap (λ given. replaced given ms asked.pieces) (sym same) in
      subst (StartsWith (replaced bytes ms asked.pieces)) (sym equal) (take-length (replaced bytes ms asked.pieces));
}

-- a write's failure leaves what was begun
pub leaves_write : (untouched most given : Type 0) {begun : Type 0} (failure : Failure) → IsOfWrite failure → begun → LeavesReplacing untouched begun most given failure
leaves_write untouched most given Usage of some = absurd of
leaves_write untouched most given (Build error) of some = absurd of.0
leaves_write untouched most given (Search error) of some = absurd of
leaves_write untouched most given OutOfMemory of some = absurd of
leaves_write untouched most given LimitMet of some = absurd of
leaves_write untouched most given ReadFailed of some = absurd of
leaves_write untouched most given WriteFailed of some = some
leaves_write untouched most given TookNothing of some = some
