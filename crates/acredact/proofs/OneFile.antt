-- What comes of one file, by what comes of its stream.
use Rattle.acredact.proofs.Common.{Appends-nil, AreCut, BeginsWriting, Bool, ComesOfReading, Consumes, Consumes-kept, Consumes-nil, Deed, EachName, Err, FailsByOutput, FromWrite, IfErr, IsStreamEnd, Keeps, Keeps-refl, List, None, OfName, Ok, OnOk, Option, Result, SinkGhosts, Some, SomeStream, SourceGhosts, StreamError, StreamOutcome, Task, WholeStream, WholeText, [], ap, arith, at_end, counted, false, inl, is_input, is_write_fault, is_write_of_nothing, refl, subst, true, ℕ, ◌∙◌, ◌∷◌, ◌≡◌, ◌≢◌}
use Rattle.acredact.specs.Common.{IsAtEnd, PositionLimit, Read}
use Rattle.std.proofs.KnownBytes.{Consumes-trans}
use Rattle.aho_core.specs.declared.error.stream.StreamError.TheVariants.{Match}
use Rattle.acredact.specs.Deeds.{SomeText}
use Rattle.acredact.specs.Faults.{reading_of}

-- what is so of a source or a sink is so of it where it was left
pub so_there : {R : Type 0} (there there' : R) (Is : R → Type 0) → there ≡ there' → Is there → Is there'
so_there there there' Is same is = subst Is same is

-- a stream that has seen no end before is at its end where it sees one
pub ends_by : {P : Type 0} (before after : ℕ) (ended : Bool) → before ≡ 0 → (after ≢ 0 → P) → after ≡ counted ended before → ended ≡ true → P
ends_by before after ended none ends count is =
    ends (λ zero. let one : after ≡ 1 = count ∙ ap (λ (b : Bool). counted b before) is ∙ ap (counted true) none in omega (arith, one, zero))

-- what a stream gave is what was read of a text of which no more is known
module _ {R : Type 0} (S : SourceGhosts R) (source source' : R) (known left' : Option (List ℕ)) (reads : (text : List ℕ) → Consumes (S.remaining source) (S.remaining source') text → Consumes known left' text)
    (none : S.empty_reads source ≡ 0) (ends : S.empty_reads source' ≢ 0 → IsAtEnd left') where
  pub whole_text : {Is : List ℕ → Type 0} → WholeStream S Is source source' → WholeText Is known left'
  whole_text whole = record {
    text = whole.text;
    reads = record { read = reads whole.text whole.gives.bytes; ended = ends_by (S.empty_reads source) (S.empty_reads source') true none ends whole.gives.end refl };
    is = whole.is;
  }

  pub some_text : {Is : List ℕ → Bool → Type 0} → SomeStream S Is source source' → SomeText Is known left'
  some_text some = record {
    given = some.given;
    ended = some.ended;
    read = reads some.given some.gives.bytes;
    at_end = ends_by (S.empty_reads source) (S.empty_reads source') some.ended none ends some.gives.end;
    is = some.is;
  }

  -- so what comes of the stream is what comes of the text: a read failed, or the stream is too long
  pub comes_by : {W : Type 0} (K : SinkGhosts W) (d : Deed) (sink sink' : W) (done : Result (Unit {0}) StreamError) → StreamOutcome S K d source source' sink sink' done
      → ComesOfReading (λ Reads. Reads known left') (λ reason. ⊥) d (reading_of done) (K.taken sink) (K.taken sink')
  comes_by K d sink sink' (Ok tt) of = whole_text of.redacted
  comes_by K d sink sink' (Err (Read fault)) of = inl (tt, some_text of.begun, some_text (of.near tt))
  comes_by K d sink sink' (Err PositionLimit) of = inl (tt, some_text of.begun, some_text (of.near tt))
  comes_by K d sink sink' (Err error) of = some_text of.begun

-- what is so of what it gave is so of what was read
pub begun_writing : {R : Type 0} (S : SourceGhosts R) (source source' : R) (before : Option (List ℕ)) → S.remaining source ≡ before → S.empty_reads source ≡ 0
    → ((bytes : List ℕ) → S.empty_reads source' ≢ 0 → S.remaining source' ≡ Some bytes → bytes ≡ []) → {Is : List ℕ → Bool → Type 0} → SomeStream S Is source source' → SomeText Is before (S.remaining source')
begun_writing S source source' before left none ended =
    some_text S source source' before (S.remaining source') (λ text read. subst (λ bytes. Consumes bytes (S.remaining source') text) left read) none (λ some. at_end (S.remaining source') (λ bytes known. ended bytes some known))

-- what an end of a stream means
pub reading_whole : {P : Type 0} (done : Result (Unit {0}) StreamError) → reading_of done ≡ Ok None → OnOk done P → P
reading_whole (Ok tt) is so = so
reading_whole (Err (Read fault)) is so = absurd (cc)
reading_whole (Err PositionLimit) is so = absurd (cc)
reading_whole (Err error) is so = absurd (cc)

pub reading_fails : {W : Type 0} (done : Result (Unit {0}) StreamError) (output output' : FromWrite W) → output'.failures ≡ counted (is_write_fault done) output.failures → output'.empty_writes ≡ counted (is_write_of_nothing done) output.empty_writes
    → IfErr done IsStreamEnd → FailsByOutput (reading_of done) output output'
reading_fails (Err (Match cause)) output output' failed nothing only = absurd only
reading_fails done output output' failed nothing only = record { write_failed = failed; took_nothing = nothing; only = tt }

-- the texts of what is known
pub known_read : (told left left' : Option (List ℕ)) (text : List ℕ) → Keeps told left → Consumes left left' text → Consumes told left' text
known_read told left left' text kept read = Consumes-trans told left left' [] text (Consumes-kept told told left [] (Consumes-nil told) kept) read

pub known_begun : (told left left' held held' : Option (List ℕ)) → Keeps told left → {Begins : List ℕ → Bool → List ℕ → Type 0} → BeginsWriting Begins left left' held held' → BeginsWriting Begins told left' held held'
known_begun told left left' held held' kept begun =
    record { given = begun.given; ended = begun.ended; read = known_read told left left' begun.given kept begun.read; at_end = begun.at_end; is = begun.is }

-- before anything was read or written
pub begun_nothing : (Begins : List ℕ → Bool → List ℕ → Type 0) → Begins [] false [] → (left held : Option (List ℕ)) → BeginsWriting Begins left left held held
begun_nothing Begins none left held =
    record { given = []; ended = false; read = Consumes-nil left; at_end = λ (is : false ≡ true). absurd (cc); is = ([], none, Appends-nil held) }

-- the file of a name was read from what was given of it to a rest: that of the input, or one of the folder, which may have told it
pub record IsFileRead (holds : List ℕ → Option (List ℕ)) (name : List ℕ) (given rest left left' : Option (List ℕ)) : Type 1 where
  pub known : Option (List ℕ)
  pub kept : Keeps known given
  pub of : (Reads : Option (List ℕ) → Option (List ℕ) → Type 0) → Reads known rest → OfName holds name Reads left left'

pub read_input : {holds : List ℕ → Option (List ℕ)} {name : List ℕ} {left left' : Option (List ℕ)} → is_input name ≡ true → IsFileRead holds name left left' left left'
read_input {holds} {name} {left} {left'} is = record { known = left; kept = Keeps-refl left; of = λ Reads reads. rw is reads }

pub read_opened : {holds : List ℕ → Option (List ℕ)} {name : List ℕ} {given rest left : Option (List ℕ)} → is_input name ≡ false → Keeps (holds name) given → IsFileRead holds name given rest left left
read_opened {holds} {name} {given} {rest} {left} is kept = record { known = holds name; kept = kept; of = λ Reads reads. rw is (refl, rest, reads) }

-- what is so of whatever was not read
pub name_unread : (holds : List ℕ → Option (List ℕ)) (name : List ℕ) (Reads : Option (List ℕ) → Option (List ℕ) → Type 0) (left : Option (List ℕ)) → ((l : Option (List ℕ)) → Reads l l) → OfName holds name Reads left left
name_unread holds name Reads left none = by (is_input name) refl
  where
    by : (b : Bool) → is_input name ≡ b → OfName holds name Reads left left
    by true is = rw is (none left)
    by false is = rw is (refl, holds name, none (holds name))

-- and of all names
pub each_none : (Does : List ℕ → (left left' held held' : Option (List ℕ)) → Type 0) → ((name : List ℕ) (left held : Option (List ℕ)) → Does name left left held held) → (names : List (List ℕ)) (left held : Option (List ℕ)) → EachName Does names left left held held
each_none Does none [] left held = (refl, Keeps-refl held)
each_none Does none (name ∷ names) left held = (left, held, none name left held, each_none Does none names left held)

-- nothing was read and written of any file
pub cut_none : (task : Task) → task.deed.begins [] false [] → (names : List (List ℕ)) (left held : Option (List ℕ)) → AreCut task names [] left left held held
cut_none task none [] left held = (refl, refl, Keeps-refl held)
cut_none task none (name ∷ names) left held =
    inl (refl, name_unread task.holds name (λ l l'. BeginsWriting task.deed.begins l l' held held) left (λ l. begun_nothing task.deed.begins none l held))
