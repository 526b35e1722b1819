-- What calls write to a sink, one after another.
use Rattle.std.proofs.Common.{◌≡◌, ℕ, ◌+◌, List, [], ◌++◌, length, take, sym, subst, arith, append_assoc, ap, ◌∙◌, length-append}
use Rattle.std.specs.Prelude.{Option, Result, Ok, Err, OnErr, OnOk}
use Rattle.std.specs.Io.KnownBytes.{Appends}
use Rattle.std.proofs.KnownBytes.{Appends-nil, Appends-trans}
use Rattle.std.proofs.Math.Seq.{take-append-add}
use Rattle.aho_core.specs.Occurrence.{Occurrence}
use Rattle.aho_core.specs.Patterns.{Patterns}
use Rattle.aho_devices.specs.Counts.{AppendsBeginning}
use Rattle.aho_devices.specs.declared.device.Sink.{Ghosts as SinkGhosts}
use Rattle.aho_cover.specs.Counting.{Output, output_of, put_on}
use Rattle.aho_cover.specs.Writes.{WritesOn}
use Rattle.aho_cover.proofs.Counted.{counts_none, counts_then, put_nothing}

-- what is so in any case is so where a call fails, and where it does not
pub on_err : {X E : Type 0} (r : Result X E) (P : Type 0) → P → OnErr r P
on_err (Ok x) P h = tt
on_err (Err e) P h = h

pub on_ok : {X E : Type 0} (r : Result X E) (P : Type 0) → P → OnOk r P
on_ok (Ok x) P h = h
on_ok (Err e) P h = tt

-- what follows where a call fails
pub if_err : {X E : Type 0} (r : Result X E) (P Q : Type 0) → (P → Q) → OnErr r P → OnErr r Q
if_err (Ok x) P Q f h = tt
if_err (Err e) P Q f h = f h

pub if_ok : {X E : Type 0} (r : Result X E) (P Q : Type 0) → (P → Q) → OnOk r P → OnOk r Q
if_ok (Ok x) P Q f h = f h
if_ok (Err e) P Q f h = tt

pub if_both : {X E : Type 0} (r : Result X E) (P Q R : Type 0) → (P → Q → R) → OnOk r P → OnOk r Q → OnOk r R
if_both (Ok x) P Q R f h k = f h k
if_both (Err e) P Q R f h k = tt

-- some bytes, and a beginning of what stands behind them
pub appends_then : (a b c : Option (List ℕ)) (bytes piece : List ℕ) → Appends a b bytes → AppendsBeginning b c piece → AppendsBeginning a c (bytes ++ piece)
appends_then a b c bytes piece first (n, within, more) = (
  length bytes + n,
  omega (arith, length-append bytes piece),
  subst (Appends a c) (sym (take-append-add bytes piece n)) (Appends-trans a b c bytes (take n piece) first more),
)

-- more was put on, and then more
put_both : (written : Output) (bytes more : List ℕ) (runs later : List Occurrence) → put_on (put_on written bytes runs) more later ≡ put_on written (bytes ++ more) (runs ++ later)
put_both written bytes more runs later =
    ap (λ (xs : List ℕ). output_of xs ((written.runs ++ runs) ++ later)) (append_assoc written.bytes bytes more)
    ∙ ap (output_of (written.bytes ++ (bytes ++ more))) (append_assoc written.runs runs later)

module _ {W : Type 0} {K : SinkGhosts W} {one two three : W} {a b c : List ℕ} {X Y Z : Patterns → List ℕ → Output → Type 0} where
  pub writes_then : WritesOn K one two a b X Y → WritesOn K two three b c Y Z → WritesOn K one three a c X Z
  writes_then first second = record {
    bytes = first.bytes ++ second.bytes;
    appends = Appends-trans (K.taken one) (K.taken two) (K.taken three) first.bytes second.bytes first.appends second.appends;
    runs = first.runs ++ second.runs;
    counted = counts_then first.runs second.runs a b c first.counted second.counted;
    follows = λ p haystack written before. subst (Z p haystack) (put_both written first.bytes second.bytes first.runs second.runs)
        (second.follows p haystack (put_on written first.bytes first.runs) (first.follows p haystack written before));
  }

-- nothing is written
pub writes_nothing : {W : Type 0} (K : SinkGhosts W) (one : W) (counts : List ℕ) (X Y : Patterns → List ℕ → Output → Type 0) → ((p : Patterns) (haystack : List ℕ) (written : Output) → X p haystack written → Y p haystack written) → WritesOn K one one counts counts X Y
writes_nothing K one counts X Y follows = record {
  bytes = [];
  appends = Appends-nil (K.taken one);
  runs = [];
  counted = counts_none counts;
  follows = λ p haystack written before. subst (Y p haystack) (sym (put_nothing written)) (follows p haystack written before);
}

-- what holds before may be more, and what holds after less
module _ {W : Type 0} {K : SinkGhosts W} {one two : W} {a b : List ℕ} {X Y : Patterns → List ℕ → Output → Type 0} (X' Y' : Patterns → List ℕ → Output → Type 0) where
  pub writes_still : ((p : Patterns) (haystack : List ℕ) (written : Output) → X' p haystack written → X p haystack written) → ((p : Patterns) (haystack : List ℕ) (written : Output) → Y p haystack written → Y' p haystack written)
      → WritesOn K one two a b X Y → WritesOn K one two a b X' Y'
  writes_still stronger weaker writes = record {
    bytes = writes.bytes;
    appends = writes.appends;
    runs = writes.runs;
    counted = writes.counted;
    follows = λ p haystack written before. weaker p haystack (put_on written writes.bytes writes.runs) (writes.follows p haystack written (stronger p haystack written before));
  }

-- what is so of the bytes stays so
module _ {W : Type 0} {K : SinkGhosts W} {one two : W} {a b : List ℕ} {X Y : Patterns → List ℕ → Output → Type 0} (F : Patterns → List ℕ → Type 0) where
  pub writes_with : WritesOn K one two a b X Y → WritesOn K one two a b (λ p haystack written. X p haystack written × F p haystack) (λ p haystack written. Y p haystack written × F p haystack)
  writes_with writes = record {
    bytes = writes.bytes;
    appends = writes.appends;
    runs = writes.runs;
    counted = writes.counted;
    follows = λ p haystack written before. (writes.follows p haystack written before.0, before.1);
  }
