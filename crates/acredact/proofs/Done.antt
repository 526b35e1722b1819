-- What comes of files, one after another.
use Rattle.acredact.proofs.Common.{AreCut, Bool, DoesTold, EachIsWritten, FailsByOutput, IsDone, List, NumbersRead, OfName, Ok, Option, Readers, Result, SinkGhosts, Streams, Task, TellsBytes, Volume, Writers, [], and_parts, ap, append-nil, are_none, bytes_left, false, inl, inr, output_bytes, refl, subst, sym, true, ℕ, ◌&&◌, ◌++◌, ◌∙◌, ◌∷◌, ◌≡◌}
use Rattle.acredact.specs.Files.{AreDone}
-- the lines of two
pub use Rattle.std.proofs.lemmas.List.Folds.{concat-append as concat_both}

pub none_both : (xs ys : List (List ℕ)) (first second both : Bool) → first ≡ are_none xs → second ≡ are_none ys → both ≡ first && second → both ≡ are_none (xs ++ ys)
none_both [] ys first second both is_first is_second is = is ∙ ap (λ (b : Bool). b && second) is_first ∙ is_second
none_both (x ∷ xs) ys first second both is_first is_second is = is ∙ ap (λ (b : Bool). b && second) is_first

-- both are so
pub all_so : {X : Type 0} (whole all : Bool) (result : Result Bool X) → result ≡ Ok (whole && all) → result ≡ Ok true → (whole ≡ true) × (all ≡ true)
all_so whole all result is so = and_parts whole all (cc)

some_none : (line : List ℕ) (rest : List (List ℕ)) → (line ∷ []) ++ rest ≡ [] → ⊥
some_none line rest is = cc

module _ (task : Task) where
  -- where nothing is told all files were redacted
  pub redacted_of : (names lines : List (List ℕ)) (left left' held held' : Option (List ℕ)) → lines ≡ [] → AreDone task names lines left left' held held' → EachIsWritten task names left left' held held'
  redacted_of [] lines left left' held held' none done = (done.1, done.2)
  redacted_of (name ∷ names) lines left left' held held' none (first, rest, are, between, meanwhile, inl is, others) =
      (between, meanwhile, (is.1, is.2), redacted_of names rest between left' meanwhile held' (sym (are ∙ ap (λ l. l ++ rest) is.0) ∙ none) others)
  redacted_of (name ∷ names) lines left left' held held' none (first, rest, are, between, meanwhile, inr (inl is), others) = absurd (some_none _ rest (sym (ap (λ l. l ++ rest) is.1) ∙ sym are ∙ none))
  redacted_of (name ∷ names) lines left left' held held' none (first, rest, are, between, meanwhile, inr (inr is), others) = absurd (some_none _ rest (sym (ap (λ l. l ++ rest) is.0) ∙ sym are ∙ none))

  -- what is done is cut behind all
  pub cut_of : (names lines : List (List ℕ)) (left left' held held' : Option (List ℕ)) → AreDone task names lines left left' held held' → AreCut task names lines left left' held held'
  cut_of [] lines left left' held held' done = done
  cut_of (name ∷ names) lines left left' held held' (first, rest, are, between, meanwhile, is, others) =
      inr (first, rest, are, between, meanwhile, is, cut_of names rest between left' meanwhile held' others)

-- one line is told of a file
pub told_line : {R W E : Type 0} {Reads : Readers R} (Writes : Writers W) (K : SinkGhosts E) (task : Task) (name line : List ℕ) {old new : Streams R W E Reads} {counts counts' : List ℕ} {volume volume' : Volume}
    → IsDone task name (line ∷ []) (bytes_left old.input) (bytes_left new.input) (output_bytes Writes old.output) (output_bytes Writes new.output) → TellsBytes K old.errors new.errors line
    → FailsByOutput {X = Bool} (Ok false) old.output new.output → volume'.files ≡ volume.files
    → (task.deed.measured ≡ true → NumbersRead (λ Reads. OfName task.holds name Reads (bytes_left old.input) (bytes_left new.input)) counts counts' volume.bytes volume'.bytes) → DoesTold Writes K task name (Ok false) old new counts counts' volume volume'
told_line Writes K task name line {old} {new} is tells fails files most = record {
  done = (line ∷ [], refl, (is, subst (TellsBytes K old.errors new.errors) (sym (append-nil line)) tells));
  cut = tt;
  whole = λ (is : Ok false ≡ Ok true). absurd (cc);
  fails = fails;
  files = files;
  most = most;
}
