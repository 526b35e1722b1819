-- What was written to standard error, one part after another.
use Rattle.std.proofs.Common.{◌≡◌, inl, inr, ℕ, ◌-◌, ◌<◌, Bool, true, false, List, [], ◌∷◌, ◌++◌, refl, sym, ap, subst, ◌∙◌, append-nil, append_assoc, arith, length, Option, codes}
use Rattle.std.proofs.Math.ListN.{get_or}
use Rattle.std.proofs.lemmas.List.{take_all}
use Rattle.std.specs.Borrow.{Bor}
use Rattle.std.specs.Prelude.{drop, Result, Ok, Err, take}
use Rattle.std.specs.Io.KnownBytes.{Appends}
use Rattle.std.proofs.KnownBytes.{Appends-nil, Appends-trans}
use Rattle.std.proofs.lemmas.List.Folds.{concat-append}
use Rattle.std.specs.List.{concat}
use Rattle.std.specs.Result.{IsErrAnd}
use Rattle.aho_core.specs.Replacement.{pieces_of}
use Rattle.aho_core.specs.declared.error.stream.StreamError.{StreamError}
use Rattle.aho_core.specs.declared.error.stream.StreamError.TheVariants.{Match, Read, Write, WriteZero, Memory, PositionLimit}
use Rattle.aho_devices.specs.Counts.{AppendsBeginning, counted}
use Rattle.aho_devices.specs.Refusals.{IsWriteRefusal, is_write_fault, is_write_of_nothing}
use Rattle.aho_devices.specs.declared.device.Sink.{Ghosts as SinkGhosts}
use Rattle.tool_parts.specs.Telling.{NoneFailed, OneFailed, TellsBytes, TakesBytes}
use Rattle.tool_parts.specs.declared.errors.Errors.{Errors}
use Rattle.tool_parts.proofs.Beginnings.{beginning-later, beginning-more}

-- nothing is a beginning
beginning-nothing : (known : Option (List ℕ)) (bs : List ℕ) → AppendsBeginning known known bs
beginning-nothing known bs = (0, omega arith, Appends-nil known)

module _ {E : Type 0} (K : SinkGhosts E) where
  -- what failed later failed
  fails-later : (old mid new : E) → NoneFailed K old mid → OneFailed K mid new → OneFailed K old new
  fails-later old mid new none (inl failed) = inl (failed ∙ ap (counted true) none.failures)
  fails-later old mid new none (inr failed) = inr (failed ∙ ap (counted true) none.empty_writes)

  -- the write of a part that failed is counted
  fails-counted : (old new : E) (error : StreamError) → IsWriteRefusal error
      → K.failures new ≡ counted (is_write_fault {A = Unit {0}} (Err error)) (K.failures old) → K.empty_writes new ≡ counted (is_write_of_nothing {A = Unit {0}} (Err error)) (K.empty_writes old)
      → OneFailed K old new
  fails-counted old new (Match cause) of failed none = absurd of
  fails-counted old new (Read fault) of failed none = absurd of
  fails-counted old new (Write fault) of failed none = inl failed
  fails-counted old new WriteZero of failed none = inr none
  fails-counted old new Memory of failed none = absurd of
  fails-counted old new PositionLimit of failed none = absurd of

  -- the first of these parts are written
  pub record WritesFirst (old new : E) (parts rest : List (List ℕ)) : Type 0 where
    pub first : List (List ℕ)
    pub cut : parts ≡ first ++ rest
    pub written : Appends (K.taken old) (K.taken new) (concat first)
    pub none_failed : NoneFailed K old new

  -- a further one is
  pub first-more : (old mid new : E) (parts : List (List ℕ)) (part : List ℕ) (rest : List (List ℕ)) → WritesFirst old mid parts (part ∷ rest)
      → Appends (K.taken mid) (K.taken new) part → K.failures new ≡ K.failures mid → K.empty_writes new ≡ K.empty_writes mid → WritesFirst old new parts rest
  first-more old mid new parts part rest so_far written failures empty_writes = record {
    first = so_far.first ++ (part ∷ []);
    cut = so_far.cut ∙ sym (append_assoc so_far.first (part ∷ []) rest);
    written = subst (Appends (K.taken old) (K.taken new)) (sym (concat-append so_far.first (part ∷ []) ∙ ap (λ l. concat so_far.first ++ l) (append-nil part)))
        (Appends-trans (K.taken old) (K.taken mid) (K.taken new) (concat so_far.first) part so_far.written written);
    none_failed = record {
      failures = failures ∙ so_far.none_failed.failures;
      empty_writes = empty_writes ∙ so_far.none_failed.empty_writes;
    };
  }

  -- the write of a further one fails
  pub first-fails : (old mid new : E) (parts : List (List ℕ)) (part : List ℕ) (rest : List (List ℕ)) (error : StreamError) → WritesFirst old mid parts (part ∷ rest)
      → AppendsBeginning (K.taken mid) (K.taken new) part → IsWriteRefusal error
      → K.failures new ≡ counted (is_write_fault {A = Unit {0}} (Err error)) (K.failures mid) → K.empty_writes new ≡ counted (is_write_of_nothing {A = Unit {0}} (Err error)) (K.empty_writes mid)
      → TakesBytes K old new (concat parts) (Err error)
  first-fails old mid new parts part rest error so_far begun of failures empty_writes =
      let same : concat parts ≡ concat so_far.first ++ (part ++ concat rest) = ap concat so_far.cut ∙ concat-append so_far.first (part ∷ rest) in
      record {
        whole = tt;
        begun = subst (AppendsBeginning (K.taken old) (K.taken new)) (sym same)
            (beginning-later (K.taken old) (K.taken mid) (K.taken new) (concat so_far.first) (part ++ concat rest) so_far.written
            (beginning-more (K.taken mid) (K.taken new) part (concat rest) begun));
        none_failed = tt;
        one_failed = fails-later old mid new so_far.none_failed (fails-counted mid new error of failures empty_writes);
        only = of;
      }

  -- nothing is written
  pub tells-nothing : (e : Errors E) → TellsBytes K e e []
  tells-nothing e = record {
    begun = beginning-nothing (K.taken e.sink) [];
    whole = λ going. Appends-nil (K.taken e.sink);
    none_failed = λ going. record { failures = refl; empty_writes = refl };
    one_failed = λ one going. let clash : true ≡ false = sym one ∙ going in absurd (cc);
    ended = λ was. refl;
  }

  -- one part, and then another
  tells-parts : (old mid new : Errors E) (bs cs : List ℕ) (failed : Bool) → mid.failed ≡ failed → TellsBytes K old mid bs → TellsBytes K mid new cs → TellsBytes K old new (bs ++ cs)
  tells-parts old mid new bs cs true is first later =
      let all : TellsBytes K old mid (bs ++ cs) = record {
        begun = beginning-more (K.taken old.sink) (K.taken mid.sink) bs cs first.begun;
        whole = λ going. let clash : true ≡ false = sym is ∙ going in absurd (cc);
        none_failed = first.none_failed;
        one_failed = first.one_failed;
        ended = first.ended;
      } in
      subst (λ (e : Errors E). TellsBytes K old e (bs ++ cs)) (sym (later.ended is)) all
  tells-parts old mid new bs cs false is first later = record {
    begun = beginning-later (K.taken old.sink) (K.taken mid.sink) (K.taken new.sink) bs cs (first.whole is) later.begun;
    whole = λ going. Appends-trans (K.taken old.sink) (K.taken mid.sink) (K.taken new.sink) bs cs (first.whole is) (later.whole going);
    none_failed = λ going. record {
      failures = (later.none_failed going).failures ∙ (first.none_failed is).failures;
      empty_writes = (later.none_failed going).empty_writes ∙ (first.none_failed is).empty_writes;
    };
    one_failed = λ one going. fails-later old.sink mid.sink new.sink (first.none_failed is) (later.one_failed one is);
    ended = λ was. let clash : true ≡ false = sym was ∙ ap (λ (e : Errors E). e.failed) (sym (first.ended was)) ∙ is in absurd (cc);
  }

  pub tells-later : {old mid new : Errors E} {bs cs : List ℕ} → TellsBytes K old mid bs → TellsBytes K mid new cs → TellsBytes K old new (bs ++ cs)
  tells-later {old} {mid} {new} {bs} {cs} first later = tells-parts old mid new bs cs mid.failed refl first later

-- the first of some parts, and those behind it
pub parts-cut : (parts : List (Bor (List ℕ))) (d : Bor (List ℕ)) → 0 < length parts → pieces_of parts ≡ (get_or parts 0 d).now ∷ pieces_of (take (length parts - 1) (drop 1 parts))
parts-cut [] d some = absurd (omega (arith, some))
parts-cut (part ∷ []) d some = refl
parts-cut (part ∷ next ∷ rest) d some =
    ap (λ (l : List (Bor (List ℕ))). part.now ∷ pieces_of l) (sym (take_all (length (part ∷ next ∷ rest) - 1) (next ∷ rest) (omega arith)))

-- parts and a line end make a line
line-of_two : (a b e : List ℕ) → concat (a ∷ b ∷ e ∷ []) ≡ (a ++ b) ++ e
line-of_two a b e = ap (λ l. a ++ (b ++ l)) (append-nil e) ∙ sym (append_assoc a b e)

line-of_more : (a bs e : List ℕ) (rest : List (List ℕ)) → concat rest ≡ bs ++ e → concat (a ∷ rest) ≡ (a ++ bs) ++ e
line-of_more a bs e rest same = ap (λ l. a ++ l) same ∙ sym (append_assoc a bs e)

pub line-of_four : (a b c d e : List ℕ) → concat (a ∷ b ∷ c ∷ d ∷ e ∷ []) ≡ (a ++ (b ++ (c ++ d))) ++ e
line-of_four a b c d e = line-of_more a (b ++ (c ++ d)) e (b ∷ c ∷ d ∷ e ∷ []) (line-of_more b (c ++ d) e (c ∷ d ∷ e ∷ []) (line-of_two c d e))

pub line-of_six : (a b c d f h e : List ℕ) → concat (a ∷ b ∷ c ∷ d ∷ f ∷ h ∷ e ∷ []) ≡ (a ++ (b ++ (c ++ (d ++ (f ++ h))))) ++ e
line-of_six a b c d f h e = line-of_more a (b ++ (c ++ (d ++ (f ++ h)))) e (b ∷ c ∷ d ∷ f ∷ h ∷ e ∷ [])
    (line-of_more b (c ++ (d ++ (f ++ h))) e (c ∷ d ∷ f ∷ h ∷ e ∷ []) (line-of_four c d f h e))

pub line-of_three : (a b c e : List ℕ) → concat (a ∷ b ∷ c ∷ e ∷ []) ≡ (a ++ (b ++ c)) ++ e
line-of_three a b c e = line-of_more a (b ++ c) e (b ∷ c ∷ e ∷ []) (line-of_two b c e)

-- what stands before the cause, and what follows it
pub head-parts : (program name line : List ℕ) → (program ++ codes ": ") ++ (name ++ line) ≡ program ++ (codes ": " ++ (name ++ line))
head-parts program name line = append_assoc program (codes ": ") (name ++ line)

-- an error that is handed on is that of the write
pub handed-on : {E : Type 0} (K : SinkGhosts E) (old new : E) (bytes : List ℕ) (result : Result Unit StreamError) (error : StreamError) → IsErrAnd result (λ e. e ≡ error)
    → TakesBytes K old new bytes (Err error) → TakesBytes K old new bytes result
handed-on K old new bytes (Ok x) error is written = absurd is
handed-on K old new bytes (Err e) error is written = subst (λ (e : StreamError). TakesBytes K old new bytes (Err e)) (sym is) written
