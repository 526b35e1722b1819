-- What a message tells is one that may be told.
use Rattle.acgrep.proofs.Common.{Errors, IsOneOf, Job, Lines, Matches, Nothing, Objects, Outcome, Seen, Shown, SinkGhosts, Source, Tells, TellsBytes, TellsSome, Unread, common_steps, get_or, reason_text, some-one, some-tells, some-then, some-weaker}
use Rattle.std.proofs.Common.{◌++◌, ◌<◌, ◌∙◌, ◌∷◌, ◌≡◌, ◌≤◌, ◌⊎◌, Bool, Bor, List, None, Option, Some, [], ap, arith, codes, false, inl, inr, length, refl, subst, sym, true, ℕ}
use Rattle.std.specs.Prelude.{IfSome, MatchBool, if◌then◌else◌, nat_lt, slice_index_or}
use Rattle.tool_parts.proofs.Lines.{tells-none, tells-weaker, then-some}
use Rattle.std.specs.Str.{is_utf8}
use Rattle.tool_parts.specs.Messages.{message_of}
use Rattle.acgrep.specs.Arguments.{origin_of}
use Rattle.acgrep.specs.Files.{IsNamed, shown_name}
use Rattle.acgrep.specs.InTurn.{is_enough, seen_after, status_by}
use Rattle.acgrep.specs.Runs.{origins_of}
use Rattle.acgrep.specs.Told.{IsMessage, IsToldCause, IsUnopened, MayName, StaysOrFails, TellsIf, TellsOfOutcome, TellsOutcome, TellsStatus, files_told, no_text_text, obstacle_text, shown_names, source_names}
use Rattle.acgrep.specs.declared.arguments.Source.TheVariants.{File}
use Rattle.acgrep.specs.declared.failure.Obstacle.{Obstacle}
use Rattle.acgrep.specs.declared.failure.Obstacle.TheVariants.{Closed, Fault, Loop, Output}
use Rattle.acgrep.specs.declared.files.Outcome.TheVariants.{Searched, Stopped}
use Rattle.acgrep.specs.declared.options.Shown.TheVariants.{Count, Lacking, Names}
use Rattle.acgrep.proofs.InTurn.{enough_only}
use Prim.Native.Nat.{zero, suc}

-- a name is among more names
pub among-first : (name : List ℕ) (names more : List (List ℕ)) → IsOneOf name names → IsOneOf name (names ++ more)
among-first name [] more is = absurd is
among-first name (n ∷ names) more (inl is) = inl is
among-first name (n ∷ names) more (inr is) = inr (among-first name names more is)

pub among-later : (name : List ℕ) (names more : List (List ℕ)) → IsOneOf name more → IsOneOf name (names ++ more)
among-later name [] more is = is
among-later name (n ∷ names) more is = inr (among-later name names more is)

-- a message that names one of some files names one of more files
pub message-more : (names all : List (List ℕ)) → ((name : List ℕ) → IsOneOf name names → IsOneOf name all) → (line : List ℕ) → IsMessage names line → IsMessage all line
message-more names all more line m = record {
  message = m.message;
  name = named m.message.name m.name;
  cause = m.cause;
  is = m.is;
}
  where
    may : (name : List ℕ) → MayName names name → MayName all name
    may name (inl other) = inl other
    may name (inr file) = inr (more name file)

    named : (name : Option (List ℕ)) → IfSome name (MayName names) → IfSome name (MayName all)
    named None is = tt
    named (Some name) is = may name is

module _ {E : Type 0} (K : SinkGhosts E) (names : List (List ℕ)) where
  -- a message that may be told is one line
  pub tells-cause : (old new : Errors E) (name : Option (List ℕ)) (line : Option ℕ) (cause : List ℕ) → IfSome name (MayName names) → (IsToldCause cause ⊎ IsUnopened name cause)
      → TellsBytes K old new (message_of (codes "acgrep") name line cause) → TellsSome K (IsMessage names) old new
  tells-cause old new name line cause named caused told =
      some-one K (IsMessage names) old new (message_of (codes "acgrep") name line cause) (record { message = record { name = name; line = line; cause = cause }; name = named; cause = caused; is = refl }) told

-- what keeps a file from being searched is a cause that is told
pub obstacle_caused : (name : List ℕ) (why : Obstacle) → IsToldCause (obstacle_text name why) ⊎ IsUnopened (Some name) (obstacle_text name why)
obstacle_caused name Output = inl (inr (inr (inr (inr (inl refl)))))
obstacle_caused name Loop = inl (inr (inr (inr (inl refl))))
obstacle_caused name (Fault reason) = inl (inl (reason, refl))
obstacle_caused name (Closed reason) = closed (is_utf8 name) refl
  where
    closed : (is : Bool) → is_utf8 name ≡ is → IsToldCause (if is then reason_text reason else no_text_text) ⊎ IsUnopened (Some name) (if is then reason_text reason else no_text_text)
    closed true text = inl (inl (reason, refl))
    closed false other = inr (other, refl)

-- a source is among the names of all
pub source-among : (sources : List Source) (i : ℕ) (d : Source) → i < length sources → IsOneOf (origin_of (get_or sources i d)).bytes (source_names (origins_of sources))
source-among [] i d lt = absurd (omega (arith, lt))
source-among (source ∷ sources) zero d lt = inl refl
source-among (source ∷ sources) (suc i) d lt = inr (source-among sources i d (omega (arith, lt)))

-- a source that was found names a file among those of all
pub source-found : (sources : List Source) (number : ℕ) (source : Source) (name : Bor (List ℕ)) (d : Source) → true ≡ nat_lt number (length sources) → source ≡ slice_index_or sources number d
    → source ≡ File name → MayName (source_names (origins_of sources)) name.now
source-found sources number source name d within found is =
    let lt : number < length sources = grind (arith, common_steps, within) in
    let same : (origin_of (get_or sources number d)).bytes ≡ name.now = ap (λ (s : Source). (origin_of s).bytes) (sym found ∙ is) in
    inr (subst (λ (n : List ℕ). IsOneOf n (source_names (origins_of sources))) same (source-among sources number d lt))

module _ {E : Type 0} (K : SinkGhosts E) (P : List ℕ → Type 0) where
  -- what is told of a file, or not, and then something
  pub unread-then : (hushed : Bool) (old mid new : Errors E) → TellsOutcome K P hushed Unread old mid → TellsSome K P mid new → TellsSome K P old new
  unread-then true old mid new same some = subst (λ (e : Errors E). TellsSome K P e new) same some
  unread-then false old mid new told some = some-then K P old mid new told (some-tells K P mid new some)

  -- what was told of files so far
  if-tells : (hushed failed : Bool) (old new : Errors E) → TellsIf K P hushed failed old new → Tells K P old new
  if-tells hushed false old new same = subst (Tells K P old) (sym same) (tells-none K P old)
  if-tells true true old new tells = tells
  if-tells false true old new some = some-tells K P old new some

  -- what is told of one file, and then of others
  pub if-more : (hushed : Bool) (old mid new : Errors E) (outcome : Outcome) (shown : Shown) (seen : Seen) → TellsIf K P hushed seen.failed old mid → TellsOutcome K P hushed outcome mid new
      → TellsIf K P hushed (seen_after shown seen outcome).failed old new
  if-more hushed old mid new (Searched any) shown seen before now = subst (λ (e : Errors E). TellsIf K P hushed seen.failed old e) (sym now) before
  if-more true old mid new Unread shown seen before now = subst (Tells K P old) (sym now) (if-tells true seen.failed old mid before)
  if-more true old mid new Stopped shown seen before now = some-tells K P old new (then-some K P old mid new (if-tells true seen.failed old mid before) now)
  if-more false old mid new _ shown seen before now = then-some K P old mid new (if-tells false seen.failed old mid before) now

  -- nothing is told, and the status tells of no error
  pub status-none : (hushed : Bool) (shown : Shown) (status : ℕ) (e : Errors E) → status < 2 → TellsStatus K P hushed shown status e e
  status-none hushed shown status e low = record {
    tells = tells-none K P e;
    silent = λ is loud. refl;
    some = λ told two. absurd (omega (arith, low, two));
  }

  -- a line is told, and the status tells it
  pub status-some : (hushed : Bool) (shown : Shown) (old new : Errors E) → TellsSome K P old new → TellsStatus K P hushed shown 2 old new
  status-some hushed shown old new some = record {
    tells = some-tells K P old new some;
    silent = λ low loud. absurd (omega (arith, low));
    some = λ told two. some;
  }

  -- the status tells what was seen
  pub status-seen : (hushed : Bool) (shown : Shown) (seen : Seen) (old new : Errors E) → TellsIf K P hushed seen.failed old new → TellsStatus K P hushed shown (status_by shown seen) old new
  status-seen hushed shown seen old new told = by seen.failed refl
    where
      below : (shown : Shown) (selected failed : Bool) → failed ≡ false → (if is_enough shown selected then 0 else (if failed then 2 else (if selected then 0 else 1))) < 2
      below shown selected failed clean = grind (arith, common_steps)

      quiet : (shown : Shown) (selected failed : Bool) → failed ≡ true → (if is_enough shown selected then 0 else (if failed then 2 else (if selected then 0 else 1))) < 2 → (shown ≡ Nothing → ⊥) → ⊥
      quiet shown selected failed is low loud =
          let enough : is_enough shown selected ≡ true = grind (arith, common_steps) in
          loud (enough_only shown selected enough).0

      by : (b : Bool) → seen.failed ≡ b → TellsStatus K P hushed shown (status_by shown seen) old new
      by false clean = record {
        tells = if-tells hushed seen.failed old new told;
        silent = λ low loud. subst (λ (b : Bool). TellsIf K P hushed b old new) clean told;
        some = λ asked two. let none : status_by shown seen < 2 = below shown seen.selected seen.failed clean in absurd (omega (arith, two, none));
      }
      by true failed = record {
        tells = if-tells hushed seen.failed old new told;
        silent = λ low loud. absurd (quiet shown seen.selected seen.failed failed low loud);
        some = λ asked two.
            let some : MatchBool hushed (Tells K P old new) (TellsSome K P old new) = subst (λ (b : Bool). TellsIf K P hushed b old new) failed told in
            subst (λ (b : Bool). MatchBool b (Tells K P old new) (TellsSome K P old new)) asked some;
      }

  -- another status that tells of an error where this one does
  pub status-as : (hushed : Bool) (shown : Shown) (status status' : ℕ) (old new : Errors E) → (status' < 2 → status < 2) → (status' ≡ 2 → status ≡ 2) → TellsStatus K P hushed shown status old new
      → TellsStatus K P hushed shown status' old new
  status-as hushed shown status status' old new low failed told =
      record { tells = told.tells; silent = λ is loud. told.silent (low is) loud; some = λ asked two. told.some asked (failed two) }

  -- what may be told in one case may be in another
  pub status-weaker : (Q : List ℕ → Type 0) (hushed : Bool) (shown : Shown) (status : ℕ) (old new : Errors E) → ((line : List ℕ) → P line → Q line) → TellsStatus K P hushed shown status old new
      → TellsStatus K Q hushed shown status old new
  status-weaker Q hushed shown status old new may told = record {
    tells = tells-weaker K P Q old new may told.tells;
    silent = told.silent;
    some = λ asked two. some-weaker K P Q old new may (told.some asked two);
  }

-- what is told of a file that is called so
pub told-named : {E : Type 0} (K : SinkGhosts E) (job named : Job) (name : List ℕ) (follows : Bool) → IsNamed job name follows named → (outcome : Outcome) (old new : Errors E)
    → TellsOfOutcome K named.hushed named.style.name.now outcome old new → TellsOfOutcome K job.hushed name outcome old new
told-named K job named name follows is outcome old new told = λ names within.
    let hushed = ap (λ (j : Job). j.hushed) is.is in
    let called : name ≡ named.style.name.now = sym is.of ∙ sym (ap (λ (j : Job). j.style.name.now) is.is) in
    subst (λ (b : Bool). TellsOutcome K (IsMessage names) b outcome old new) hushed (told names (λ asked. subst (λ (n : List ℕ). IsOneOf n names) called (within (sym hushed ∙ asked))))

-- each of these names is among others
abbrev pub AreWithin : List (List ℕ) → List (List ℕ) → Type 0
AreWithin names all = (name : List ℕ) → IsOneOf name names → IsOneOf name all

-- and of those that are told
pub told-cut : (hushed : Bool) (label first : List ℕ) (rest : List (List ℕ)) (names all : List (List ℕ)) → files_told hushed label names ≡ files_told hushed label (first ∷ rest) → AreWithin (files_told hushed label names) all
    → (hushed ≡ false → IsOneOf (shown_name label first) all) × AreWithin (files_told hushed label rest) all
told-cut true label first rest names all cut within = (λ asked. absurd (cc), λ name is. absurd is)
told-cut false label first rest names all cut within =
    let both : AreWithin (shown_name label first ∷ shown_names label rest) all = subst (λ (l : List (List ℕ)). AreWithin l all) cut within in
    (λ asked. both (shown_name label first) (inl refl), λ name is. both name (inr is))

-- the same is told of a status that is that one
pub not-quiet : (quiet names lacking count json only : Bool)
    → (if quiet then Nothing else if names then Names else if lacking then Lacking else if count then Count else if json then Objects else if only then Matches else Lines) ≡ Nothing
    → quiet ≡ false → ⊥
not-quiet quiet names lacking count json only is loud = grind (arith, common_steps)

module _ {E : Type 0} (K : SinkGhosts E) (status status' : ℕ) (old new : Errors E) where
  -- a status that tells of no error is as it was
  pub stays-low : StaysOrFails K status status' old new → status' < 2 → status' ≡ status
  stays-low (inl is) low = is.0
  stays-low (inr failed) low = absurd (omega (arith, low, failed.0))

  pub stays-bound : StaysOrFails K status status' old new → status ≤ 2 → status' ≤ 2
  stays-bound (inl is) bound = omega (arith, is.0, bound)
  stays-bound (inr failed) bound = omega (arith, failed.0)

module _ {E : Type 0} (K : SinkGhosts E) (names : List (List ℕ)) (P : List ℕ → Type 0) (may : (line : List ℕ) → IsMessage names line → P line) where
  -- what was told before the output was handed on, and of that
  pub finished : (hushed : Bool) (shown : Shown) (status status' : ℕ) (old mid new : Errors E) → TellsStatus K P hushed shown status old mid → StaysOrFails K status status' mid new
      → TellsStatus K P hushed shown status' old new
  finished hushed shown status status' old mid new before (inl (same, kept)) = rw (same, kept) before
  finished hushed shown status status' old mid new before (inr (two, told)) =
      rw two (status-some K P hushed shown old new (then-some K P old mid new before.tells (some-weaker K (IsMessage names) P mid new may (told names))))
