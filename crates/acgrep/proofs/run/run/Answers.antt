-- What was said was done.
use Rattle.acgrep.proofs.Common.{Errors, Keeps-refl, Refusal, SinkGhosts, TellsBytes, TellsSome, concat, reason_text, some-one, some-tells, some-weaker}
use Rattle.std.proofs.Common.{◌≡◌, List, None, Option, Some, [], arith, inl, inr, refl, subst, ℕ}
use Rattle.std.specs.Prelude.{◌||◌}
use Rattle.tool_parts.specs.declared.reason.Reason.TheVariants.{OutOfMemory as NoMemory}
use Rattle.acgrep.specs.Arguments.{AreRefused, Said, said, said_by}
use Rattle.acgrep.specs.Beside.{unfit_said}
use Rattle.acgrep.specs.Folders.{Known, known_by}
use Rattle.acgrep.specs.Listed.{listed_bytes}
use Rattle.acgrep.specs.Mistakes.{IsFirstMistake, MayTellOf, TellsMistake, TellsRefused, TellsUnfit, memory_line}
use Rattle.acgrep.specs.Told.{IsMessage, MaySaid, names_said, wrong_parts}
use Rattle.acgrep.specs.ToldByRules.{IsMarkTold}
use Rattle.acgrep.specs.declared.wrong.Refusal.TheVariants.{OutOfMemory, Wrong}
use Rattle.acgrep.proofs.MarksTold.{some-told}
use Rattle.acgrep.proofs.Told.{not-quiet, tells-cause}
use Rattle.acgrep.proofs.Unfitting.{each_all}
use Rattle.acgrep.proofs.run.run.Goals as goal

mistake-told : {E : Type 0} (K : SinkGhosts E) (arguments : List (List ℕ)) (refusal : Refusal) (old new : Errors E) → IsFirstMistake arguments refusal → TellsRefused K refusal old new
    → TellsMistake K arguments old new
mistake-told K arguments (Wrong wrong) old new is told = inr (wrong_parts wrong, is, told)
mistake-told K arguments OutOfMemory old new is told = inl told

-- right arguments are refused only where memory ran out, and it is this that is told
refused-memory : {E : Type 0} (K : SinkGhosts E) (told : Option Said) (given : Said) (refusal : Refusal) (old new : Errors E) → told ≡ Some given → AreRefused told refusal
    → TellsRefused K refusal old new → TellsBytes K old new memory_line
refused-memory K told given (Wrong wrong) old new is refused exact = absurd (cc)
refused-memory K told given OutOfMemory old new is refused exact = exact

-- that memory ran out is a message
memory-some : {E : Type 0} (K : SinkGhosts E) (names : List (List ℕ)) (old new : Errors E) → TellsBytes K old new memory_line → TellsSome K (IsMessage names) old new
memory-some K names old new told = tells-cause K names old new None None (reason_text NoMemory) tt (inl (inl (NoMemory, refl))) told

-- a mistake of these arguments is told, or that memory ran out
mistake-some : {E : Type 0} (K : SinkGhosts E) (known : Known) (left : Option (List ℕ)) (arguments : List (List ℕ)) (old new : Errors E) → TellsMistake K arguments old new
    → TellsSome K (MayTellOf known left arguments None) old new
mistake-some K known left arguments old new (inl memory) =
    some-weaker K (IsMessage []) (MayTellOf known left arguments None) old new (λ line is. inl is) (memory-some K [] old new memory)
mistake-some K known left arguments old new (inr (parts, is, told)) = some-one K (MayTellOf known left arguments None) old new (concat parts) (inr (parts, is, refl)) told

-- what a refusal tells may be told of these arguments
refusal-some : {E : Type 0} (K : SinkGhosts E) (known : Known) (left : Option (List ℕ)) (arguments : List (List ℕ)) (given : Option Said) (refusal : Refusal) (old new : Errors E)
    → IsFirstMistake arguments refusal → AreRefused given refusal → TellsRefused K refusal old new → TellsSome K (MayTellOf known left arguments given) old new
refusal-some K known left arguments None refusal old new first refused exact = mistake-some K known left arguments old new (mistake-told K arguments refusal old new first exact)
refusal-some K known left arguments (Some said) refusal old new first refused exact =
    some-weaker K (IsMessage (names_said (Some said))) (MaySaid known left (Some said)) old new (λ line is. inl (inl is))
    (memory-some K (names_said (Some said)) old new (refused-memory K (Some said) said refusal old new refl refused exact))

-- what was said is one thing alone
said-alone : (P : Said → Type 0) (told : Option Said) (mine : Said) → told ≡ Some mine → P mine → (given : Said) → told ≡ Some given → P given
said-alone P told mine read is given other = let same : mine ≡ given = cc in subst P same is

pub returns-in-Ok : goal.returns-in-Ok
returns-in-Ok g c =
    let mine = said c.in-Ok.given in
    let read = c.in-Ok.ensures.read in
    let flags = c.in-Ok.given.flags in
    let done = c.answer.ensures in
    record {
      bound = done.bound;
      usage = λ none. absurd (cc read);
      mistake = λ none. absurd (cc read);
      unread = λ none. absurd (cc read);
      unwritten = λ none. absurd (cc read);
      unfit = said-alone _ _ mine read done.unfit;
      unfitting = said-alone _ _ mine read done.unfitting;
      unfit_unread = said-alone _ _ mine read done.unfit_unread;
      unfit_unwritten = said-alone _ _ mine read done.unfit_unwritten;
      patternless = said-alone _ _ mine read done.patternless;
      lacking = said-alone _ _ mine read done.lacking;
      searches = said-alone _ _ mine read done.searches;
      begins = said-alone _ _ mine read done.begins;
      marks = said-alone _ _ mine read done.marks;
      begins_marks = said-alone _ _ mine read done.begins_marks;
      tells = λ by. rw read (done.told (rw read at by)).tells;
      silent = said-alone _ _ mine read (λ by loud low. (done.told by).silent low
          (λ quiet. not-quiet flags.quiet flags.names flags.lacking flags.count (flags.tallied || (flags.json || flags.formatted)) flags.only_matching quiet loud));
      says_why = λ loud failed. rw read ((done.told (rw read at loud.0)).some (rw read at loud.1) failed);
      tells_marks = said-alone _ _ mine read (λ asks. (done.told_marks asks).tells);
      says_why_marks = said-alone _ _ mine read (λ asks asked failed. (done.told_marks asks).some asked failed);
      flushed = done.flushed;
    }

pub returns-in-Err : goal.returns-in-Err
returns-in-Err g c =
    let arguments = listed_bytes c.args.arguments.now in
    let given = said_by arguments in
    let known = known_by g.F.Open g.F.Folders c.args.files.now in
    let left = g.R.Read.remaining c.args.input.now in
    let old = c.args.errors.now in
    let new = c.tell_refused.new.errors in
    let told : TellsSome g.E.Sink (MayTellOf known left arguments given) old new = refusal-some g.E.Sink known left arguments given c.in-Err.refusal old new c.in-Err.ensures.wrong c.in-Err.ensures.refused c.tell_refused.ensures.exact in
    let memory = λ (g' : Said) (is : given ≡ Some g'). refused-memory g.E.Sink given g' c.in-Err.refusal old new is c.in-Err.ensures.refused c.tell_refused.ensures.exact in
    let marked = λ (g' : Said) (is : given ≡ Some g').
    some-told g.E.Sink [] old new (memory-some g.E.Sink [] old new (memory g' is)) in
    record {
      bound = omega arith;
      usage = λ none. refl;
      mistake = λ wrong. mistake-told g.E.Sink arguments c.in-Err.refusal old new c.in-Err.ensures.wrong c.tell_refused.ensures.exact;
      unread = λ none. refl;
      unwritten = λ none. Keeps-refl _;
      unfit = λ given is asks. each_all (unfit_said given) _ (λ line. refl);
      unfitting = λ given is asks. each_all (unfit_said given) (λ (line : List ℕ). TellsUnfit g.E.Sink line old new) (λ line. inl (memory given is));
      unfit_unread = λ given is asks. each_all (unfit_said given) _ (λ line. refl);
      unfit_unwritten = λ given is asks. each_all (unfit_said given) _ (λ line. Keeps-refl _);
      patternless = λ given is asks none. refl;
      lacking = λ given is asks none. inl (memory given is);
      searches = λ given is asks low. absurd (omega (arith, low));
      begins = λ given is asks. inl (Keeps-refl _);
      marks = λ given is asks low. absurd (omega (arith, low));
      begins_marks = λ given is asks. inl (Keeps-refl _);
      tells = λ by. some-tells g.E.Sink (MayTellOf known left arguments given) old new told;
      silent = λ given is by loud low. absurd (omega (arith, low));
      says_why = λ loud failed. told;
      tells_marks = λ given is asks. some-tells g.E.Sink IsMarkTold old new (marked given is);
      says_why_marks = λ given is asks asked failed. marked given is;
      flushed = λ low. absurd (omega (arith, low));
    }
