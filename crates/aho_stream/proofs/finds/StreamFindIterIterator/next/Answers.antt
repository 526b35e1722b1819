-- What each way out says, and each turn of the loop.
use Rattle.std.proofs.Common.{◌≡◌, ◌≤◌, ◌++◌, ◌∙◌, ◌⊎◌, Bool, true, ◌||◌, ap, refl, sym, subst, List, ℕ}
use Rattle.std.specs.Prelude.{Option, Some, None, Result, Ok, Err}
use Rattle.std.proofs.Math.Bool.{or-false}
use Rattle.aho_core.specs.Patterns.{Patterns}
use Rattle.aho_core.specs.Occurrence.{Occurrence}
use Rattle.aho_core.specs.declared.error.stream.StreamError.{StreamError}
use Rattle.aho_devices.specs.Counts.{counted}
use Rattle.aho_stream.specs.Chunks.{Advances, FillsNothing, AnswerTells, ends_between, tells_error, tells_limit, tells_read_fault}
use Rattle.aho_stream.specs.Finds.{FillsForMatch, Finds}
use Rattle.aho_stream.specs.Iterators.{HasGiven}
use Rattle.aho_stream.specs.declared.progress.StreamPiece.{StreamPiece}
use Rattle.aho_stream.proofs.Advanced.{counted_same}
use Rattle.aho_stream.proofs.Found.{FindsReading, counted_then, end_found, error_found, piece_found, plain_told, reading_none, reading_then, same_fault, same_limit, says_then}
use Rattle.aho_stream.proofs.finds.StreamFindIterIterator.next.Given.{Over}
use Rattle.aho_stream.proofs.finds.StreamFindIterIterator.next.Goals.{After-advance}
use Rattle.aho_stream.proofs.finds.StreamFindIterIterator.next.Goals as goal

-- what the call of `advance` promises, by the automaton of the whole call
advanced : (g : Over) (c : After-advance g)
    → Advances g.A.Automaton c.args.self.now.chunks.walk.automaton.now c.loop-error.self.chunks.walk.work c.advance.new.self.walk.work
    c.loop-error.self.chunks.progress c.advance.new.self.progress (g.R.Source.remaining c.loop-error.self.chunks.source.now) (g.R.Source.remaining c.advance.new.self.source.now) c.advance.result
advanced g c = rw c.loop-error.invariant.same at c.advance.ensures.advances

-- what was read so far ends the stream where it was ended
ended : (g : Over) (c : After-advance g) → g.R.Source.empty_reads c.advance.new.self.source.now ≡ counted (ends_between c.args.self.now.chunks.progress.ended c.advance.new.self.progress.ended) (g.R.Source.empty_reads c.args.self.now.chunks.source.now)
ended g c = counted_then c.args.self.now.chunks.progress.ended c.loop-error.self.chunks.progress.ended c.advance.new.self.progress.ended _ _ _ c.loop-error.invariant.stays c.advance.ensures.call.stays_ended c.loop-error.invariant.ended c.advance.ensures.call.ended

-- what the whole call has read, where this is its last answer
abbrev ReadingUpTo : (g : Over) (c : After-advance g) → Option (Result StreamPiece StreamError) → Type 0
ReadingUpTo g c answer = FindsReading g.A.Automaton c.args.self.now.chunks.walk.automaton.now c.args.self.now.chunks.walk.work c.advance.new.self.walk.work
    c.args.self.now.chunks.progress c.advance.new.self.progress (g.R.Source.remaining c.args.self.now.chunks.source.now) (g.R.Source.remaining c.advance.new.self.source.now) (tells_error answer)

reading : (g : Over) (c : After-advance g) → ReadingUpTo g c c.advance.result
reading g c =
    reading_then g.A.Automaton c.args.self.now.chunks.walk.automaton.now _ _ _ _ c.loop-error.self.chunks.progress c.advance.new.self.progress _ _ _ c.advance.result
    c.loop-error.invariant.stays c.loop-error.invariant.from c.requires c.loop-error.invariant.read (advanced g c)

-- and that no match was settled before more was asked for
abbrev PromptIn : (g : Over) (c : After-advance g) → Bool → Type 0
PromptIn g c failed = FillsNothing c.args.self.now.chunks.progress c.advance.new.self.progress (reading g c).reads.bytes failed
    ⊎ FillsForMatch g.A.Automaton c.args.self.now.chunks.walk.automaton.now c.args.self.now.chunks.walk.work c.args.self.now.chunks.progress c.advance.new.self.progress (reading g c).reads.bytes failed

prompt : (g : Over) (c : After-advance g) (answer : Option (Result StreamPiece StreamError)) → c.advance.result ≡ answer → PromptIn g c (tells_error answer)
prompt g c answer is = subst (λ (r : Option (Result StreamPiece StreamError)). PromptIn g c (tells_error r)) is (reading g c).prompt

-- and says, where the last answer says it
finds : (g : Over) (c : After-advance g) (found : Option (Result Occurrence StreamError))
    → ((p : Patterns) (given : List ℕ) → AnswerTells p c.loop-error.self.chunks.progress c.advance.new.self.progress given c.advance.result → Finds p c.args.self.now.chunks.progress c.advance.new.self.progress given found)
    → (p : Patterns) (given : List ℕ) → g.A.Automaton.is_of c.args.self.now.chunks.walk.automaton.now p → HasGiven g.A.Automaton c.args.self.now.chunks p given
    → Finds p c.args.self.now.chunks.progress c.advance.new.self.progress (given ++ (reading g c).reads.bytes) found
unfolding reading
finds g c found says =
    says_then g.A.Automaton c.args.self.now.chunks.walk.automaton.now _ _ _ _ c.loop-error.self.chunks.progress c.advance.new.self.progress _ _ _ c.advance.result found
    c.loop-error.invariant.stays c.loop-error.invariant.from c.requires c.loop-error.invariant.read (advanced g c) says

-- after the end, and after the limit was answered, `advance` tells none
ended_none : (g : Over) (c : After-advance g) → c.args.self.now.chunks.progress.ended ≡ true → c.args.self.now.chunks.progress.read ≤ c.args.self.now.chunks.progress.reported → c.advance.result ≡ None
ended_none g c e told = let over = c.loop-error.invariant.over e told in c.advance.ensures.call.after_end over.0 over.1

refused_none : (g : Over) (c : After-advance g) → c.args.self.now.chunks.progress.refused ≡ true → c.advance.result ≡ None
refused_none g c r = c.advance.ensures.call.after_limit (c.loop-error.invariant.refused ∙ r)

-- whether the limit was answered, by what the last answer is
refused : (g : Over) (c : After-advance g) (answer : Option (Result StreamPiece StreamError)) → c.advance.result ≡ answer → c.advance.new.self.progress.refused ≡ (c.args.self.now.chunks.progress.refused || tells_limit answer)
refused g c answer is =
    c.advance.ensures.call.refused ∙ ap (λ (r : Option (Result StreamPiece StreamError)). c.loop-error.self.chunks.progress.refused || tells_limit r) is
    ∙ ap (λ (b : Bool). b || tells_limit answer) c.loop-error.invariant.refused

pub loop-error-init : goal.loop-error-init
loop-error-init g c =
    let it = c.args.self.now.chunks in
    record {
      same = refl;
      limit = refl;
      from = refl;
      refused = refl;
      source = refl;
      read = reading_none g.A.Automaton it.walk.automaton.now it.walk.work it.progress (g.R.Source.remaining it.source.now);
      ended = counted_same it.progress.ended _;
      stays = λ e. e;
      over = λ e told. (e, told);
      unfailed = refl;
    }

pub returns-in-None-clause-steps : goal.returns-in-None-clause-steps
returns-in-None-clause-steps g c =
    let d = (goal.at.returns-in-None-clause-steps g c).After-advance in
    let inv = c.loop-error.invariant in
    let s = c.args.self.now.chunks.progress in
    record {
      reads = (reading g d).reads;
      prompt = prompt g d None c.in-None.is;
      finds = finds g d None (λ p given tells. end_found p s c.loop-error.self.chunks.progress c.advance.new.self.progress given inv.from inv.refused
          (subst (λ (r : Option (Result StreamPiece StreamError)). AnswerTells p c.loop-error.self.chunks.progress c.advance.new.self.progress given r) c.in-None.is tells));
      call = record {
        same = c.advance.ensures.call.same ∙ inv.same;
        same_source = c.advance.ensures.call.same_source ∙ inv.source;
        limit = c.advance.ensures.call.limit ∙ inv.limit;
        ended = ended g d;
        stays_ended = λ e. c.advance.ensures.call.stays_ended (inv.stays e);
        after_end = λ e told. refl;
        after_limit = λ r. refl;
        refused = refused g d None c.in-None.is;
        read_failed = c.in-None.ensures.call.read_failed ∙ inv.unfailed;
      };
    }

pub returns-in-Some-Err-clause-steps : goal.returns-in-Some-Err-clause-steps
returns-in-Some-Err-clause-steps g c =
    let d = (goal.at.returns-in-Some-Err-clause-steps g c).After-advance in
    let inv = c.loop-error.invariant in
    let s = c.args.self.now.chunks.progress in
    let error = c.in-Some-Err.error in
    let is : c.advance.result ≡ Some (Err error) = c.in-Some-Err.is ∙ ap Some c.in-Some-Err.field-0-is in
    record {
      reads = (reading g d).reads;
      prompt = prompt g d (Some (Err error)) is;
      finds = finds g d (Some (Err error)) (λ p given tells. error_found p s c.loop-error.self.chunks.progress c.advance.new.self.progress given error inv.from inv.refused inv.limit
          (subst (λ (r : Option (Result StreamPiece StreamError)). AnswerTells p c.loop-error.self.chunks.progress c.advance.new.self.progress given r) is tells));
      call = record {
        same = c.advance.ensures.call.same ∙ inv.same;
        same_source = c.advance.ensures.call.same_source ∙ inv.source;
        limit = c.advance.ensures.call.limit ∙ inv.limit;
        ended = ended g d;
        stays_ended = λ e. c.advance.ensures.call.stays_ended (inv.stays e);
        after_end = λ e told. let none = ended_none g d e told in cc;
        after_limit = λ r. let none = refused_none g d r in cc;
        refused = refused g d (Some (Err error)) is ∙ ap (λ (b : Bool). s.refused || b) (same_limit StreamPiece Occurrence error);
        read_failed = c.advance.ensures.call.read_failed
            ∙ ap (λ (r : Option (Result StreamPiece StreamError)). counted (tells_read_fault r) (g.R.Source.failures c.loop-error.self.chunks.source.now)) is
            ∙ ap (λ (b : Bool). counted b (g.R.Source.failures c.loop-error.self.chunks.source.now)) (same_fault StreamPiece Occurrence error)
            ∙ ap (counted (tells_read_fault {A = Occurrence} (Some (Err error)))) inv.unfailed;
      };
    }

pub returns-in-Some-clause-steps : goal.returns-in-Some-clause-steps
returns-in-Some-clause-steps g c =
    let d = (goal.at.returns-in-Some-clause-steps g c).After-advance in
    let inv = c.loop-error.invariant in
    let s = c.args.self.now.chunks.progress in
    let piece = c.in-Some-Ok.piece in
    let is : c.advance.result ≡ Some (Ok piece) = c.in-Some-Ok.is ∙ ap Some c.in-Some-Ok.field-0-is in
    record {
      reads = (reading g d).reads;
      prompt = prompt g d (Some (Ok piece)) is;
      finds = finds g d (Some (Ok c.in-Some.m)) (λ p given tells. piece_found p s c.loop-error.self.chunks.progress c.advance.new.self.progress given piece c.in-Some.m (sym c.found.ensures.found ∙ c.in-Some.is) inv.from
          (subst (λ (r : Option (Result StreamPiece StreamError)). AnswerTells p c.loop-error.self.chunks.progress c.advance.new.self.progress given r) is tells));
      call = record {
        same = c.advance.ensures.call.same ∙ inv.same;
        same_source = c.advance.ensures.call.same_source ∙ inv.source;
        limit = c.advance.ensures.call.limit ∙ inv.limit;
        ended = ended g d;
        stays_ended = λ e. c.advance.ensures.call.stays_ended (inv.stays e);
        after_end = λ e told. let none = ended_none g d e told in cc;
        after_limit = λ r. let none = refused_none g d r in cc;
        refused = refused g d (Some (Ok piece)) is;
        read_failed = c.advance.ensures.call.read_failed
            ∙ ap (λ (r : Option (Result StreamPiece StreamError)). counted (tells_read_fault r) (g.R.Source.failures c.loop-error.self.chunks.source.now)) is
            ∙ inv.unfailed;
      };
    }

pub loop-error-preserved : goal.loop-error-preserved
loop-error-preserved g c =
    let d = (goal.at.loop-error-preserved g c).After-advance in
    let inv = c.loop-error.invariant in
    let s = c.args.self.now.chunks.progress in
    let t = c.loop-error.self.chunks.progress in
    let piece = c.in-Some-Ok.piece in
    let is : c.advance.result ≡ Some (Ok piece) = c.in-Some-Ok.is ∙ ap Some c.in-Some-Ok.field-0-is in
    let (p, given, of, a) = c.requires in
    let now = inv.read.reads.is_after p given of a in
    let plain = plain_told p t c.advance.new.self.progress _ piece (sym c.found.ensures.found ∙ c.in_default.is)
    (subst (λ (r : Option (Result StreamPiece StreamError)). AnswerTells p t c.advance.new.self.progress ((given ++ inv.read.reads.bytes) ++ (advanced g d).reads.bytes) r) is ((advanced g d).tells p (given ++ inv.read.reads.bytes) of now)) in
    record {
      same = c.advance.ensures.call.same ∙ inv.same;
      limit = c.advance.ensures.call.limit ∙ inv.limit;
      from = plain.from ∙ inv.from;
      refused = refused g d (Some (Ok piece)) is ∙ or-false s.refused;
      source = c.advance.ensures.call.same_source ∙ inv.source;
      read = subst (ReadingUpTo g d) is (reading g d);
      ended = ended g d;
      stays = λ e. c.advance.ensures.call.stays_ended (inv.stays e);
      over = λ e told. let none = ended_none g d e told in cc;
      unfailed = c.advance.ensures.call.read_failed ∙ ap (λ (r : Option (Result StreamPiece StreamError)). counted (tells_read_fault r) (g.R.Source.failures c.loop-error.self.chunks.source.now)) is ∙ inv.unfailed;
    }
