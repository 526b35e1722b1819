-- How an automaton redacts streams.
use Rattle.acredact.proofs.Common.{Bool, Bor, CanBegin, CanRedact, Err, Folders, Ghosts, Job, List, Memory, No, None, Option, Patterns, PieceRule, Readers, Redactor, Refused, SinkGhosts, Some, Standard, StreamError, Streams, Volume, Writers, [], ap, arith, deed_of, false, length, map, ne_eqb, pieces_of, redactor_of, refl, shortest, subst, sym, task_in, tells-nothing, true, ℕ, ◌&&◌, ◌∙◌, ◌≡◌}
use Rattle.aho_automaton.specs.Covering.{cover_refusal}
use Rattle.aho_backward.specs.declared.backward.Backward.{Backward}
use Rattle.aho_cover.specs.Covers.{IsUnbegunWith, RefusesStreamCover}
use Rattle.aho_cover.specs.declared.progress.CoverProgress.{CoverProgress}
use Rattle.aho_stream.specs.Replacing.{IsMakingRefusal}
use Rattle.acredact.specs.Back.{DoesByPatterns}
use Rattle.acredact.specs.Files.{CanDo, key_for, rule_for}
use Rattle.acredact.specs.Ways.{IsCovering, IsRedactor, MayWalkBack}
use Rattle.acredact.proofs.Jobs.{job_ended}
use Rattle.acredact.proofs.OneFile.{cut_none}
use Rattle.acredact.proofs.Redactions.{begins_by}

module _ {A : Type 0} (G : Ghosts A) where
  -- a cover is as before after a stream
  pub covering_still : (automaton automaton' : A) (progress progress' : CoverProgress) (rule rule' : PieceRule) (r : Redactor) → automaton' ≡ automaton → rule' ≡ rule
      → IsUnbegunWith progress.words G automaton' progress' → IsCovering G automaton progress rule r → IsCovering G automaton' progress' rule' r
  covering_still automaton automaton' progress progress' rule rule' r same alike unbegun is = record {
    of = rw same is.of;
    covers = is.covers;
    chosen = is.chosen ∙ sym unbegun.chosen;
    is = is.is ∙ sym alike;
    unbegun = subst (λ (b : Bool). IsUnbegunWith b G automaton' progress') (sym unbegun.chosen) unbegun;
  }

  -- by a standard automaton without empty patterns no cover is refused, so memory alone may be wanting for its start
  pub only_memory : {T : Type 0} (automaton : A) (error : StreamError) → CanBegin G automaton → G.kind automaton ≡ Standard → IsMakingRefusal error
      → RefusesStreamCover {T = T} (cover_refusal (G.kind automaton) (G.lengths automaton) (G.start automaton No)) (Err error) → error ≡ Memory
  only_memory automaton (Refused reason) can standard is refuses =
      let some = ne_eqb (shortest (G.lengths automaton)) 0 (λ (none : shortest (G.lengths automaton) ≡ 0). omega (arith, none, can.1)) in
      let clash : None ≡ Some reason = rw (standard, can.2, some) at (refuses.only reason refl) in absurd (cc)
  only_memory automaton Memory can standard is refuses = refl
  only_memory automaton error can standard is refuses = absurd is

module _ {A F : Type 0} (G : Ghosts A) (automaton : A) (job : Job F) (p : Patterns) (of : G.is_of automaton p) where
  -- an automaton that suits redacts a job by its patterns, without a cover
  pub redactor_is : {B : Type 0} (H : Ghosts B) (backward : Option (Bor (Backward B))) → MayWalkBack H backward p → CanDo G automaton job → job.covers ≡ false
      → IsRedactor G H automaton backward job.replacements.now (redactor_of job p)
  redactor_is H backward walks ready plain = record {
    of = of;
    walks = walks;
    is = ap (λ (b : Bool). record { patterns = p; covers = b; words = b && job.words; pieces = pieces_of job.replacements.now; key = key_for b job.key }) plain;
    ready = subst (λ (b : Bool). CanRedact G automaton b job.replacements.now) plain ready;
  }

  -- and covers it by its pieces, where it has not begun
  pub covering_is : (automaton' : A) (rule : PieceRule) (progress : CoverProgress) → job.covers ≡ true → rule ≡ rule_for job → automaton' ≡ automaton → IsUnbegunWith job.words G automaton progress
      → IsCovering G automaton' progress rule (redactor_of job p)
  covering_is automaton' rule progress covers made same unbegun = record {
    of = rw same of;
    covers = covers;
    chosen = ap (λ (b : Bool). b && job.words) covers ∙ sym unbegun.chosen;
    is = sym made;
    unbegun = subst (λ (a : A). IsUnbegunWith progress.words G a progress) (sym same) (subst (λ (b : Bool). IsUnbegunWith b G automaton progress) (sym unbegun.chosen) unbegun);
  }

-- where a cover cannot begin, memory ran out before the first file
pub job_unbegun : {R W E F X A T : Type 0} {Reads : Readers R} (Writes : Writers W) (K : SinkGhosts E) (D : Folders F X) (G : Ghosts A) (automaton : A) (job : Job F) (streams : Streams R W E Reads) (counts : List ℕ) (volume : Volume) (p : Patterns)
    → G.lengths automaton ≡ map length p.words → CanDo G automaton job → job.covers ≡ true → (error : StreamError) → IsMakingRefusal error
    → RefusesStreamCover {T = T} (cover_refusal (G.kind automaton) (G.lengths automaton) (G.start automaton No)) (Err error)
    → DoesByPatterns Writes K D job (Err error) streams streams counts counts volume volume p
job_unbegun Writes K D G automaton job streams counts volume p are ready covers error making refuses =
    let task = task_in D job.folder.now (deed_of (redactor_of job p)) in
    rw (only_memory G automaton error ready.begins (ready.standard covers) making refuses)
    (job_ended Writes K task {old = (streams, counts, volume)} {new = (streams, counts, volume)}
    ([], (cut_none task (begins_by (redactor_of job p) (rw are at ready.begins.1) [] false [] (λ text ranges may found. refl)) _ _ _, tells-nothing K streams.errors)) (record { write_failed = refl; took_nothing = refl; only = tt })).is
