-- The matches that calls of an iterator over a stream's matches gave, where none of them was an error.
use Rattle.std.proofs.Common.{◌≡◌, ℕ, ◌<◌, ◌-◌, true, false, List, [], ◌∷◌, ◌++◌, length, map, arith, refl, sym, ap, subst}
use Rattle.std.specs.Prelude.{Option, Some, None, Result, Ok}
use Rattle.std.specs.Iterator.{Yields}
use Rattle.std.proofs.iter.Next.{Yields-more}
use Rattle.std.proofs.lemmas.List.{map-append}
use Rattle.aho_core.specs.declared.error.stream.StreamError.{StreamError}
use Rattle.aho_core.specs.Iteration.{AreFinds}
use Rattle.aho_core.specs.Occurrence.{Occurrence}
use Rattle.aho_core.specs.Patterns.{Patterns}
use Rattle.aho_core.specs.Search.{plain_search}
use Rattle.aho_devices.specs.declared.device.Source.{Ghosts as SourceGhosts}
use Rattle.aho_automaton.specs.declared.automaton.Automaton.{Ghosts}
use Rattle.aho_stream.specs.After.{IsAfter}
use Rattle.aho_stream.specs.FindRuns.{FindsAll, is_limit_among, matches_among}
use Rattle.aho_stream.specs.Finds.{FindsNextInStream}
use Rattle.aho_stream.specs.Iterators.{CanGoOn, lookups_of}
use Rattle.aho_stream.specs.Replacing.{SourceGave}
use Rattle.aho_stream.specs.declared.chunks.StreamChunkIter.{StreamChunkIter}
use Rattle.aho_stream.specs.declared.finds.StreamFindIter.{StreamFindIter}
use Rattle.aho_stream.proofs.FindRuns.{find_steps}
use Rattle.aho_stream.proofs.NextMatches.{MayFollow-nothing}
use Rattle.aho_stream.proofs.PatternLengths.{occurs_some}

-- a match that an iterator answers
abbrev pub found : Occurrence → Result Occurrence StreamError
found m = Ok m

pub among_found : (ms : List Occurrence) → matches_among (map found ms) ≡ ms
among_found [] = refl
among_found (m ∷ ms) = ap (λ (rest : List Occurrence). m ∷ rest) (among_found ms)

pub no_limit_found : (ms : List Occurrence) → is_limit_among (map found ms) ≡ false
no_limit_found [] = refl
no_limit_found (m ∷ ms) = no_limit_found ms

-- all of them are all finds
pub all_found : {R : Type 0} (S : SourceGhosts R) (p : Patterns) (source source' : R) (ms : List Occurrence) → FindsAll S p source source' (map found ms)
    → (given : List ℕ) × SourceGave S source source' given true × AreFinds p (plain_search given) None ms
all_found S p source source' ms all = (all.given, all.gives, subst (AreFinds p (plain_search all.given) None) (among_found ms) all.all)

module _ {A R : Type 0} (G : Ghosts A) (S : SourceGhosts R) (are : (automaton : A) (p : Patterns) → G.is_of automaton p → G.lengths automaton ≡ map length p.words) where
  -- an iterator may be called after a call
  pub goes_on : (it rest : StreamChunkIter A R) (answer : Option (Result Occurrence StreamError)) → CanGoOn G it → FindsNextInStream G S it rest answer → CanGoOn G rest
  goes_on it rest answer (p, given, of, a) step = (
    p,
    given ++ step.reads.bytes,
    subst (λ (x : A). G.is_of x p) (sym step.call.same) of,
    subst (λ (x : A). IsAfter G x p (lookups_of rest) rest.progress (given ++ step.reads.bytes)) (sym step.call.same) (step.reads.is_after p given of a),
  )

  -- each match leaves less room under the limit
  pub less_to_find : (it rest : StreamChunkIter A R) (m : Occurrence) → CanGoOn G it → FindsNextInStream G S it rest (Some (Ok m)) → rest.progress.limit - rest.progress.from < it.progress.limit - it.progress.from
  less_to_find it rest m (p, given, of, a) step =
      let now = step.reads.is_after p given of a in
      let says = step.finds p given of a in
      let occurs = (says.answer [] (MayFollow-nothing rest.progress.ended)).0 in
      let some = occurs_some p (G.lengths it.walk.automaton.now) (are it.walk.automaton.now p of) m occurs a.no_empty in
      omega (arith, some, occurs.after_start, says.from, step.call.limit, now.from_reported, now.reported_walked, now.walked_read, now.limited)

  -- one match more
  pub yields_more : (it mid rest : StreamFindIter A R) (ms : List Occurrence) (m : Occurrence) → Yields (find_steps G S) it (map found ms) mid → FindsNextInStream G S mid.chunks rest.chunks (Some (Ok m))
      → Yields (find_steps G S) it (map found (ms ++ m ∷ [])) rest
  yields_more it mid rest ms m yields step =
      subst (λ (items : List (Result Occurrence StreamError)). Yields (find_steps G S) it items rest) (sym (map-append found ms (m ∷ [])))
      (Yields-more (find_steps G S) it (map found ms) mid (Ok m) rest yields step)
