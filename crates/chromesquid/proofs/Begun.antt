-- What a search of a stream has by an automaton that answers as a searcher does, before it begins and once it has a source.
use Rattle.std.proofs.Common.{◌≡◌, ◌∙◌, ℕ, List, [], true, false, ap, sym, subst}
use Rattle.std.specs.Prelude.{Result, Ok, Err, IfOk, length, map}
use Rattle.std.specs.Iterator.Runs.{EachRunFrom}
use Rattle.aho_core.specs.Patterns.{Patterns}
use Rattle.aho_automaton.specs.declared.automaton.Automaton.{Ghosts as Automata}
use Rattle.aho_devices.specs.Buffer.{capacity_for}
use Rattle.aho_devices.specs.declared.device.Source.{Ghosts as SourceGhosts}
use Rattle.aho_stream.specs.After.{IsAfter, IsUnbegun, greatest_position, kept_for}
use Rattle.aho_stream.specs.FindRuns.{is_limit_among}
use Rattle.aho_stream.specs.Iterators.{HasNotBegun, automaton_of}
use Rattle.aho_stream.specs.declared.finds.StreamFindIter.{StreamFindIter}
use Rattle.aho_stream.specs.declared.start.StreamStart.{StreamStart}
use Rattle.aho_stream.proofs.FindRuns.{find_steps}
use Rattle.chromesquid.proofs.PastLimit.{run_to_limit}
use Rattle.chromesquid.specs.Searcher.{Searcher, StandsFor}
use Rattle.chromesquid.specs.StreamIters.{IsFreshFor}
use Rattle.chromesquid.specs.Streams.{FindsToLimit}

module _ {A : Type 0} (G : Automata A) (searcher : Searcher) where
  -- a start that was made by such an automaton
  pub fresh_for : {E : Type 0} (automaton : A) (r : Result (StreamStart A) E) → StandsFor G automaton searcher → IfOk r (λ start. start.progress.limit ≡ greatest_position)
      → IfOk r (λ start. (start.progress.ended ≡ false) × (start.progress.refused ≡ false)) → IfOk r (λ start. start.automaton.now ≡ automaton)
      → IfOk r (λ start. IsUnbegun G automaton start.progress) → IfOk r (IsFreshFor G searcher)
  fresh_for automaton (Ok start) stands limit begun of after = record {
    stands = subst (λ (a : A). StandsFor G a searcher) (sym of) stands;
    fresh = λ p is. subst (λ (a : A). IsAfter G a p 0 start.progress []) (sym of) (after p (subst (λ (a : A). G.is_of a p) of is));
    going = begun.0;
    unrefused = begun.1;
    limit = limit;
    buffer = (after stands.some.0 (stands.of stands.some.0 stands.some.1)).size ∙ ap (λ (lengths : List ℕ). capacity_for (kept_for lengths)) stands.lengths;
  }
  fresh_for automaton (Err error) stands limit begun of after = tt

-- an iterator that has not begun finds up to the position limit
pub limit_of : {A R : Type 0} (G : Automata A) (S : SourceGhosts R) (are : (automaton : A) (p : Patterns) → G.is_of automaton p → G.lengths automaton ≡ map length p.words)
    (p : Patterns) (it : StreamFindIter A R) (source : R) → G.is_of (automaton_of it.chunks) p → HasNotBegun G it.chunks
    → it.chunks.progress.ended ≡ false → it.chunks.progress.limit ≡ greatest_position → it.chunks.source.now ≡ source
    → EachRunFrom (find_steps G S) it (λ run. is_limit_among run.items ≡ true → (left : R) × FindsToLimit S p source left run.whole run.items)
limit_of {A} {R} G S are p it source of after unended limited same = λ run seen from limit.
    let found = run_to_limit G S are p it of (after p of) unended limited run from limit in
    (found.0, subst (λ (x : R). FindsToLimit S p x found.0 run.whole run.items) same found.1)
