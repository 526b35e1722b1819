use Rattle.std.proofs.Common.{◌≡◌, refl}
use Rattle.aho_hybrid.specs.contracts.hybrid.HybridAutomaton.TheImpl.{ghosts as of_rows}
use Rattle.aho_hybrid.specs.declared.hybrid.Hybrid.{Hybrid}
use Rattle.aho_stream.specs.Iterators.{CanGoOn}
use Rattle.aho_stream.specs.declared.finds.StreamFindIter.{StreamFindIter as FindsBy}
use Rattle.aho_stream.proofs.FindRuns.{find_steps}
use Rattle.chromesquid.proofs.HeldIters.{finds_left, finds_right}
use Rattle.chromesquid.specs.Searcher.{Searcher}
use Rattle.chromesquid.specs.StreamIters.{stream_source}
use Rattle.chromesquid.specs.contracts.automaton.AhoCorasickAutomaton.TheImpl.{ghosts as of_searcher}
use Rattle.chromesquid.specs.declared.stream_iter.StreamFindIter.{StreamFindIter}
use Rattle.either.specs.Either.{either}
use Rattle.either.specs.declared.Either.{Either}
use Rattle.either.specs.declared.Either.TheVariants.{Left, Right}
use Rattle.chromesquid.proofs.stream_iter.stream_finds.Goals as goal

-- the source of the one that is there
module _ {R : Type 0} where
  abbrev from : {A : Type 0} → FindsBy A R → R
  from it = it.chunks.source.now

  source_there : (e : Either (FindsBy Searcher R) (FindsBy Hybrid R)) → (either (λ i. i.chunks.source) (λ i. i.chunks.source) e).now ≡ either from from e
  source_there (Left it) = refl
  source_there (Right it) = refl

  source_is : (it : StreamFindIter R) → (stream_source it).now ≡ either from from it.by
  source_is it = source_there it.by

pub returns-in-Left-clause-first : goal.returns-in-Left-clause-first
returns-in-Left-clause-first g c =
    (finds_left g.R.Source (find_steps of_searcher g.R.Source) (find_steps of_rows g.R.Source) (λ it. it.by) from from (λ it. (stream_source it).now) source_is
    (λ it. CanGoOn of_searcher it.chunks) (λ it. CanGoOn of_rows it.chunks) c.args.start.searcher.now c.args.source.now _ c.finds_by.result refl c.finds_by.ensures.finds).first

pub returns-in-Left-clause-finds : goal.returns-in-Left-clause-finds
returns-in-Left-clause-finds g c =
    (finds_left g.R.Source (find_steps of_searcher g.R.Source) (find_steps of_rows g.R.Source) (λ it. it.by) from from (λ it. (stream_source it).now) source_is
    (λ it. CanGoOn of_searcher it.chunks) (λ it. CanGoOn of_rows it.chunks) c.args.start.searcher.now c.args.source.now _ c.finds_by.result refl c.finds_by.ensures.finds).finds

pub returns-in-Left-clause-limit : goal.returns-in-Left-clause-limit
returns-in-Left-clause-limit g c =
    (finds_left g.R.Source (find_steps of_searcher g.R.Source) (find_steps of_rows g.R.Source) (λ it. it.by) from from (λ it. (stream_source it).now) source_is
    (λ it. CanGoOn of_searcher it.chunks) (λ it. CanGoOn of_rows it.chunks) c.args.start.searcher.now c.args.source.now _ c.finds_by.result refl c.finds_by.ensures.finds).limit

pub returns-in-Left-clause-along : goal.returns-in-Left-clause-along
returns-in-Left-clause-along g c =
    (finds_left g.R.Source (find_steps of_searcher g.R.Source) (find_steps of_rows g.R.Source) (λ it. it.by) from from (λ it. (stream_source it).now) source_is
    (λ it. CanGoOn of_searcher it.chunks) (λ it. CanGoOn of_rows it.chunks) c.args.start.searcher.now c.args.source.now _ c.finds_by.result refl c.finds_by.ensures.finds).along

pub returns-in-Right-clause-first : goal.returns-in-Right-clause-first
returns-in-Right-clause-first g c =
    (finds_right g.R.Source (find_steps of_searcher g.R.Source) (find_steps of_rows g.R.Source) (λ it. it.by) from from (λ it. (stream_source it).now) source_is
    (λ it. CanGoOn of_searcher it.chunks) (λ it. CanGoOn of_rows it.chunks) c.args.start.searcher.now c.args.source.now _ c.finds_by-in-Right.result refl c.finds_by-in-Right.ensures.finds).first

pub returns-in-Right-clause-finds : goal.returns-in-Right-clause-finds
returns-in-Right-clause-finds g c =
    (finds_right g.R.Source (find_steps of_searcher g.R.Source) (find_steps of_rows g.R.Source) (λ it. it.by) from from (λ it. (stream_source it).now) source_is
    (λ it. CanGoOn of_searcher it.chunks) (λ it. CanGoOn of_rows it.chunks) c.args.start.searcher.now c.args.source.now _ c.finds_by-in-Right.result refl c.finds_by-in-Right.ensures.finds).finds

pub returns-in-Right-clause-limit : goal.returns-in-Right-clause-limit
returns-in-Right-clause-limit g c =
    (finds_right g.R.Source (find_steps of_searcher g.R.Source) (find_steps of_rows g.R.Source) (λ it. it.by) from from (λ it. (stream_source it).now) source_is
    (λ it. CanGoOn of_searcher it.chunks) (λ it. CanGoOn of_rows it.chunks) c.args.start.searcher.now c.args.source.now _ c.finds_by-in-Right.result refl c.finds_by-in-Right.ensures.finds).limit

pub returns-in-Right-clause-along : goal.returns-in-Right-clause-along
returns-in-Right-clause-along g c =
    (finds_right g.R.Source (find_steps of_searcher g.R.Source) (find_steps of_rows g.R.Source) (λ it. it.by) from from (λ it. (stream_source it).now) source_is
    (λ it. CanGoOn of_searcher it.chunks) (λ it. CanGoOn of_rows it.chunks) c.args.start.searcher.now c.args.source.now _ c.finds_by-in-Right.result refl c.finds_by-in-Right.ensures.finds).along
