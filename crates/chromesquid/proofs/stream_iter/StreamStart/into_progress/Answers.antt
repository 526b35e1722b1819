use Rattle.std.proofs.Common.{◌∙◌, [], ap, subst, sym}
use Rattle.aho_stream.specs.After.{IsAfter}
use Rattle.chromesquid.proofs.ByRows.{after_searcher, rows_are_of}
use Rattle.chromesquid.specs.Searcher.{IsBuiltFrom, Searcher}
use Rattle.chromesquid.specs.StreamIters.{IsNewByRows, IsNewItself}
use Rattle.chromesquid.specs.contracts.automaton.AhoCorasickAutomaton.TheImpl.{ghosts as of_searcher}
use Rattle.chromesquid.proofs.stream_iter.StreamStart.into_progress.Goals as goal

pub returns-in-Left-clause-unbegun : goal.returns-in-Left-clause-unbegun
returns-in-Left-clause-unbegun c = λ p built.
    let searcher = c.args.self.searcher.now in
    let start = c.in-Left.start in
    let new : IsNewItself searcher start = (rw c.in-Left.is at c.requires.new) in
    let after = new.fresh_for.fresh p (subst (λ (s : Searcher). IsBuiltFrom s p) (sym new.same) built) in
    subst (λ s. IsAfter of_searcher searcher p 0 s []) (sym (c.into_progress.ensures.same ∙ ap (λ s. s.progress) c.in-Left.start-is)) (subst (λ (s : Searcher). IsAfter of_searcher s p 0 start.progress []) new.same after)

pub returns-in-Right-clause-unbegun : goal.returns-in-Right-clause-unbegun
returns-in-Right-clause-unbegun c = λ p built.
    let searcher = c.args.self.searcher.now in
    let start = c.in-Right.start in
    let new : IsNewByRows searcher start = (rw c.in-Right.is at c.requires.new) in
    let after = new.fresh_for.fresh p (rows_are_of start.automaton.now searcher new.held p built) in
    subst (λ s. IsAfter of_searcher searcher p 0 s []) (sym (c.into_progress-in-Right.ensures.same ∙ ap (λ s. s.progress) c.in-Right.start-is)) (after_searcher start.automaton.now searcher new.held p 0 start.progress [] after)

pub returns-in-Left-clause-some : goal.returns-in-Left-clause-some
returns-in-Left-clause-some c = let new : IsNewItself c.args.self.searcher.now c.in-Left.start = (rw c.in-Left.is at c.requires.new) in new.fresh_for.stands.some

pub returns-in-Right-clause-some : goal.returns-in-Right-clause-some
returns-in-Right-clause-some c = let new : IsNewByRows c.args.self.searcher.now c.in-Right.start = (rw c.in-Right.is at c.requires.new) in new.fresh_for.stands.some
