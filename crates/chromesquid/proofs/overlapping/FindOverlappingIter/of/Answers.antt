use Rattle.std.proofs.Common.{Option, length, refl}
use Rattle.std.specs.Iterator.{Count, at_most}
use Rattle.aho_core.specs.Occurrence.{Occurrence}
use Rattle.aho_automaton.specs.Overlaps.{CanGive, GivesOverlapping, left}
use Rattle.aho_automaton.specs.declared.automaton.Automaton.{Ghosts as Automata}
use Rattle.aho_automaton.specs.declared.overlapping.FindOverlappingIter.{FindOverlappingIter as ListBy}
use Rattle.aho_hybrid.specs.contracts.hybrid.HybridAutomaton.TheImpl.{ghosts as of_rows}
use Rattle.chromesquid.proofs.HeldIters.{lists_left, lists_right}
use Rattle.chromesquid.specs.contracts.automaton.AhoCorasickAutomaton.TheImpl.{ghosts as of_searcher}
use Rattle.chromesquid.proofs.overlapping.FindOverlappingIter.of.Goals as goal

-- the members of an automaton's iterator
module _ {A : Type 0} (G : Automata A) where
  abbrev can : ListBy A → Type 0
  can it = CanGive G.is_of G.kind G.start G.valid G.held it.automaton.now it.input it.state

  abbrev gives : ListBy A → Option Occurrence → ListBy A → Type 0
  gives it given after = GivesOverlapping G.is_of G.valid G.held it.automaton.now it.input it.state given after.automaton.now after.input after.state

  abbrev remains : ListBy A → Count
  remains it = at_most (left (length (G.lengths it.automaton.now)) it.input it.state)

pub returns-in_ok-list_by-in-Some-clause-lists : goal.returns-in_ok-list_by-in-Some-clause-lists
returns-in_ok-list_by-in-Some-clause-lists c =
    let call = c.in_ok-list_by-in-Some in
    lists_right (gives of_searcher) (gives of_rows) (λ it. it.by) (can of_searcher) (can of_rows) (remains of_searcher) (remains of_rows) c.args.searcher.now _ call.field-0 refl c.args.input call.ensures.lists

pub returns-in_ok-list_by-in-None-clause-lists : goal.returns-in_ok-list_by-in-None-clause-lists
returns-in_ok-list_by-in-None-clause-lists c =
    let call = c.in_ok-list_by-in-None in
    lists_left (gives of_searcher) (gives of_rows) (λ it. it.by) (can of_searcher) (can of_rows) (remains of_searcher) (remains of_rows) c.args.searcher.now _ call.field-0 refl c.args.input call.ensures.lists
