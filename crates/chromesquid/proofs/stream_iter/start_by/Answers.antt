use Rattle.std.proofs.Common.{◌≤◌, ◌∙◌, List, ℕ, ap, subst, sym}
use Rattle.aho_core.specs.Laws.{shortest}
use Rattle.aho_core.specs.declared.search.Anchored.TheVariants.{No}
use Rattle.chromesquid.proofs.Begun.{fresh_for}
use Rattle.chromesquid.proofs.Built.{start_of, start_refused}
use Rattle.chromesquid.proofs.stream_iter.start_by.Goals as goal

pub returns-clause-fresh : goal.returns-clause-fresh
returns-clause-fresh g c = fresh_for g.A.Automaton c.args.searcher.now c.args.automaton.now c.new.result c.requires.stands c.new.ensures.made c.new.ensures.begun c.new.ensures.of c.new.ensures.after

pub returns-clause-empty : goal.returns-clause-empty
returns-clause-empty g c = λ empty. c.new.ensures.refuses.empty (ap shortest c.requires.stands.lengths ∙ empty)

pub returns-clause-refused : goal.returns-clause-refused
returns-clause-refused g c = λ none refuses.
    let stands = c.requires.stands in
    c.new.ensures.refuses.refused _ (subst (λ (ls : List ℕ). 1 ≤ shortest ls) (sym stands.lengths) none) (stands.start ∙ start_refused c.args.searcher.now refuses)

pub returns-clause-memory : goal.returns-clause-memory
returns-clause-memory g c = λ none answers.
    let stands = c.requires.stands in
    let start = start_of No c.args.searcher.now stands.some answers in
    c.new.ensures.refuses.memory start.0 (subst (λ (ls : List ℕ). 1 ≤ shortest ls) (sym stands.lengths) none) (stands.start ∙ start.1)
