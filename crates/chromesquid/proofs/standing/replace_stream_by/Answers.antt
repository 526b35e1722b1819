use Rattle.std.proofs.Common.{◌≤◌, ◌∙◌, List, ℕ, ap, subst, sym}
use Rattle.std.specs.Prelude.{length}
use Rattle.aho_core.specs.Laws.{shortest}
use Rattle.aho_core.specs.declared.search.Anchored.TheVariants.{No}
use Rattle.chromesquid.proofs.Built.{start_of, start_refused}
use Rattle.chromesquid.proofs.Replaced.{begun_of, near_of, replaced_of}
use Rattle.chromesquid.proofs.standing.replace_stream_by.Goals as goal

pub try_stream_replace_all-requires : goal.try_stream_replace_all-requires
try_stream_replace_all-requires g c =
    let stands = c.requires.stands in
    record {
      of = (stands.some.0, stands.of stands.some.0 stands.some.1);
      one_each = c.requires.one_each ∙ sym (ap length stands.lengths);
    }

pub returns-clause-empty : goal.returns-clause-empty
returns-clause-empty g c = λ empty. c.try_stream_replace_all.ensures.empty (ap shortest c.requires.stands.lengths ∙ empty)

pub returns-clause-refused : goal.returns-clause-refused
returns-clause-refused g c = λ none refuses.
    let stands = c.requires.stands in
    c.try_stream_replace_all.ensures.refused _ (subst (λ (ls : List ℕ). 1 ≤ shortest ls) (sym stands.lengths) none) (stands.start ∙ start_refused c.args.searcher.now refuses)

pub returns-clause-answered : goal.returns-clause-answered
returns-clause-answered g c = λ reason none answers.
    let stands = c.requires.stands in
    let start = start_of No c.args.searcher.now stands.some answers in
    c.try_stream_replace_all.ensures.suits start.0 reason (subst (λ (ls : List ℕ). 1 ≤ shortest ls) (sym stands.lengths) none) (stands.start ∙ start.1)

pub returns-clause-replaced : goal.returns-clause-replaced
returns-clause-replaced g c = λ p built.
    replaced_of _ _ (g.A.Automaton.is_of c.args.automaton.now) p (c.requires.stands.of p built) _ _ _ _ _ _ c.try_stream_replace_all.ensures.leaves.replaced

pub returns-clause-begun : goal.returns-clause-begun
returns-clause-begun g c = λ p built.
    begun_of _ _ (g.A.Automaton.is_of c.args.automaton.now) p (c.requires.stands.of p built) _ _ _ _ _ _ c.try_stream_replace_all.ensures.leaves.begun

pub returns-clause-near : goal.returns-clause-near
returns-clause-near g c = λ p built.
    near_of _ _ (g.A.Automaton.is_of c.args.automaton.now) p (c.requires.stands.of p built) _ _ _ _ _ _ c.try_stream_replace_all.ensures.leaves.near

pub returns-clause-limit : goal.returns-clause-limit
returns-clause-limit g c = c.try_stream_replace_all.ensures.leaves.limit
