use Rattle.std.proofs.Common.{◌≤◌, ◌∙◌, List, ℕ, ap, inl, inr, subst, sym}
use Rattle.aho_core.specs.Laws.{shortest}
use Rattle.aho_core.specs.declared.search.Anchored.TheVariants.{No}
use Rattle.chromesquid.proofs.Built.{start_of, start_refused}
use Rattle.chromesquid.proofs.Replaced.{run_of}
use Rattle.chromesquid.proofs.standing.replace_stream_with_by.Goals as goal

pub try_stream_replace_all_with-requires : goal.try_stream_replace_all_with-requires
try_stream_replace_all_with-requires g c =
    let stands = c.requires.stands in
    record {
      of = (stands.some.0, stands.of stands.some.0 stands.some.1);
      callable = c.requires.callable;
    }

pub returns-clause-runs : goal.returns-clause-runs
returns-clause-runs g c = λ none answers p built.
    let stands = c.requires.stands in
    let start = start_of No c.args.searcher.now stands.some answers in
    elim (c.try_stream_replace_all_with.ensures.runs (start.0, subst (λ (ls : List ℕ). 1 ≤ shortest ls) (sym stands.lengths) none, stands.start ∙ start.1)) [
      | inl refused ↦ inl refused
      | inr over ↦ inr (run_of _ _ (g.A.Automaton.is_of c.args.automaton.now) p (stands.of p built) _ _ _ _ _ _ _ over)
    ]

pub returns-clause-empty : goal.returns-clause-empty
returns-clause-empty g c = λ empty. c.try_stream_replace_all_with.ensures.empty (ap shortest c.requires.stands.lengths ∙ empty)

pub returns-clause-refused : goal.returns-clause-refused
returns-clause-refused g c = λ none refuses.
    let stands = c.requires.stands in
    c.try_stream_replace_all_with.ensures.refused _ (subst (λ (ls : List ℕ). 1 ≤ shortest ls) (sym stands.lengths) none) (stands.start ∙ start_refused c.args.searcher.now refuses)
