use Rattle.std.proofs.Common.{◌∙◌, ap, subst, sym}
use Rattle.std.specs.Borrow.{MutBor}
use Rattle.aho_stream.specs.declared.progress.StreamProgress.{StreamProgress}
use Rattle.chromesquid.proofs.Begun.{limit_of}
use Rattle.chromesquid.proofs.Replaced.{first_of, whole_of}
use Rattle.chromesquid.proofs.stream_iter.finds_by.Goals as goal

pub returns-clause-finds : goal.returns-clause-finds
returns-clause-finds g c =
    let start = c.requires.fresh in
    let stands = start.stands in
    record {
      ready = c.finds.ensures.ready;
      first = λ p built. first_of _ p _ c.finds.result (c.finds.ensures.first p (stands.of p built));
      finds = λ p built. whole_of _ p _ c.finds.result (c.finds.ensures.finds p (stands.of p built));
      limit = λ p built.
          limit_of g.A.Automaton g.R.Source (λ automaton q of. (g.met.A.Automaton.laws automaton q of).lengths_are) p c.finds.result c.args.source.now
          (subst (λ a. g.A.Automaton.is_of a p) (sym c.finds.ensures.of.1) (stands.of p built)) c.finds.ensures.after
          (ap (λ (s : StreamProgress). s.ended) c.finds.ensures.progress ∙ start.going) (ap (λ (s : StreamProgress). s.limit) c.finds.ensures.progress ∙ start.limit)
          (ap (λ (b : MutBor g.row.R.Denot). b.now) c.finds.ensures.of.0);
      along = λ p built. let a = c.finds.ensures.along p (stands.of p built) in record { so_far = a.so_far; all = a.all };
    }
