-- Memory alone may be wanting before the search, and then it is as the first call of the iterator answers.
use Rattle.acredact.proofs.Common.{Err, LooksAt, Memory, ap, false, occurs_of, rules, sought, ◌∙◌, ◌≡◌}
use Rattle.acredact.proofs.Looks.{looks_first, looks_memory}
use Rattle.acredact.proofs.OneFile.{so_there}
use Rattle.acredact.proofs.looker.occurs_in.Goals as goal

pub returns-in_err-start : goal.returns-in_err-start
returns-in_err-start g c =
    let is : c.from_residual.result ≡ Err c.in_err-start.field-0.0 = search rules in
    let can = c.requires.ready.begins in
    let memory : c.in_err-start.field-0.0 ≡ Memory = c.in_err-start.ensures.refuses.memory can.0 can.1 can.2 in
    record { looks = λ p of. rw (is ∙ ap Err memory) (looks_memory g.R.Source (sought p false) c.args.source.now) }

pub finds-finds-requires : goal.finds-finds-requires
finds-finds-requires g c =
    let of = c.in_ok-start.ensures.of in
    record {
      some = (c.requires.ready.patterns, rw of c.requires.ready.of);
      fresh = λ p is. rw of (c.in_ok-start.ensures.after p (rw of at is));
      «open» = c.in_ok-start.ensures.begun.0;
      below = c.in_ok-start.ensures.begun.1;
    }

pub returns : goal.returns
returns g c = record {
  looks = λ p of.
      let it = c.finds-finds in
      let rest = c.next-first.new.self in
      rw c.occurs_of.ensures.occurs
      (so_there rest.chunks.source.now _ (λ there. LooksAt g.R.Source (sought p false) (occurs_of c.next-first.result) c.args.source.now there) (search rules)
      (rw (ap (λ s. s.now) it.ensures.of.0) at (looks_first g.A.Automaton g.R.Source p it.result rest (it.ensures.along p (rw c.in_ok-start.ensures.of of)) it.ensures.ready c.next-first.result c.next-first.ensures.steps)));
}
