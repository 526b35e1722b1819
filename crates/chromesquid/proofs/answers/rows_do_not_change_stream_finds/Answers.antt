use Rattle.std.proofs.Common.{ℕ, List, subst}
use Rattle.std.specs.Prelude.{None}
use Rattle.aho_core.specs.Iteration.{AreFinds}
use Rattle.aho_core.specs.Search.{plain_search}
use Rattle.aho_laws.proofs.Iterations.{finds-unique}
use Rattle.chromesquid.proofs.answers.rows_do_not_change_stream_finds.Goals as goal

pub returns-clause-alike : goal.returns-clause-alike
returns-clause-alike g c =
    let (p, by_links, by_rows) = c.requires.of in
    let one = c.in_ok-by_nfa.ensures.finds p by_links in
    let two = c.in_ok-by_rows.ensures.finds p by_rows in
    record {
      one = record { given = one.given; gives = one.gives };
      two = record { given = two.given; gives = two.gives };
      alike = λ same.
          finds-unique p c.in_ok-by_nfa.by_nfa.items c.in_ok-by_rows.by_rows.items (plain_search two.given) None
          (subst (λ (bytes : List ℕ). AreFinds p (plain_search bytes) None c.in_ok-by_nfa.by_nfa.items) same one.finds) two.finds;
    }
