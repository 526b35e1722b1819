use Rattle.std.proofs.Common.{◌≡◌, rules, subst}
use Rattle.std.specs.Prelude.{None}
use Rattle.aho_core.specs.Iteration.{AreFinds}
use Rattle.aho_core.specs.Search.{Search}
use Rattle.aho_laws.proofs.Iterations.{finds-unique}
use Rattle.aho_hybrid.proofs.answers.rows_do_not_change_finds.Goals as goal

pub returns-clause-alike : goal.returns-clause-alike
returns-clause-alike c =
    let of = c.requires.of in
    let one : c.in_ok-clone.field-0 ≡ c.args.input.now = search rules in
    let other : c.in_ok-clone-2.field-0 ≡ c.args.input.now = search rules in
    finds-unique of.0 c.in_ok-by_nfa.by_nfa.items c.in_ok-by_rows.by_rows.items c.args.input.now None
    (subst (λ (s : Search). AreFinds of.0 s None c.in_ok-by_nfa.by_nfa.items) one (c.in_ok-by_nfa.ensures.finds of.0 of.1))
    (subst (λ (s : Search). AreFinds of.0 s None c.in_ok-by_rows.by_rows.items) other (c.in_ok-by_rows.ensures.finds of.0 of.2))

pub returns-clause-finds : goal.returns-clause-finds
returns-clause-finds c p of =
    let same : c.in_ok-clone-2.field-0 ≡ c.args.input.now = search rules in
    subst (λ (s : Search). AreFinds p s None c.in_ok-by_rows.by_rows.items) same (c.in_ok-by_rows.ensures.finds p of)
