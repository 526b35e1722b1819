-- Memory alone may be wanting before the cover, and what it writes to never fails.
use Rattle.acredact.proofs.Common.{Err, Memory, ap, length, length-map, refl, rules, sought, subst, sym, true, ◌∙◌, ◌≡◌}
use Rattle.acredact.proofs.Looks.{looks_counted, looks_memory, fault_looks}
use Rattle.acredact.proofs.Suited.{only_memory}
use Rattle.acredact.proofs.looker.stands_in.Goals as goal

pub returns-in_err-start : goal.returns-in_err-start
returns-in_err-start g c =
    let is : c.from_residual.result ≡ Err c.in_err-start.field-0.0 = search rules in
    let memory : c.in_err-start.field-0.0 ≡ Memory = only_memory g.A.Automaton c.args.automaton.now _ c.requires.ready.begins (c.requires.ready.standard refl) c.in_err-start.ensures.only c.in_err-start.ensures.refuses in
    record { looks = λ p of. rw (is ∙ ap Err memory) (looks_memory g.R.Source (sought p true) c.args.source.now) }

pub returns-in_err-counts : goal.returns-in_err-counts
returns-in_err-counts g c =
    let is : c.from_residual-in_err-counts.result ≡ Err Memory = search rules in
    record { looks = λ p of. rw is (looks_memory g.R.Source (sought p true) c.args.source.now) }

pub returns-in_err-cover_with : goal.returns-in_err-cover_with
returns-in_err-cover_with g c =
    let call = c.in_err-cover_with in
    let is : c.from_residual-in_err-cover_with.result ≡ Err call.field-0.0 = search rules in
    let written = rw c.in_ok-start.ensures.unbegun.chosen at call.ensures.counted.begun in
    record {
      looks = λ p of. rw is
          (record { given = written.given; ended = written.ended; gives = written.gives; seen = tt; only = fault_looks call.field-0.0 call.ensures.only call.ensures.errors.write_failed call.ensures.errors.took_nothing });
    }

pub returns : goal.returns
returns g c =
    let start = c.in_ok-start.start in
    let whole = rw c.in_ok-start.ensures.unbegun.chosen at c.in_ok-cover_with.ensures.counted.counted in
    record {
      looks = λ p of.
          let lengths = (g.met.A.Automaton.laws _ _ of).lengths_are in
          looks_counted p (rw lengths at c.requires.ready.begins.1) _ g.R.Source (g.A.Automaton.is_of start.automaton.now) (subst (λ (a : g.row.A.Denot). g.A.Automaton.is_of a p) (sym c.in_ok-start.ensures.of) of)
          (c.as_mut_slice-tally.ensures.value ∙ c.in_ok-counts.ensures.items_if_clones_equal (λ y same. same)) (c.patterns_len.ensures.len ∙ ap length lengths ∙ length-map p.words length) whole c.is_some_counted.result c.is_some_counted.ensures;
    }
