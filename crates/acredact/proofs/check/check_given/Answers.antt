-- What was loaded is looked for, behind what is told of doubtful patterns.
use Rattle.acredact.proofs.Common.{all_given, call_of, inl, inr, refl, rules, secrets_of, texts_looked_for}
use Rattle.acredact.proofs.Checks.{check_looked, doubts_told}
use Rattle.acredact.proofs.Outcomes.{comes_early, comes_untold}
use Rattle.acredact.proofs.Ready.{ready_looks}
use Rattle.acredact.proofs.check.check_given.Goals as goal

pub returns-then-not-gives_pattern-clause-outcome : goal.returns-then-not-gives_pattern-clause-outcome
returns-then-not-gives_pattern-clause-outcome g c = comes_untold tt (inl (inr (refl, search rules)))

pub returns-in-Err-clause-outcome : goal.returns-in-Err-clause-outcome
returns-in-Err-clause-outcome g c = comes_untold tt (inr (inl c.in-Err.ensures.fails))

pub returns-in-Err-warn_of_lists-clause-outcome : goal.returns-in-Err-warn_of_lists-clause-outcome
returns-in-Err-warn_of_lists-clause-outcome g c =
    let doubted = rw (c.as_slice-rules.ensures.value, c.has-strict.ensures.has) at c.in-Err-warn_of_lists.ensures.refused in
    rw c.in-Err-warn_of_lists.ensures.untold
    (comes_untold tt (inr (inr (inr (secrets_of c.in-Ok.rules.items, _, _, c.in-Ok.ensures.given, doubted)))))

pub returns-in-Err-ready_of-clause-outcome : goal.returns-in-Err-ready_of-clause-outcome
returns-in-Err-ready_of-clause-outcome g c =
    let doubts = rw (c.as_slice-rules.ensures.value, c.has-strict.ensures.has) at c.in-Ok-warn_of_lists.ensures.told in
    comes_early tt (doubts_told g.E.Sink (call_of g.F.Folder c.args.folder.now (all_given c.args.given.now)) _ _ (secrets_of c.in-Ok.rules.items) _ _ c.in-Ok.ensures.given doubts)
    (inr (elim (rw c.as_slice-rules.ensures.value at c.in-Err-ready_of.ensures.refused) [
      | inl refused ↦ inr (inl (secrets_of c.in-Ok.rules.items, _, _, c.in-Ok.ensures.given, refused))
      | inr memory ↦ inl (inr memory)
    ]))

pub look_at_files-requires : goal.look_at_files-requires
look_at_files-requires g c = record {
  ready = (texts_looked_for (all_given c.args.given.now) (secrets_of c.as_slice-rules.result.now), ready_looks (all_given c.args.given.now) c.as_slice-rules.result.now c.in-Ok-ready_of.ready c.in-Ok-ready_of.ensures.ready c.words.result c.words.ensures.words);
}

pub returns-clause-outcome : goal.returns-clause-outcome
returns-clause-outcome g c =
    let given = all_given c.args.given.now in
    let doubts = rw (c.as_slice-rules.ensures.value, c.has-strict.ensures.has) at c.in-Ok-warn_of_lists.ensures.told in
    let by = ready_looks given c.as_slice-rules.result.now c.in-Ok-ready_of.ready c.in-Ok-ready_of.ensures.ready c.words.result c.words.ensures.words in
    let sees = rw (c.as_slice.ensures.value, c.in-Ok-ready_of.ensures.ready.names, c.as_slice-rules.ensures.value) at (c.look_at_files.ensures.sees (texts_looked_for given (secrets_of c.as_slice-rules.result.now)) by) in
    check_looked g.E.Sink (call_of g.F.Folder c.args.folder.now given) _ _ (secrets_of c.in-Ok.rules.items) _ _ c.in-Ok.ensures.given doubts _ _ c.look_at_files.result (search rules) sees c.look_at_files.ensures.why
