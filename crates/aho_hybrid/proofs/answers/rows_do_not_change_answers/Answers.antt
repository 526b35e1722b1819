use Rattle.aho_laws.proofs.Answers.{IsAnswer-unique}
use Rattle.aho_hybrid.proofs.answers.rows_do_not_change_answers.Goals as goal

pub returns-clause-alike : goal.returns-clause-alike
returns-clause-alike c =
    let of = c.requires.of in
    IsAnswer-unique of.0 c.args.input.now c.answer_of.result c.answer_of-2.result (c.answer_of.ensures.answer of.0 of.1) (c.answer_of-2.ensures.answer of.0 of.2)
