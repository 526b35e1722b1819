use Rattle.std.proofs.Common.{◌≡◌, ◌+◌, sym, subst, ◌∙◌, arith}
use Rattle.aho_prefilter.specs.Candidate.{NoneStartsBefore}
use Rattle.aho_prefilter.proofs.Skips.{IsCandidate-nothing, IsCandidate-place}
use Rattle.aho_automaton.proofs.Told.{is_none}
use Rattle.aho_automaton.proofs.find.resumes_at.Goals as goal

pub returns-in-Some-clause-resumes : goal.returns-in-Some-clause-resumes
returns-in-Some-clause-resumes g c p of = λ behind.
    let told = IsCandidate-place p _ _ _ c.in-Some.place _ (c.candidate_in.ensures.candidate p of) (sym c.into_option.ensures.place ∙ c.in-Some.is) in
    let is : c.max.result ≡ c.in-Some.place = omega (arith, behind, c.max.ensures, c.requires.past) in
    record {
      waits = c.if-not-may_wait.false;
      none = is_none _ c.if-is_some.ensures;
      ended = omega (arith, c.if-walked-last.false);
      within = omega (arith, is, told.1);
      behind = subst (λ n. NoneStartsBefore p (g.T.Text.bytes c.args.text.now) (c.args.last + 1) c.args.walked.end n) (sym is) told.2;
    }

pub returns-in-Some-clause-forward : goal.returns-in-Some-clause-forward
returns-in-Some-clause-forward g c p of =
    let told = IsCandidate-place p _ _ _ c.in-Some.place _ (c.candidate_in.ensures.candidate p of) (sym c.into_option.ensures.place ∙ c.in-Some.is) in
    omega (arith, told.0, c.max.ensures)

pub returns-in-None-clause-resumes : goal.returns-in-None-clause-resumes
returns-in-None-clause-resumes g c p of = λ behind.
    record {
      waits = c.if-not-may_wait.false;
      none = is_none _ c.if-is_some.ensures;
      ended = omega (arith, c.if-walked-last.false);
      within = omega arith;
      behind = λ m o. absurd (IsCandidate-nothing p _ _ _ _ (c.candidate_in.ensures.candidate p of) (sym c.into_option.ensures.place ∙ c.in-None.is) m o);
    }
