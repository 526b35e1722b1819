-- What is copied is the cover.
use Rattle.std.proofs.Common.{ℕ, ◌++◌, List, sym, subst, ap, ◌∙◌}
use Rattle.aho_core.specs.Replacement.{pieces_of, replaced}
use Rattle.aho_laws.proofs.TextRuns.{runs-made}
use Rattle.aho_automaton.specs.Covering.{runs_in}
use Rattle.aho_automaton.proofs.automaton.Automaton.try_cover_all_bytes.Goals as goal

pub returns-clause-covered : goal.returns-clause-covered
returns-clause-covered g c p of =
    let haystack = c.args.haystack.now in
    let still = subst (λ x. g.Self.Automaton.is_of x p) (sym c.in_ok-runs.ensures.over.0) of in (
      runs_in p haystack,
      runs-made p haystack,
      c.in_ok-cover_bytes.ensures.covered p still ∙ ap (λ (bytes : List ℕ). bytes ++ replaced haystack (runs_in p haystack) (pieces_of c.args.replace_with.now)) c.new-dst.ensures.items,
    )
