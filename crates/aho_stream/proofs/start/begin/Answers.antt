use Rattle.std.proofs.Common.{◌∙◌, ap, refl, sym, subst, arith, max, [], ℕ}
use Rattle.aho_devices.specs.Buffer.{capacity_for}
use Rattle.aho_stream.specs.After.{IsAfter}
use Rattle.aho_stream.specs.declared.progress.StreamProgress.{StreamProgress}
use Rattle.aho_stream.proofs.Afters.{after_made}
use Rattle.aho_stream.proofs.start.begin.Goals as goal

pub returns-clause-after : goal.returns-clause-after
returns-clause-after g c p of =
    let laws = g.met.A.Automaton.laws _ p of in
    let aut = c.args.automaton.now in
    subst (λ (s : StreamProgress). IsAfter g.A.Automaton aut p 0 s []) (sym c.new-2.ensures.made)
    (after_made _ _ p 0 _ _ _ refl laws.lengths_are c.in_ok-start.ensures.no_empty (omega (arith, c.max_pattern_len.ensures.longest))
    c.in_ok-start.ensures.valid c.in_ok-start.ensures.shallow (c.in_ok-start.ensures.begins p of)
    (omega (arith, c.min.ensures)) (c.in_ok-buffer.ensures.least ∙ ap (max 1) c.max_pattern_len.ensures.longest)
    (c.in_ok-buffer.ensures.size ∙ ap (λ (n : ℕ). capacity_for (max 1 n)) c.max_pattern_len.ensures.longest) c.in_ok-buffer.ensures.empty)
