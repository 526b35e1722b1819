-- What is found, here or at a later place.
use Rattle.std.proofs.Common.{arith, ◌∙◌, ap}
use Rattle.aho_automaton.proofs.Gives.{fewer_here, fewer_later, fits_here, gives, gives_later, gives_none}
use Rattle.aho_automaton.proofs.overlapping.next_match.Goals as goal

pub give-requires-clause-fits : goal.give-requires-clause-fits
give-requires-clause-fits g c = fits_here (g.met.A.Automaton.laws c.args.automaton.now _ c.requires.part_way.2) c.requires.standard _ c.args.input.now c.requires.within _ _ c.requires.part_way.3.stands

pub returns-then-index-match_len-clause-found : goal.returns-then-index-match_len-clause-found
returns-then-index-match_len-clause-found g c p n of w =
    ap (λ r. r.mat) c.give.ensures.given
    ∙ (gives (g.met.A.Automaton.laws c.args.automaton.now p of) c.requires.standard _ c.args.input.now c.requires.within _ _ _ n w (omega (arith, c.match_len.ensures.len))).0

pub returns-then-index-match_len-clause-fits : goal.returns-then-index-match_len-clause-fits
returns-then-index-match_len-clause-fits g c p n of w =
    rw c.give.ensures.given
    (gives (g.met.A.Automaton.laws c.args.automaton.now p of) c.requires.standard _ c.args.input.now c.requires.within _ _ _ n w (omega (arith, c.match_len.ensures.len))).1

pub returns-then-index-match_len-clause-fewer : goal.returns-then-index-match_len-clause-fewer
returns-then-index-match_len-clause-fewer g c =
    rw c.give.ensures.given
    (fewer_here (g.met.A.Automaton.laws c.args.automaton.now _ c.requires.part_way.2) c.requires.standard _ c.args.input.now c.requires.within _ _ _ c.requires.part_way.3.stands (omega (arith, c.match_len.ensures.len)))

pub give-requires-in-Some-clause-fits : goal.give-requires-in-Some-clause-fits
give-requires-in-Some-clause-fits g c =
    fits_here (g.met.A.Automaton.laws c.args.automaton.now _ c.requires.part_way.2) c.requires.standard _ c.args.input.now c.requires.within _ _ (c.in-Some.ensures.walks _ c.requires.part_way.2 c.requires.part_way.3.stands).1

pub returns-in-Some-clause-found : goal.returns-in-Some-clause-found
returns-in-Some-clause-found g c p n of w =
    let next = c.in-Some.ensures.walks p of w.stands in
    ap (λ r. r.mat) c.give-in-Some.ensures.given
    ∙ (gives_later (g.met.A.Automaton.laws c.args.automaton.now p of) c.requires.standard _ c.args.input.now c.requires.within _ _ _ n _ _ w (omega (arith, c.match_len.ensures.len)) next.0 next.1 next.2 c.in-Some.ensures.lists).0

pub returns-in-Some-clause-fits : goal.returns-in-Some-clause-fits
returns-in-Some-clause-fits g c p n of w =
    let next = c.in-Some.ensures.walks p of w.stands in
    rw c.give-in-Some.ensures.given
    (gives_later (g.met.A.Automaton.laws c.args.automaton.now p of) c.requires.standard _ c.args.input.now c.requires.within _ _ _ n _ _ w (omega (arith, c.match_len.ensures.len)) next.0 next.1 next.2 c.in-Some.ensures.lists).1

pub returns-in-Some-clause-fewer : goal.returns-in-Some-clause-fewer
returns-in-Some-clause-fewer g c =
    let next = c.in-Some.ensures.walks _ c.requires.part_way.2 c.requires.part_way.3.stands in
    rw c.give-in-Some.ensures.given
    (fewer_later (g.met.A.Automaton.laws c.args.automaton.now _ c.requires.part_way.2) c.requires.standard _ c.args.input.now c.requires.within c.args.sid _ _ _ _ next.0 next.1 c.in-Some.ensures.lists)

pub returns-in-None-clause-found : goal.returns-in-None-clause-found
returns-in-None-clause-found g c p n of w =
    (gives_none (g.met.A.Automaton.laws c.args.automaton.now p of) c.requires.standard _ c.args.input.now c.requires.within _ _ _ n w (omega (arith, c.match_len.ensures.len)) (c.in-None.ensures.walks p of w.stands)).0

pub returns-in-None-clause-fits : goal.returns-in-None-clause-fits
returns-in-None-clause-fits g c p n of w =
    (gives_none (g.met.A.Automaton.laws c.args.automaton.now p of) c.requires.standard _ c.args.input.now c.requires.within _ _ _ n w (omega (arith, c.match_len.ensures.len)) (c.in-None.ensures.walks p of w.stands)).1
