-- The iterator gives the listing, whatever patterns the automaton is of.
use Rattle.std.proofs.Common.{◌≡◌, ℕ, take, sym, ap, arith, rules, ◌∙◌}
use Rattle.std.proofs.iter.runs.Made.{took}
use Rattle.aho_core.specs.declared.search.Anchored.{Anchored}
use Rattle.aho_core.specs.declared.search.Anchored.TheVariants.{No}
use Rattle.aho_core.specs.Overlapping.{overlapping, overlapping_by}
use Rattle.aho_automaton.proofs.Drained.{FitsOver, drained, fresh_over, given_first, rests, step_over}
use Rattle.aho_automaton.proofs.automaton.Automaton.try_find_overlapping_iter.Goals as goal

pub returns-clause-lists : goal.returns-clause-lists
returns-clause-lists g c p of run seen from whole =
    let a = g.Self.Automaton in
    let unanchored : c.args.input.anchored ≡ No = search rules in
    let calls = took run in
    let last = calls.2 whole in
    (drained _ (λ it n. FitsOver a.is_of a.valid a.held c.args.self.now p c.args.input it.automaton.now it.input it.state n) (overlapping p c.args.input)
    (λ s t given n. step_over a.is_of a.valid a.held c.args.self.now p c.args.input of s.automaton.now t.automaton.now s.input t.input s.state t.state given n)
    run.items run.from last.0 0 (omega arith)
    (rw from (fresh_over a.is_of a.valid a.held c.args.self.now p c.args.input _ _ _ c.new.ensures.automaton c.new.ensures.input c.new.ensures.fresh))
    (calls.0, calls.1, last.1)).0
    ∙ ap (λ (x : Anchored). overlapping_by x p c.args.input.haystack c.args.input.start c.args.input.end) unanchored

pub returns-clause-first : goal.returns-clause-first
returns-clause-first g c p of run seen from =
    let a = g.Self.Automaton in
    let unanchored : c.args.input.anchored ≡ No = search rules in
    let calls = took run in
    given_first _ (λ it n. FitsOver a.is_of a.valid a.held c.args.self.now p c.args.input it.automaton.now it.input it.state n) (overlapping p c.args.input)
    (λ s t given n. step_over a.is_of a.valid a.held c.args.self.now p c.args.input of s.automaton.now t.automaton.now s.input t.input s.state t.state given n)
    run.items run.from calls.0 0 (omega arith)
    (rw from (fresh_over a.is_of a.valid a.held c.args.self.now p c.args.input _ _ _ c.new.ensures.automaton c.new.ensures.input c.new.ensures.fresh))
    calls.1
    ∙ ap (λ (n : ℕ). take n (overlapping p c.args.input)) (sym run.long)
    ∙ ap (λ (x : Anchored). take run.len (overlapping_by x p c.args.input.haystack c.args.input.start c.args.input.end)) unanchored

pub returns-clause-fused : goal.returns-clause-fused
returns-clause-fused g c p of ms u t rest calls later =
    let a = g.Self.Automaton in
    rests _ (λ it n. FitsOver a.is_of a.valid a.held c.args.self.now p c.args.input it.automaton.now it.input it.state n) (overlapping p c.args.input)
    (λ s t given n. step_over a.is_of a.valid a.held c.args.self.now p c.args.input of s.automaton.now t.automaton.now s.input t.input s.state t.state given n)
    rest u t
    (drained _ (λ it n. FitsOver a.is_of a.valid a.held c.args.self.now p c.args.input it.automaton.now it.input it.state n) (overlapping p c.args.input)
    (λ s t given n. step_over a.is_of a.valid a.held c.args.self.now p c.args.input of s.automaton.now t.automaton.now s.input t.input s.state t.state given n)
    ms c.new.result u 0 (omega arith) (fresh_over a.is_of a.valid a.held c.args.self.now p c.args.input _ _ _ c.new.ensures.automaton c.new.ensures.input c.new.ensures.fresh) calls).1
    later
