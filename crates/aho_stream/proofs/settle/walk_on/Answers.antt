-- What the walk found, and each turn of the loop.
use Rattle.std.proofs.Common.{◌≡◌, ◌+◌, refl, sym, ◌∙◌, ap, subst, arith, false, ℕ, ◌++◌, take, length, List}
use Rattle.std.specs.Prelude.{Option}
use Rattle.aho_core.specs.Laws.{BestAfter, better, told}
use Rattle.aho_core.specs.Occurrence.{Occurrence}
use Rattle.aho_core.specs.Patterns.{Patterns}
use Rattle.aho_core.specs.declared.search.Anchored.TheVariants.{No}
use Rattle.aho_automaton.proofs.Told.{better-none}
use Rattle.aho_stream.specs.After.{is_settled}
use Rattle.aho_stream.specs.Walking.{WalksOn}
use Rattle.aho_stream.proofs.Walks.{best_of_more, one_more, still_unsettled, walks_all, walks_settled}
use Rattle.aho_stream.proofs.settle.walk_on.Given.{Over}
use Rattle.aho_stream.proofs.settle.walk_on.Goals.{After-step-sid, else-looks_at, then-looks_at+else-ends_in}
use Rattle.aho_stream.proofs.settle.walk_on.Goals as goal

same_walk : (g : Over) (c : After-step-sid g) → g.W.Walk.of c.step-sid.new.self ≡ g.W.Walk.of c.args.walk.now
same_walk g c = c.step-sid.ensures.same ∙ c.loop-count.invariant.same_walk

-- the state is held after one byte more
held_more : (g : Over) (c : After-step-sid g) (p : Patterns) (word : List ℕ) → g.W.Of.Automaton.is_of (g.W.Walk.of c.args.walk.now) p → g.W.Of.Automaton.held (g.W.Walk.of c.args.walk.now) p No word c.args.sid
    → g.W.Of.Automaton.held (g.W.Walk.of c.args.walk.now) p No (word ++ take (c.loop-count.count + 1) c.args.bytes.now) c.step-sid.result
held_more g c p word of is_held =
    subst (λ (xs : List ℕ). g.W.Of.Automaton.held (g.W.Walk.of c.args.walk.now) p No xs c.step-sid.result) (sym (one_more word c.args.bytes.now c.loop-count.count (omega arith)))
    ((rw c.loop-count.invariant.same_walk at c.step-sid.ensures.goes_on) p of _ (c.loop-count.invariant.held p word of is_held))

-- the best after one byte more is made of what was found and of what the state tells
best_more : (g : Over) (c : After-step-sid g) (p : Patterns) (word : List ℕ) → g.W.Of.Automaton.is_of (g.W.Walk.of c.args.walk.now) p → length word ≡ c.args.at → g.W.Of.Automaton.held (g.W.Walk.of c.args.walk.now) p No word c.args.sid → BestAfter p No word c.args.in_hand
    → BestAfter p No (word ++ take (c.loop-count.count + 1) c.args.bytes.now) (better (g.W.Of.Automaton.kind (g.W.Walk.of c.args.walk.now)) c.loop-count.found (told (g.W.Of.Automaton.lengths (g.W.Walk.of c.args.walk.now)) No 0 (c.args.at + c.loop-count.count + 1) (g.W.Of.Automaton.list (g.W.Walk.of c.args.walk.now) c.step-sid.result)))
best_more g c p word of place is_held is_best =
    best_of_more (g.met.W.Of.Automaton.laws _ p of) word c.args.bytes.now c.loop-count.count c.args.at c.step-sid.result c.loop-count.found place (omega arith) (held_more g c p word of is_held) (c.loop-count.invariant.best p word of place is_held is_best)

pub returns-then-ends_in-clause-walks : goal.returns-then-ends_in-clause-walks
returns-then-ends_in-clause-walks g c p word of place is_held is_best =
    let d = (goal.at.returns-then-ends_in-clause-walks g c).After-step-sid in
    let inv = c.loop-count.invariant in
    walks_settled (g.met.W.Of.Automaton.laws _ p of) word c.args.bytes.now c.loop-count.count c.args.at c.loop-count.sid c.loop-count.found place (inv.held p word of is_held) inv.going (inv.best p word of place is_held is_best)
    c.step-sid.result c.better_at-found.result (omega arith) (held_more g d p word of is_held) (rw (same_walk g d) at c.better_at-found.ensures.better)

pub returns-clause-walks : goal.returns-clause-walks
returns-clause-walks g c p word of place is_held is_best =
    let inv = c.loop-count.invariant in
    let all : c.loop-count.count ≡ length c.args.bytes.now = omega arith in
    subst (λ (n : ℕ). WalksOn p (g.W.Of.Automaton.lengths (g.W.Walk.of c.args.walk.now)) (g.W.Of.Automaton.held (g.W.Walk.of c.args.walk.now) p) word c.args.bytes.now (record { count = n; sid = c.loop-count.sid; found = c.loop-count.found })) all
    (walks_all (g.met.W.Of.Automaton.laws _ p of) word c.args.bytes.now c.loop-count.count c.args.at c.loop-count.sid c.loop-count.found place (inv.held p word of is_held) inv.going (inv.best p word of place is_held is_best) all)

pub loop-count-preserved : goal.loop-count-preserved
loop-count-preserved g c =
    let d = (goal.at.loop-count-preserved g c).After-step-sid in
    let inv = c.loop-count.invariant in
    let automaton = g.W.Walk.of c.args.walk.now in
    record {
      same_walk = same_walk g d;
      valid = rw inv.same_walk at c.step-sid.ensures.valid;
      paid = omega (arith, rw inv.same_walk at c.step-sid.ensures.cost, inv.paid);
      going = elim c.if-looks_at.branch [
        | else-looks_at w ↦ subst (λ (found : Option Occurrence). is_settled (g.W.Of.Automaton.kind automaton) (g.W.Of.Automaton.dead automaton c.step-sid.result) found ≡ false) (sym w.found-is)
            (still_unsettled _ _ _ c.loop-count.found inv.going (rw (same_walk g d) at (w.if-looks_at.ensures.plain refl)).0)
        | then-looks_at+else-ends_in w ↦ subst (λ (found : Option Occurrence). is_settled (g.W.Of.Automaton.kind automaton) (g.W.Of.Automaton.dead automaton c.step-sid.result) found ≡ false) (sym w.found-is)
            ((rw (same_walk g d) at w.if-ends_in.ensures.going) refl)
      ];
      held = λ p word of is_held. held_more g d p word of is_held;
      best = λ p word of place is_held is_best.
          subst (λ (best : Option Occurrence). BestAfter p No (word ++ take (c.loop-count.count + 1) c.args.bytes.now) best)
          (elim c.if-looks_at.branch [
            | else-looks_at w ↦ ap (λ (list : List ℕ). better (g.W.Of.Automaton.kind automaton) c.loop-count.found (told (g.W.Of.Automaton.lengths automaton) No 0 (c.args.at + c.loop-count.count + 1) list)) (rw (same_walk g d) at (w.if-looks_at.ensures.plain refl)).1
                ∙ better-none _ c.loop-count.found ∙ sym w.found-is
            | then-looks_at+else-ends_in w ↦ sym (rw (same_walk g d) at w.better_at-found.ensures.better) ∙ sym w.found-is
          ])
          (best_more g d p word of place is_held is_best);
    }
