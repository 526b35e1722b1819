use Rattle.std.proofs.Common.{◌≡◌, ◌≤◌, ◌∙◌, ℕ, List, length, sym, ap, arith}
use Rattle.std.proofs.lemmas.Iterator.Consumers.{YieldsList-from_first, YieldsList-turn, YieldsList-end}
use Rattle.std.proofs.lemmas.List.{length_push}
use Rattle.aho_table.specs.Table.{State, Tables, push_match}
use Rattle.bench.proofs.Relinking.{matches_all, matches_more, matches_none, with_matches}
use Rattle.bench.proofs.relinked.add_matches.Goals as goal

pub loop-pattern-init : goal.loop-pattern-init
loop-pattern-init c =
    ap (λ (states : List State). record c.args.table.now { states = states }) (matches_none c.args.table.now.states c.args.sid c.args.matches c.requires.empty)

pub loop-pattern-preserved : goal.loop-pattern-preserved
loop-pattern-preserved c =
    let start : c.into_iter-pattern-iterator.result ≡ c.args.matches = c.into_iter-pattern-iterator.ensures.into_iter_gives in
    let turn = YieldsList-turn (YieldsList-from_first (λ (x : ℕ). x) (λ (rest : List ℕ). rest) {s = c.into_iter-pattern-iterator.result} c.args.matches start) c.loop-pattern.yielded _ c.loop-pattern.yielded_by _ _ c.in-Some.pattern c.in-Some.is c.next.ensures.steps in
    let more = matches_more c.args.table.now.states c.args.sid c.args.matches (length c.loop-pattern.yielded) c.in-Some.pattern c.requires.added turn.0 turn.1 in
    c.in_ok-add_match.ensures.listed
    ∙ ap (λ (table : Tables). record table { states = push_match table.states c.args.sid c.in-Some.pattern }) c.loop-pattern.invariant
    ∙ ap (λ (states : List State). record c.args.table.now { states = states })
    (more ∙ ap (with_matches c.args.table.now.states c.args.sid c.args.matches) (sym (length_push c.loop-pattern.yielded c.in-Some.pattern)))

pub returns-clause-listed : goal.returns-clause-listed
returns-clause-listed c =
    let start : c.into_iter-pattern-iterator.result ≡ c.args.matches = c.into_iter-pattern-iterator.ensures.into_iter_gives in
    let end = YieldsList-end (YieldsList-from_first (λ (x : ℕ). x) (λ (rest : List ℕ). rest) {s = c.into_iter-pattern-iterator.result} c.args.matches start) c.loop-pattern.yielded _ c.loop-pattern.yielded_by _ _ c.in-None.is c.next.ensures.steps in
    let past : length c.args.matches ≤ length c.loop-pattern.yielded = omega (arith, end.1) in
    c.loop-pattern.invariant
    ∙ ap (λ (states : List State). record c.args.table.now { states = states }) (matches_all c.args.table.now.states c.args.sid c.args.matches (length c.loop-pattern.yielded) past)
