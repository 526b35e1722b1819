use Rattle.std.proofs.Common.{◌≡◌, ◌≤◌, ◌∙◌, ℕ, Bool, List, [], ◌∷◌, ◌++◌, length, sym, ap, arith}
use Rattle.std.proofs.lemmas.Iterator.Consumers.{YieldsList-from_first, YieldsList-turn, YieldsList-end}
use Rattle.std.proofs.lemmas.List.{length_push}
use Rattle.aho_table.specs.Table.{State, Tables, set_transition, without_row}
use Rattle.bench.proofs.Relinking.{transitions_all, transitions_more, transitions_none, with_transitions}
use Rattle.bench.proofs.relinked.add_transitions.Goals as goal

pub loop-byte-init : goal.loop-byte-init
loop-byte-init c =
    ap (λ (states : List State). record c.args.table.now { states = states }) (transitions_none c.args.table.now.states c.args.sid c.args.transitions c.requires.empty)

pub loop-byte-preserved : goal.loop-byte-preserved
loop-byte-preserved c =
    let start : c.into_iter-byte-iterator.result ≡ c.args.transitions = c.into_iter-byte-iterator.ensures.into_iter_gives in
    let turn = YieldsList-turn (YieldsList-from_first (λ (x : ℕ × ℕ). x) (λ (rest : List (ℕ × ℕ)). rest) {s = c.into_iter-byte-iterator.result} c.args.transitions start) c.loop-byte.yielded _ c.loop-byte.yielded_by _ _ (c.in-Some.byte, c.in-Some.next) c.in-Some.is c.next.ensures.steps in
    let more = transitions_more c.args.table.now.states c.args.sid c.args.transitions (length c.loop-byte.yielded) (c.in-Some.byte, c.in-Some.next) c.requires.added c.requires.rising turn.0 turn.1 in
    let without : List Bool = without_row c.loop-byte.table.rows c.args.sid in
    let now = with_transitions c.args.table.now.states c.args.sid c.args.transitions (length (c.loop-byte.yielded ++ (c.in-Some.byte, c.in-Some.next) ∷ [])) in
    c.in_ok-set.ensures.set
    ∙ ap (λ (table : Tables). record table { states = set_transition table.states c.args.sid c.in-Some.byte c.in-Some.next; rows = without }) c.loop-byte.invariant
    ∙ ap (λ (states : List State). record c.args.table.now { states = states; rows = without })
    (more ∙ ap (with_transitions c.args.table.now.states c.args.sid c.args.transitions) (sym (length_push c.loop-byte.yielded (c.in-Some.byte, c.in-Some.next))))
    ∙ ap (λ (rows : List Bool). record c.args.table.now { states = now; rows = rows }) (sym (ap (λ (t : Tables). t.rows) c.in_ok-set.ensures.set))

pub returns-clause-set : goal.returns-clause-set
returns-clause-set c =
    let start : c.into_iter-byte-iterator.result ≡ c.args.transitions = c.into_iter-byte-iterator.ensures.into_iter_gives in
    let end = YieldsList-end (YieldsList-from_first (λ (x : ℕ × ℕ). x) (λ (rest : List (ℕ × ℕ)). rest) {s = c.into_iter-byte-iterator.result} c.args.transitions start) c.loop-byte.yielded _ c.loop-byte.yielded_by _ _ c.in-None.is c.next.ensures.steps in
    let past : length c.args.transitions ≤ length c.loop-byte.yielded = omega (arith, end.1) in
    c.loop-byte.invariant
    ∙ ap (λ (states : List State). record c.args.table.now { states = states; rows = c.loop-byte.table.rows }) (transitions_all c.args.table.now.states c.args.sid c.args.transitions (length c.loop-byte.yielded) past)
