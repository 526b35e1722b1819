-- The list is closed, and the empty one becomes it.
use Rattle.std.proofs.Common.{List, ℕ, length, refl, ap, ◌∙◌, arith}
use Rattle.aho_table.specs.Words.{length_at}
use Rattle.aho_table.proofs.Patterns.{own_within}
use Rattle.aho_table.proofs.Closed.{AreLaid-closed, HasPatterns-closed, closed_now}
use Rattle.aho_table.proofs.lists.words.share_patterns.Goals as goal

pub overflow_add-list : goal.overflow_add-list
overflow_add-list c =
    let own = c.len_at-own.ensures.len ∙ ap (λ (ws : List ℕ). length_at ws c.args.list) c.deref.ensures.value in
    let within = own_within c.args.words.now.items c.requires.laid.0 c.args.list c.requires.laid.1 c.requires.held in
    omega (arith, own, within, ap (λ (ws : List ℕ). length ws) c.deref.ensures.value)

pub close-requires-clause-end : goal.close-requires-clause-end
close-requires-clause-end c =
    let own = c.len_at-own.ensures.len ∙ ap (λ (ws : List ℕ). length_at ws c.args.list) c.deref.ensures.value in
    omega (arith, own)

pub close-requires-clause-within : goal.close-requires-clause-within
close-requires-clause-within c =
    let own = c.len_at-own.ensures.len ∙ ap (λ (ws : List ℕ). length_at ws c.args.list) c.deref.ensures.value in
    omega (arith, own, own_within c.args.words.now.items c.requires.laid.0 c.args.list c.requires.laid.1 c.requires.held)

pub returns-clause-listed : goal.returns-clause-listed
returns-clause-listed c =
    HasPatterns-closed c.args.words.now.items c.close.new.words.items c.requires.laid.0 c.args.list c.requires.laid.1 c.in_ok-close.ensures.closed (c.requires.held c.requires.some)

pub returns-clause-laid : goal.returns-clause-laid
returns-clause-laid c count more are within =
    AreLaid-closed c.args.words.now.items c.close.new.words.items count c.args.list are c.in_ok-close.ensures.closed more within

pub returns-clause-place : goal.returns-clause-place
returns-clause-place c =
    (refl, closed_now c.args.words.now.items c.close.new.words.items c.requires.laid.0 c.args.list c.requires.laid.1 c.in_ok-close.ensures.closed)
