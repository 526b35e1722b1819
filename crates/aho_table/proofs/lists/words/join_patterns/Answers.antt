-- A list that is laid down at the end has the patterns of both, and so has one that is shared with the empty list.
use Rattle.std.proofs.Common.{◌≡◌, inr, ◌+◌, List, ◌++◌, ℕ, length, sym, ap, subst, ◌∙◌, arith}
use Rattle.aho_table.specs.Words.{length_at, patterns_at, HasPatterns, AreLaid}
use Rattle.aho_table.proofs.Patterns.{own_within, length_at-fewer}
use Rattle.aho_table.proofs.Laying.{joined-len, joined-small, laid-alone}
use Rattle.aho_table.proofs.PatternChanges.{AreLaid-laid, HasPatterns-laid}
use Rattle.aho_table.proofs.Results.{IfOk-more, OnOk-more}
use Rattle.aho_table.proofs.Closed.{HasPatterns-joined}
use Rattle.aho_table.proofs.lists.words.join_patterns.Goals as goal

pub share_patterns-requires-clause-laid : goal.share_patterns-requires-clause-laid
share_patterns-requires-clause-laid c = (c.requires.laid.0, c.requires.laid.1, omega (arith, c.requires.laid.2))

pub returns-then-list-eq0-clause-listed : goal.returns-then-list-eq0-clause-listed
returns-then-list-eq0-clause-listed c =
    IfOk-more c.share_patterns.result
    (λ made has. HasPatterns-joined c.args.words.now.items c.share_patterns.new.words.items c.args.list made (patterns_at c.args.words.now.items c.args.other) c.if-list-eq0.true has)
    c.share_patterns.ensures.listed

pub returns-then-list-eq0-clause-laid : goal.returns-then-list-eq0-clause-laid
returns-then-list-eq0-clause-laid c =
    OnOk-more c.share_patterns.result
    (λ more count are few. more count (count + length_at c.args.words.now.items c.args.other) are (omega arith))
    c.share_patterns.ensures.laid

pub returns-then-list-eq0-clause-place : goal.returns-then-list-eq0-clause-place
returns-then-list-eq0-clause-place c = IfOk-more c.share_patterns.result (λ made is. inr is) c.share_patterns.ensures.place

pub add_joined-requires-clause-within : goal.add_joined-requires-clause-within
add_joined-requires-clause-within c =
    let own = c.len_at-own.ensures.len ∙ ap (λ (ws : List ℕ). length_at ws c.args.list) c.deref.ensures.value in
    omega (arith, own, own_within c.args.words.now.items c.requires.laid.0 c.args.list c.requires.laid.1 c.requires.held)

pub add_joined-requires-clause-within_too : goal.add_joined-requires-clause-within_too
add_joined-requires-clause-within_too c =
    let more = c.len_at-more.ensures.len ∙ ap (λ (ws : List ℕ). length_at ws c.args.other) c.deref-2.ensures.value in
    omega (arith, more, own_within c.args.words.now.items c.requires.laid.0 c.args.other c.requires.laid.1 c.requires.other)

pub add_joined-requires-clause-few : goal.add_joined-requires-clause-few
add_joined-requires-clause-few c =
    let own = c.len_at-own.ensures.len ∙ ap (λ (ws : List ℕ). length_at ws c.args.list) c.deref.ensures.value in
    let more = c.len_at-more.ensures.len ∙ ap (λ (ws : List ℕ). length_at ws c.args.other) c.deref-2.ensures.value in
    omega (arith, own, more, c.requires.laid.2, length_at-fewer c.args.words.now.items c.requires.laid.0 c.args.list c.requires.laid.1)

pub returns-in-Ok-clause-laid : goal.returns-in-Ok-clause-laid
returns-in-Ok-clause-laid c count are few =
    let old = c.args.words.now.items in
    let items = patterns_at old c.args.list ++ patterns_at old c.args.other in
    let len = joined-len old count c.args.list c.args.other are in
    let fewer = length_at-fewer old count c.args.list are in
    subst (λ (ws : List ℕ). AreLaid ws (count + length_at old c.args.other)) (sym (c.in-Ok.ensures.added ∙ laid-alone old items))
    (AreLaid-laid old count (count + length_at old c.args.other) items 0 are (omega arith) (omega arith) (omega arith)
    (joined-small old count c.args.list c.args.other are))

pub returns-in-Ok-clause-listed : goal.returns-in-Ok-clause-listed
returns-in-Ok-clause-listed c =
    let old = c.args.words.now.items in
    let items = patterns_at old c.args.list ++ patterns_at old c.args.other in
    let count = c.requires.laid.0 in
    let are = c.requires.laid.1 in
    let len = joined-len old count c.args.list c.args.other are in
    let fewer = length_at-fewer old count c.args.list are in
    let made : length old + 1 ≡ c.len-end.result + 1 = omega arith in
    subst (λ (n : ℕ). HasPatterns old c.add_joined.new.words.items c.args.list n items) made
    (subst (λ (ws : List ℕ). HasPatterns old ws c.args.list (length old + 1) items) (sym (c.in-Ok.ensures.added ∙ laid-alone old items))
    (HasPatterns-laid old count (count + length_at old c.args.other) items 0 are (omega arith) (omega arith) (omega (arith, c.requires.laid.2))
    (joined-small old count c.args.list c.args.other are) c.args.list (omega (arith, len, c.requires.other c.requires.some))))
