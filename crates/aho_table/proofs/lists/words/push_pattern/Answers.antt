-- The list grows where it stands, or stands once more at the end.
use Rattle.std.proofs.Common.{◌≡◌, ◌+◌, List, [], ◌∷◌, ◌++◌, ℕ, length, sym, ap, subst, ◌∙◌, arith}
use Rattle.aho_table.specs.Words.{room, word_at, length_at, patterns_at, HasPatterns, AreLaid}
use Rattle.aho_table.proofs.Patterns.{own_within, length_at-fewer, mark_at}
use Rattle.aho_table.proofs.Laying.{pushed-len, pushed-small, laid-grouped}
use Rattle.aho_table.proofs.PatternChanges.{AreLaid-laid, HasPatterns-laid, AreLaid-lengthened, HasPatterns-lengthened}
use Rattle.aho_table.proofs.lists.words.push_pattern.Goals as goal

pub has_room-requires : goal.has_room-requires
has_room-requires c =
    let own = c.len_at-own.ensures.len ∙ ap (λ (ws : List ℕ). length_at ws c.args.list) c.deref.ensures.value in
    let within = own_within c.args.words.now.items c.requires.laid.0 c.args.list c.requires.laid.1 c.requires.held in
    record { within = omega (arith, own, within, ap (λ (ws : List ℕ). length ws) c.deref-2.ensures.value) }

pub overflow_add-list : goal.overflow_add-list
overflow_add-list c =
    let own = c.len_at-own.ensures.len ∙ ap (λ (ws : List ℕ). length_at ws c.args.list) c.deref.ensures.value in
    let within = own_within c.args.words.now.items c.requires.laid.0 c.args.list c.requires.laid.1 c.requires.held in
    omega (arith, own, within, ap (λ (ws : List ℕ). length ws) c.deref.ensures.value)

pub lengthen-requires-clause-within : goal.lengthen-requires-clause-within
lengthen-requires-clause-within c =
    let own = c.len_at-own.ensures.len ∙ ap (λ (ws : List ℕ). length_at ws c.args.list) c.deref.ensures.value in
    omega (arith, own, own_within c.args.words.now.items c.requires.laid.0 c.args.list c.requires.laid.1 c.requires.held)

pub lengthen-requires-clause-few : goal.lengthen-requires-clause-few
lengthen-requires-clause-few c =
    let ne = (c.has_room.ensures.room c.if-has_room.true).0 in
    omega (
      arith,
      mark_at c.args.words.now.items c.args.list (c.requires.held ne),
      c.requires.laid.2,
      length_at-fewer c.args.words.now.items c.requires.laid.0 c.args.list c.requires.laid.1,
    )

pub returns-then-has_room-clause-laid : goal.returns-then-has_room-clause-laid
returns-then-has_room-clause-laid c count are few =
    let old = c.args.words.now.items in
    let own = c.len_at-own.ensures.len ∙ ap (λ (ws : List ℕ). length_at ws c.args.list) c.deref.ensures.value in
    let found = c.has_room.ensures.room c.if-has_room.true in
    let free : word_at old (c.args.list + length_at old c.args.list) ≡ room =
    ap (λ (n : ℕ). word_at old (c.args.list + n)) (sym own) ∙ ap (λ (ws : List ℕ). word_at ws (c.args.list + c.len_at-own.result)) (sym c.deref-2.ensures.value) ∙ found.1
    in
    AreLaid-lengthened old c.lengthen.new.words.items count c.args.list c.as_usize-pattern.result are few (c.requires.held found.0) free c.as_usize-pattern.ensures.bound c.in_ok-lengthen.ensures.lengthened

pub returns-then-has_room-clause-listed : goal.returns-then-has_room-clause-listed
returns-then-has_room-clause-listed c =
    let old = c.args.words.now.items in
    let own = c.len_at-own.ensures.len ∙ ap (λ (ws : List ℕ). length_at ws c.args.list) c.deref.ensures.value in
    let found = c.has_room.ensures.room c.if-has_room.true in
    let free : word_at old (c.args.list + length_at old c.args.list) ≡ room =
    ap (λ (n : ℕ). word_at old (c.args.list + n)) (sym own) ∙ ap (λ (ws : List ℕ). word_at ws (c.args.list + c.len_at-own.result)) (sym c.deref-2.ensures.value) ∙ found.1
    in
    let listed = HasPatterns-lengthened old c.lengthen.new.words.items c.requires.laid.0 c.args.list c.as_usize-pattern.result c.requires.laid.1 c.requires.laid.2 (c.requires.held found.0) free c.as_usize-pattern.ensures.bound c.in_ok-lengthen.ensures.lengthened in
    subst (λ (p : ℕ). HasPatterns old c.lengthen.new.words.items c.args.list c.args.list (patterns_at old c.args.list ++ p ∷ [])) c.as_usize-pattern.ensures.value listed

pub add_longer-requires-clause-within : goal.add_longer-requires-clause-within
add_longer-requires-clause-within c =
    let own = c.len_at-own.ensures.len ∙ ap (λ (ws : List ℕ). length_at ws c.args.list) c.deref.ensures.value in
    omega (arith, own, own_within c.args.words.now.items c.requires.laid.0 c.args.list c.requires.laid.1 c.requires.held)

pub add_longer-requires-clause-few : goal.add_longer-requires-clause-few
add_longer-requires-clause-few c =
    let own = c.len_at-own.ensures.len ∙ ap (λ (ws : List ℕ). length_at ws c.args.list) c.deref.ensures.value in
    omega (arith, own, c.requires.laid.2, length_at-fewer c.args.words.now.items c.requires.laid.0 c.args.list c.requires.laid.1)

pub returns-in-Ok-clause-laid : goal.returns-in-Ok-clause-laid
returns-in-Ok-clause-laid c count are few =
    let old = c.args.words.now.items in
    let items = patterns_at old c.args.list ++ c.as_usize-pattern.result ∷ [] in
    let len = pushed-len old count c.args.list c.as_usize-pattern.result are in
    let fewer = length_at-fewer old count c.args.list are in
    subst (λ (ws : List ℕ). AreLaid ws (count + 1)) (sym (c.in-Ok.ensures.added ∙ laid-grouped old items c.len_at-own.result))
    (AreLaid-laid old count (count + 1) items c.len_at-own.result are (omega arith) (omega arith) (omega arith)
    (pushed-small old count c.args.list c.as_usize-pattern.result are c.as_usize-pattern.ensures.bound))

pub returns-in-Ok-clause-listed : goal.returns-in-Ok-clause-listed
returns-in-Ok-clause-listed c =
    let old = c.args.words.now.items in
    let items = patterns_at old c.args.list ++ c.as_usize-pattern.result ∷ [] in
    let count = c.requires.laid.0 in
    let are = c.requires.laid.1 in
    let len = pushed-len old count c.args.list c.as_usize-pattern.result are in
    let fewer = length_at-fewer old count c.args.list are in
    let made : length old + 1 ≡ c.len-before.result + 1 = omega arith in
    subst (λ (p : ℕ). HasPatterns old c.add_longer.new.words.items c.args.list (c.len-before.result + 1) (patterns_at old c.args.list ++ p ∷ [])) c.as_usize-pattern.ensures.value
    (subst (λ (n : ℕ). HasPatterns old c.add_longer.new.words.items c.args.list n items) made
    (subst (λ (ws : List ℕ). HasPatterns old ws c.args.list (length old + 1) items) (sym (c.in-Ok.ensures.added ∙ laid-grouped old items c.len_at-own.result))
    (HasPatterns-laid old count (count + 1) items c.len_at-own.result are (omega arith) (omega arith) (omega (arith, c.requires.laid.2))
    (pushed-small old count c.args.list c.as_usize-pattern.result are c.as_usize-pattern.ensures.bound) c.args.list (omega (arith, len)))))
