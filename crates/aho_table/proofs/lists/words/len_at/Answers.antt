-- The word before a list tells its length.
use Rattle.std.proofs.Common.{◌≡◌, ◌≢◌, ℕ, ◌+◌, ◌-◌, ◌<◌, List, length, get_or, sym, ap, ◌∙◌, inl, inr, arith}
use Rattle.std.proofs.lemmas.Bool.{cases_lt}
use Rattle.std.proofs.lemmas.List.{get_or_past}
use Rattle.std.proofs.lemmas.Grind.{get_or_default_zero}
use Rattle.aho_table.specs.Words.{room, length_mark, word_at, told_length, length_at}
use Rattle.aho_table.proofs.Patterns.{told_length-some, told_length-room, length_at-zero, length_at-some}
use Rattle.aho_table.proofs.lists.words.len_at.Goals as goal

-- the place before a list is inside, and what stands there
inside : (words : List ℕ) (list : ℕ) → list ≢ 0 → 0 < length_at words list → list - 1 < length words
inside words list ne some =
    elim (cases_lt (list - 1) (length words)) [
      | inl below ↦ below
      | inr above ↦ absurd (omega (arith, some, length_at-some words list ne, ap told_length (get_or_past words (list - 1) room above), told_length-room))
    ]

mark : (words : List ℕ) (list : ℕ) → list ≢ 0 → 0 < length_at words list → get_or words (list - 1) 0 ≡ length_mark + length_at words list
mark words list ne some =
    let is = length_at-some words list ne in
    let tells = told_length-some (word_at words (list - 1)) (omega (arith, some, is)) in
    omega (arith, is, tells.1, get_or_default_zero words (list - 1) room (inside words list ne some))

pub returns-then-list-eq0 : goal.returns-then-list-eq0
returns-then-list-eq0 c = record { len = sym (ap (length_at c.args.words.now) c.if-list-eq0.true ∙ length_at-zero c.args.words.now) }

pub bounds-words-list : goal.bounds-words-list
bounds-words-list c = inside c.args.words.now c.args.list c.if-list-eq0.false (c.requires.held c.if-list-eq0.false)

pub offset_bounds-words-list : goal.offset_bounds-words-list
offset_bounds-words-list c = omega (arith, inside c.args.words.now c.args.list c.if-list-eq0.false (c.requires.held c.if-list-eq0.false))

pub overflow_sub-result-2 : goal.overflow_sub-result-2
overflow_sub-result-2 c = omega (arith, mark c.args.words.now c.args.list c.if-list-eq0.false (c.requires.held c.if-list-eq0.false))

pub returns : goal.returns
returns c = record { len = omega (arith, mark c.args.words.now c.args.list c.if-list-eq0.false (c.requires.held c.if-list-eq0.false)) }
