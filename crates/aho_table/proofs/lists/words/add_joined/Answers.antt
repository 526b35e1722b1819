-- The patterns of the other list stand behind the own ones.
use Rattle.std.proofs.Common.{◌+◌, List, ◌++◌, ◌∷◌, ℕ, take, drop, ap, ◌∙◌, arith}
use Rattle.std.specs.Prelude.{slice_range}
use Rattle.aho_table.specs.Words.{length_mark, patterns_at, laid}
use Rattle.aho_table.proofs.Laying.{OnOk-made, slice-front, patterns_at-taken, length-taken, begun-more}
use Rattle.aho_table.proofs.lists.words.add_joined.Goals as goal

pub returns-clause-added : goal.returns-clause-added
returns-clause-added c =
    let old = c.args.words.now.items in
    let own = take c.args.own (drop c.args.list old) in
    let others = take c.args.more (drop c.args.other old) in
    let begun = old ++ (length_mark + (c.args.own + c.args.more)) ∷ own in
    OnOk-made c.extend_from_within.result c.extend_from_within.new.self.items _ _ _ c.extend_from_within.ensures.items
    (
    ap (λ (ws : List ℕ). ws ++ slice_range ws c.args.other (c.args.other + c.args.more)) c.in_ok-begin.ensures.begun
    ∙ ap (λ (ws : List ℕ). begun ++ ws) (slice-front old ((length_mark + (c.args.own + c.args.more)) ∷ own) c.args.other c.args.more c.requires.within_too)
    ∙ begun-more old own others (c.args.own + c.args.more) (omega (arith, length-taken old c.args.list c.args.own c.requires.within, length-taken old c.args.other c.args.more c.requires.within_too))
    ∙ ap (λ (xs : List ℕ). old ++ laid (xs ++ others)) (patterns_at-taken old c.args.list c.args.own c.requires.len)
    ∙ ap (λ (xs : List ℕ). old ++ laid (patterns_at old c.args.list ++ xs)) (patterns_at-taken old c.args.other c.args.more c.requires.len_too)
    )
