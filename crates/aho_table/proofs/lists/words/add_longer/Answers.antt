-- The pattern stands behind the own ones, and room behind it.
use Rattle.std.proofs.Common.{◌≡◌, ◌+◌, ◌-◌, List, [], ◌++◌, ◌∷◌, ℕ, take, drop, replicate, ap, ◌∙◌, arith}
use Rattle.std.specs.Prelude.{vec_len}
use Rattle.std.proofs.lemmas.List.{take_all}
use Rattle.aho_table.specs.Words.{room, patterns_at, laid}
use Rattle.aho_table.proofs.Laying.{OnOk-made, patterns_at-taken, length-taken, begun-more}
use Rattle.aho_table.proofs.lists.words.add_longer.Goals as goal

pub returns-clause-added : goal.returns-clause-added
returns-clause-added c =
    let old = c.args.words.now.items in
    let own = take c.args.own (drop c.args.list old) in
    let pushed = c.push.new.self.items in
    let all : pushed ≡ old ++ laid (patterns_at old c.args.list ++ c.args.pattern ∷ []) =
    c.in_ok-push.ensures.items
    ∙ ap (λ (ws : List ℕ). ws ++ c.args.pattern ∷ []) c.in_ok-begin.ensures.begun
    ∙ begun-more old own (c.args.pattern ∷ []) (c.args.own + 1) (omega (arith, length-taken old c.args.list c.args.own c.requires.within))
    ∙ ap (λ (xs : List ℕ). old ++ laid (xs ++ c.args.pattern ∷ [])) (patterns_at-taken old c.args.list c.args.own c.requires.len)
    in
    let behind : c.len-end.result + c.args.own - vec_len c.push.new.self ≡ c.args.own = omega arith in
    OnOk-made c.resize.result c.resize.new.self.items _ _ _ c.resize.ensures.items
    (
    ap (λ (ws : List ℕ). ws ++ replicate (c.len-end.result + c.args.own - vec_len c.push.new.self) room) (take_all (c.len-end.result + c.args.own) pushed (omega arith))
    ∙ ap (λ (n : ℕ). pushed ++ replicate n room) behind
    ∙ ap (λ (ws : List ℕ). ws ++ replicate c.args.own room) all
    )
