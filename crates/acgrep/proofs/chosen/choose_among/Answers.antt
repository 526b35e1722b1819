-- A name more was looked at.
use Rattle.acgrep.proofs.Common.{common_steps, get_or, name_bytes}
use Rattle.std.proofs.Common.{◌+◌, ◌∷◌, ◌≡◌, Bor, List, [], arith, drop, ℕ}
use Rattle.acgrep.specs.Folders.{tree_of}
use Rattle.acgrep.specs.Rules.{rules_said}
use Rattle.acgrep.proofs.Choosing.{chosen-end, chosen-more}
use Rattle.acgrep.proofs.chosen.choose_among.Goals as goal

pub loop-name-preserved : goal.loop-name-preserved
loop-name-preserved g c =
    let i = c.loop-name.name-index in
    let names = c.args.names.now in
    let d : Bor (List ℕ) = record { ref_ptr = (0, 0); now = [] } in
    let cut : drop i names ≡ get_or names i d ∷ drop (i + 1) names = grind (arith, common_steps, c.loop-name-test.true) in
    chosen-more (tree_of g.F.Folders c.args.files.now) (rules_said c.args.rules.now) c.args.ways (name_bytes names) (get_or names i d).now (name_bytes (drop (i + 1) names)) c.loop-name.found _
    (rw cut at c.loop-name.invariant) c.in_ok-choose_one.ensures.chooses

pub returns-clause-chosen : goal.returns-clause-chosen
returns-clause-chosen g c =
    chosen-end (tree_of g.F.Folders c.args.files.now) (rules_said c.args.rules.now) c.args.ways (name_bytes c.args.names.now) (drop c.loop-name.name-index c.args.names.now) c.loop-name.found
    (grind (arith, common_steps, c.loop-name-test.false)) c.loop-name.invariant
