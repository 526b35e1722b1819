use Rattle.std.proofs.Common.{◌≡◌, ◌∙◌, ap, sym}
use Rattle.std.specs.Prelude.{Result, Ok, Err, OnOk}
use Rattle.aho_corasick.specs.ReadOut.{states_of}
use Rattle.aho_table.specs.Table.{depth_in}
use Rattle.aho_hybrid.proofs.Depths.{depths-added, depths-passed}
use Rattle.aho_hybrid.proofs.fill.add_depth.Goals as goal

-- what follows where a call does not fail
if_ok : {X E : Type 0} (r : Result X E) (P Q : Type 0) → (P → Q) → OnOk r P → OnOk r Q
if_ok (Ok x) P Q f h = f h
if_ok (Err e) P Q f h = tt

pub returns-then-is_deep-clause-depths : goal.returns-then-is_deep-clause-depths
returns-then-is_deep-clause-depths c =
    depths-passed c.args.row_depth (states_of c.args.nfa.now) c.args.index c.args.depths.now.items c.requires.within (sym c.is_deep.ensures.deep ∙ c.if-is_deep.true) c.requires.depths

pub returns-clause-depths : goal.returns-clause-depths
returns-clause-depths c =
    let states = states_of c.args.nfa.now in
    let depth : c.new_unchecked-2.result ≡ depth_in states c.args.index = c.new_unchecked-2.ensures.value ∙ c.depth-depth.ensures.depth ∙ ap (depth_in states) c.new_unchecked.ensures.value in
    if_ok c.push.result _ _
    (λ pushed.
    depths-added c.args.row_depth states c.args.index c.new_unchecked-2.result c.args.depths.now.items c.push.new.list.items c.requires.within (sym c.is_deep.ensures.deep ∙ c.if-is_deep.false) c.requires.depths
    pushed depth) c.push.ensures.pushed
