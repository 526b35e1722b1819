-- A file more is looked at.
use Rattle.acredact.proofs.Common.{ap, arith, at_drop_all, at_drop_more, both_seen, name_bytes, quest_of, ◌∙◌}
use Rattle.acredact.proofs.LookedFiles.{looks_failed, looks_more, looks_of_none}
use Rattle.acredact.proofs.Turns.{turn_end, turn_fails, turn_first, turn_next}
use Rattle.acredact.proofs.look.look_at_files.Goals as goal

pub loop-name-init : goal.loop-name-init
loop-name-init g c = λ s by. (by, turn_first)

pub loop-name-preserved : goal.loop-name-preserved
loop-name-preserved g c = λ s by.
    let (now, turn) = c.loop-name.invariant s by in
    let one = c.in-Ok.ensures in (
      one.still s now,
      turn_next turn (at_drop_more name_bytes c.args.files.now.names.now c.loop-name.name-index _ c.loop-name-test.true) (c.both_seen-verdict.ensures.both ∙ ap (both_seen c.loop-name.verdict) c.verdict_of.ensures.seen)
          (looks_more g.E.Sink (quest_of g.F.Folder c.args.files.now s) c.in-Ok.look (one.looks s now) c.tell_look.ensures.told c.tell_look.ensures.quiet),
    )

pub returns-in-Err-clause-sees : goal.returns-in-Err-clause-sees
returns-in-Err-clause-sees g c = λ s by.
    let (now, turn) = c.loop-name.invariant s by in
    turn_fails turn (at_drop_more name_bytes c.args.files.now.names.now c.loop-name.name-index _ c.loop-name-test.true) (looks_failed g.E.Sink (quest_of g.F.Folder c.args.files.now s) (c.in-Err.ensures.looks s now).1)

pub returns-clause-sees : goal.returns-clause-sees
returns-clause-sees g c = λ s by.
    turn_end (c.loop-name.invariant s by).1 (at_drop_all name_bytes c.args.files.now.names.now c.loop-name.name-index (omega (arith, c.loop-name-test.false))) (looks_of_none g.E.Sink (quest_of g.F.Folder c.args.files.now s))
