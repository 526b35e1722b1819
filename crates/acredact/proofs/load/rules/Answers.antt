-- What an item more gives is loaded. The forms of all stand behind them, and hide them.
use Rattle.acredact.proofs.Common.{CannotLoadOne, all_given, bytes_left, given_of, inl, reading_of_lists, rules, secrets_of}
use Rattle.acredact.specs.Loading.{AreRead}
use Rattle.acredact.proofs.Hiding.{hide_secrets}
use Rattle.acredact.proofs.Loaded.{fails_at, given_all, given_item, reading_from}
use Rattle.acredact.proofs.load.rules.Goals as goal

pub loop-number-preserved : goal.loop-number-preserved
loop-number-preserved g c = given_item given_of c.args.given.now c.loop-number.number _ c.loop-number-test.true c.loop-number.invariant c.in-Ok.ensures.added

pub returns-in-Err-clause-fails : goal.returns-in-Err-clause-fails
returns-in-Err-clause-fails g c =
    inl (reading_from g.F.Folder c.lists_of-lists.result c.lists_of-lists.ensures.folder c.lists_of-lists.ensures.rules (λ r. CannotLoadOne r (all_given c.args.given.now) c.in-Err.failure)
    (fails_at (reading_of_lists g.F.Folder c.lists_of-lists.result) c.args.given.now c.loop-number.number _ _ c.loop-number-test.true c.in-Err.ensures.fails))

pub returns-clause-given : goal.returns-clause-given
returns-clause-given g c =
    let added = given_all given_of c.args.given.now c.loop-number.number c.loop-number-test.false c.loop-number.invariant in
    let read = reading_from g.F.Folder c.lists_of-lists.result c.lists_of-lists.ensures.folder c.lists_of-lists.ensures.rules (λ r. AreRead r (all_given c.args.given.now) added.more (bytes_left c.args.input.now) (bytes_left c.loop-number.input)) added.of in
    record { plain = secrets_of c.loop-number.rules.items; read = rw added.grown read; are = search rules; hidden = hide_secrets _ _ }
